-- What closures and their parts stand for.
use Rattle.ap_defs.specs.Renaming.{rename_term}
use Rattle.ap_defs.specs.Terms.{NominalTerm, unit, name, pair, app, abs, susp, act_term, term_of}
use Rattle.ap_perm.specs.declared.closures.Closure.{Closure}
use Rattle.ap_perm.specs.declared.closures.Lent.{Lent}
use Rattle.ap_perm.specs.declared.closures.Opened.{Opened}
use Rattle.ap_perm.specs.declared.closures.Opened.TheVariants as parts

-- the term, renamed, with the swappings acting on it
abbrev pub closure_term : Closure → NominalTerm
closure_term c = act_term c.swaps.items (rename_term c.base (term_of c.term.now))

abbrev pub lent_term : Lent → NominalTerm
lent_term c = act_term c.swaps.now (rename_term c.base (term_of c.term.now))

abbrev pub opened_term : Opened → NominalTerm
opened_term parts.Unit = unit
opened_term (parts.Name a) = name a
opened_term (parts.Pair c d) = pair (closure_term c) (closure_term d)
opened_term (parts.App f c) = app f (closure_term c)
opened_term (parts.Abs a c) = abs a (closure_term c)
opened_term (parts.Susp p x) = susp p.items x
