-- The terms that closures are, and their heads.
use Rattle.std.specs.Prelude.{List, map}
use Rattle.ap_defs.specs.Terms as terms
use Rattle.ap_defs.specs.Terms.{NominalTerm, act_term, term_of}
use Rattle.ap_checks.specs.OpenEnvironments.{put_in}
use Rattle.ap_judge.specs.Cited.{cited_term}
use Rattle.ap_judge.specs.declared.closures.Head.{Head}
use Rattle.ap_judge.specs.declared.closures.Head.TheVariants as heads
use Rattle.ap_judge.specs.declared.closures.Closure.{Closure}
use Rattle.ap_judge.specs.declared.closures.Closure.TheVariants as code
use Rattle.ap_judge.specs.declared.closures.ScopedTerms.{ScopedTerms}
use Rattle.ap_judge.specs.Scopes.{environment_of}

abbrev pub scoped_term : Closure → NominalTerm
scoped_term (code.Whole t) = cited_term t
scoped_term (code.Within scope t) = put_in (environment_of scope.standing.now) (term_of t.now)
scoped_term (code.Moved p t) = act_term p.value.items (cited_term t)

abbrev pub scoped_terms : ScopedTerms → List NominalTerm
scoped_terms p = map (put_in (environment_of p.scope.standing.now)) (map term_of p.terms.now)

abbrev pub head_term : Head → NominalTerm
head_term heads.Unit = terms.unit
head_term (heads.Name a) = terms.name a
head_term (heads.Pair t u) = terms.pair (scoped_term t) (scoped_term u)
head_term (heads.App f t) = terms.app f (scoped_term t)
head_term (heads.Abs a t) = terms.abs a (scoped_term t)
head_term (heads.Susp p x) = terms.susp p.items x
