use Rattle.std.proofs.Common.{sym, ap, ◌∙◌}
use Rattle.ap_defs.specs.Permutations.{act_name}
use Rattle.ap_defs.specs.Renaming.{rename_name, rename_term}
use Rattle.ap_defs.specs.Terms.{act_term, name, term_of}
use Rattle.ap_perm.proofs.closures.Closure.settled.Goals as goal

pub returns-in-Some : goal.returns-in-Some
returns-in-Some c =
    let d = c.args.self in
    c.without_swaps.ensures ∙ ap (λ t. rename_term c.in-Some.base (term_of t)) c.in-Name.is ∙ ap name (c.in-Some.ensures.name ∙ ap (λ p. act_name p (rename_name d.base c.in-Name.a)) c.deref.ensures.value)
    ∙ sym (ap (λ t. act_term d.swaps.items (rename_term d.base (term_of t))) c.in-Name.is)
