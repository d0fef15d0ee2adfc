use Rattle.std.proofs.Common.{◌≡◌, [], ap, sym, ◌∙◌}
use Rattle.ap_defs.specs.Substitution.{under}
use Rattle.ap_defs.specs.Terms.{susp}
use Rattle.ap_equations.specs.Plain.{plain_term}
use Rattle.ap_unify.proofs.settled.is_kept.Goals as goal

pub returns-in-Some-Some : goal.returns-in-Some-Some
returns-in-Some-Some c =
    let l : plain_term c.args.pair.left ≡ susp [] c.in-Some-Some.x = rw c.in-Some-Some.is-0 at c.variable_of.ensures in
    let r : plain_term c.args.pair.right ≡ susp [] c.in-Some-Some.y = rw c.in-Some-Some.is-1 at c.variable_of-2.ensures in
    λ s h k. ap (under s) l ∙ k c.in-Some-Some.x c.in-Some-Some.y (sym c.contains.ensures ∙ h) ∙ sym (ap (under s) r)
