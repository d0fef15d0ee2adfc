use Rattle.std.proofs.Common.{◌≡◌, [], ap, sym, ◌∙◌}
use Rattle.ap_defs.specs.Substitution.{under}
use Rattle.ap_defs.specs.Terms.{susp}
use Rattle.ap_equations.specs.Plain.{plain_term}
use Rattle.ap_unify.proofs.SameLemmas.{one_settled}
use Rattle.ap_unify.proofs.settled.keep.Goals as goal

pub returns-in_ok-insert-in-Some-Some : goal.returns-in_ok-insert-in-Some-Some
returns-in_ok-insert-in-Some-Some c =
    let l : plain_term c.args.pair.left ≡ susp [] c.in-Some-Some.x = rw c.in-Some-Some.is-0 at c.variable_of.ensures in
    let r : plain_term c.args.pair.right ≡ susp [] c.in-Some-Some.y = rw c.in-Some-Some.is-1 at c.variable_of-2.ensures in
    λ s h k. one_settled s c.args.settled.now (record { pairs = c.insert.new.self; turns = c.args.settled.now.turns; until = c.args.settled.now.until }) c.in-Some-Some.x c.in-Some-Some.y
    (λ q. c.in_ok-insert-in-Some-Some.ensures.updates.0 q) (sym (ap (under s) l) ∙ h ∙ ap (under s) r) k
