use Rattle.std.proofs.Common.{[], ap₂, subst, sym, ◌≡◌}
use Rattle.ap_defs.specs.Substitution.{◌≐◌}
use Rattle.ap_defs.specs.Terms.{act_term, susp}
use Rattle.ap_equations.specs.Plain.{plain_term}
use Rattle.ap_fresh.proofs.StepLemmas.{on_ok}
use Rattle.ap_rules.proofs.WorkLemmas.{if_ok}
use Rattle.ap_unify.proofs.solved.is_solved.Goals as goal
use Rattle.ap_unify.specs.Moved.{waiting}
use Rattle.ap_unify.specs.Solved.{IsSolvedIn, IsSolvedBefore}

pub returns-in-Some-Some-clause-known : goal.returns-in-Some-Some-clause-known
returns-in-Some-Some-clause-known c =
    let m = c.args.sides.now in
    let l : plain_term c.args.pair.left ≡ susp [] c.in-Some-Some.x = rw c.in-Some-Some.is-0 at c.variable_of.ensures in
    let u : plain_term c.args.pair.right ≡ susp [] c.in-Some-Some.y = rw c.in-Some-Some.is-1 at c.variable_of-2.ensures in
    let e = ap₂ (λ v w. act_term (waiting m.left) v ≐ act_term (waiting m.right) w) (sym l) (sym u) in
    if_ok c.is_solved_for.result (λ same h. λ r k a. subst (IsSolvedIn r) e (h r k a)) c.is_solved_for.ensures.known

pub returns-in-Some-Some-clause-solved : goal.returns-in-Some-Some-clause-solved
returns-in-Some-Some-clause-solved c =
    let m = c.args.sides.now in
    let l : plain_term c.args.pair.left ≡ susp [] c.in-Some-Some.x = rw c.in-Some-Some.is-0 at c.variable_of.ensures in
    let u : plain_term c.args.pair.right ≡ susp [] c.in-Some-Some.y = rw c.in-Some-Some.is-1 at c.variable_of-2.ensures in
    let e = ap₂ (λ v w. act_term (waiting m.left) v ≐ act_term (waiting m.right) w) l u in
    on_ok c.is_solved_for.result (λ h. λ r k a. h r k (subst (IsSolvedBefore r c.args.behind) e a)) c.is_solved_for.ensures.solved
