use Rattle.std.proofs.Common.{◌≤◌, ◌++◌, ◌∷◌, [], ap, arith, sym, ◌∙◌}
use Rattle.ap_unify.proofs.SolvedLemmas.{last_known}
use Rattle.ap_unify.specs.Solved.{place_for, variables_of}
use Rattle.ap_unify.proofs.solved.take_solved.Goals as goal

pub taking-preserved : goal.taking-preserved
taking-preserved c = λ r l h.
    let k = c.taking.solved in
    let m = c.learn.new.solved in
    let a = c.in-Some.last in
    let enough : c.args.left ≤ a.behind = omega (arith, c.if-last-left.false) in
    last_known r k m (place_for k (variables_of a.pair)) a (omega (arith, l, enough))
    (c.in-Some.ensures.items ∙ ap (λ z. z ++ a ∷ []) (sym c.learn.ensures.awaited)) c.in_ok-learn.ensures.known (c.taking.invariant r l h)
