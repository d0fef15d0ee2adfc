use Rattle.std.proofs.Common.{◌≤◌, length}
use Rattle.ap_defs.specs.Unification.{Stage}
use Rattle.ap_unify.specs.Solved.{AreSolved}
use Rattle.ap_unify.proofs.solved.take_solved.Given as goal

-- what was taken is solved
abbrev pub invariant-taking : goal.invariant-taking
invariant-taking l = (r : Stage) → length r.equations ≤ l.left → AreSolved r l.initial.solved → AreSolved r l.solved

abbrev pub decreases-taking : goal.decreases-taking
decreases-taking l = length l.solved.awaited.items
