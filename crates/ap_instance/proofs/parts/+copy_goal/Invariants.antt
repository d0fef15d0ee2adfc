-- What is left, within the layers, is all.
use Rattle.std.proofs.Common.{◌≡◌, ◌≤◌}
use Rattle.ap_defs.specs.Goals.{goal_of}
use Rattle.ap_defs.specs.Spines.{goal_within}
use Rattle.ap_instance.proofs.GoalLemmas.{goal_size}
use Rattle.ap_instance.proofs.parts.+copy_goal.Given as goal

abbrev pub decreases-copy_goal : goal.decreases-copy_goal
decreases-copy_goal l = goal_size (goal_of l.goal.now)

abbrev pub invariant-loop-rest : goal.invariant-loop-rest
invariant-loop-rest l = record {
  all : goal_within l.layers.items (goal_of l.rest) ≡ goal_of l.fn.goal;
  smaller : goal_size (goal_of l.rest) ≤ goal_size (goal_of l.fn.goal);
}

abbrev pub decreases-loop-rest : goal.decreases-loop-rest
decreases-loop-rest l = goal_size (goal_of l.rest)
