-- The least of what was found and of what is left is that of all.
use Rattle.std.proofs.Common.{◌≡◌, ◌≤◌}
use Rattle.ap_trees.specs.Trees.{goal_of_tree}
use Rattle.ap_scopes.specs.Flaws.{least_kind, goal_flaw}
use Rattle.ap_scopes.specs.Views.{declared_of}
use Rattle.ap_scopes.proofs.TreeSizes.{goal_size}
use Rattle.ap_scopes.proofs.goal_flaws.+goal_flaw.Given as goal

abbrev pub decreases-goal_flaw : goal.decreases-goal_flaw
decreases-goal_flaw l = goal_size (goal_of_tree l.goal.now)

abbrev pub invariant-loop-rest : goal.invariant-loop-rest
invariant-loop-rest l = record {
  all : least_kind l.flaw (goal_flaw (declared_of l.declared) (goal_of_tree l.rest)) ≡ goal_flaw (declared_of l.fn.declared) (goal_of_tree l.fn.goal);
  smaller : goal_size (goal_of_tree l.rest) ≤ goal_size (goal_of_tree l.fn.goal);
}

abbrev pub decreases-loop-rest : goal.decreases-loop-rest
decreases-loop-rest l = goal_size (goal_of_tree l.rest)
