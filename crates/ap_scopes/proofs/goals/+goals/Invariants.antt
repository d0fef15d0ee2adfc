-- What is left, within the layers, is all.
use Rattle.std.proofs.Common.{◌≡◌, ◌≤◌, ◌+◌, ◌*◌}
use Rattle.ap_spines.specs.Spines.{raw_goal_within}
use Rattle.ap_trees.specs.Trees.{goal_of_tree}
use Rattle.ap_scopes.specs.Resolution.{made, resolved_goal}
use Rattle.ap_scopes.specs.Views.{IsNumbered, declared_of, scope_of, found_of}
use Rattle.ap_scopes.proofs.TreeSizes.{goal_size}
use Rattle.ap_scopes.proofs.goals.+goals.Given as goal

abbrev pub decreases-resolved_goal : goal.decreases-resolved_goal
decreases-resolved_goal l = 3 * goal_size (goal_of_tree l.goal.now) + 1

abbrev pub decreases-innermost_goal : goal.decreases-innermost_goal
decreases-innermost_goal l = 3 * goal_size (goal_of_tree l.goal.now)

abbrev pub decreases-resolved_exists : goal.decreases-resolved_exists
decreases-resolved_exists l = 3 * goal_size (goal_of_tree l.inner.now) + 2

abbrev pub decreases-resolved_new : goal.decreases-resolved_new
decreases-resolved_new l = 3 * goal_size (goal_of_tree l.inner.now) + 2

abbrev pub invariant-innermost_goal-loop-rest : goal.invariant-innermost_goal-loop-rest
invariant-innermost_goal-loop-rest l = record {
  all : made (raw_goal_within l.layers.items) (resolved_goal (declared_of l.declared) (scope_of l.scope) (goal_of_tree l.rest) (found_of l.found)) ≡ made (raw_goal_within l.fn.layers.items) (resolved_goal (declared_of l.fn.declared) (scope_of l.fn.scope) (goal_of_tree l.fn.goal) (found_of l.fn.found));
  numbered : IsNumbered l.found;
  smaller : goal_size (goal_of_tree l.rest) ≤ goal_size (goal_of_tree l.fn.goal);
}

abbrev pub decreases-innermost_goal-loop-rest : goal.decreases-innermost_goal-loop-rest
decreases-innermost_goal-loop-rest l = goal_size (goal_of_tree l.rest)
