-- What is left, within the layers, is all.
use Rattle.std.proofs.Common.{◌≡◌, []}
use Rattle.ap_spines.specs.Spines.{raw_goal_within}
use Rattle.ap_trees.specs.Trees.{goal_of_tree}
use Rattle.ap_scopes.specs.Resolution.{made, resolved_goal}
use Rattle.ap_scopes.specs.Views.{IsNumbered, declared_of, found_of}
use Rattle.ap_scopes.proofs.TreeSizes.{goal_size}
use Rattle.ap_scopes.proofs.owned.own_goal.Given as goal

abbrev pub invariant-resolving : goal.invariant-resolving
invariant-resolving l = record {
  all : made (raw_goal_within l.layers.items) (resolved_goal (declared_of l.declared) [] (goal_of_tree l.rest) (found_of l.found)) ≡ resolved_goal (declared_of l.fn.declared) [] (goal_of_tree l.fn.goal) (found_of l.fn.found);
  numbered : IsNumbered l.found;
}

abbrev pub decreases-resolving : goal.decreases-resolving
decreases-resolving l = goal_size (goal_of_tree l.rest)
