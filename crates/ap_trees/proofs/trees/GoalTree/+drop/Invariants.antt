-- What is left is no larger than what is dropped.
use Rattle.std.proofs.Common.{◌≤◌}
use Rattle.ap_trees.specs.declared.trees.GoalTree.TheViews.{size-GoalTree}
use Rattle.ap_trees.proofs.trees.GoalTree.+drop.Given as goal

abbrev pub invariant-loop-self : goal.invariant-loop-self
invariant-loop-self l = size-GoalTree l.self ≤ size-GoalTree l.fn.self
