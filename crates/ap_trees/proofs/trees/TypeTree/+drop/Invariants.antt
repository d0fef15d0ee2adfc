-- What is left is no larger than what is dropped.
use Rattle.std.proofs.Common.{◌≤◌}
use Rattle.ap_trees.specs.declared.trees.TypeTree.TheViews.{size-TypeTree}
use Rattle.ap_trees.proofs.trees.TypeTree.+drop.Given as goal

abbrev pub invariant-loop-self : goal.invariant-loop-self
invariant-loop-self l = size-TypeTree l.self ≤ size-TypeTree l.fn.self
