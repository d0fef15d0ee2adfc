-- What is left is no larger than what is dropped.
use Rattle.std.proofs.Common.{◌≤◌}
use Rattle.ap_trees.specs.declared.trees.Application.TheViews.{size-Args, size-Tree}
use Rattle.ap_trees.proofs.trees.+drops.Given as goal

abbrev pub invariant-Args::drop-loop-self : goal.invariant-Args::drop-loop-self
invariant-Args::drop-loop-self l = size-Args l.self ≤ size-Args l.fn.self

abbrev pub invariant-Tree::drop-loop-self : goal.invariant-Tree::drop-loop-self
invariant-Tree::drop-loop-self l = size-Tree l.self ≤ size-Tree l.fn.self
