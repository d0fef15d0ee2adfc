use Rattle.std.proofs.Common.{◌≡◌, vec_len}
use Rattle.ap_trees.specs.Terms.{cells}
use Rattle.ap_trees.specs.Trees.{trees_of, term_of}
use Rattle.ap_trees.proofs.building.cells.Given as goal

abbrev pub invariant-loop-part : goal.invariant-loop-part
invariant-loop-part l = cells (trees_of l.parts.items) (term_of l.whole) ≡ cells (trees_of l.fn.parts.items) (term_of l.fn.end)

abbrev pub decreases-loop-part : goal.decreases-loop-part
decreases-loop-part l = vec_len l.parts
