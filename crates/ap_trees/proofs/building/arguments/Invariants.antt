use Rattle.std.proofs.Common.{◌≡◌, vec_len}
use Rattle.ap_trees.specs.Terms.{argument_terms}
use Rattle.ap_trees.specs.Trees.{trees_of, terms_of}
use Rattle.ap_trees.proofs.TermLists.{onto}
use Rattle.ap_trees.proofs.building.arguments.Given as goal

abbrev pub invariant-loop-part : goal.invariant-loop-part
invariant-loop-part l = onto (trees_of l.parts.items) (terms_of l.args) ≡ argument_terms (trees_of l.fn.parts.items)

abbrev pub decreases-loop-part : goal.decreases-loop-part
decreases-loop-part l = vec_len l.parts
