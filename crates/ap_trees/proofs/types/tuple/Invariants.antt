use Rattle.std.proofs.Common.{◌≡◌, ◌++◌, ◌∷◌, [], vec_len}
use Rattle.ap_trees.specs.Trees.{types_of, type_of_tree}
use Rattle.ap_trees.specs.Types.{tuple_type}
use Rattle.ap_trees.proofs.types.tuple.Given as goal

abbrev pub invariant-loop-part : goal.invariant-loop-part
invariant-loop-part l = tuple_type (types_of l.parts.items ++ type_of_tree l.whole ∷ []) ≡ tuple_type (types_of l.fn.parts.items)

abbrev pub decreases-loop-part : goal.decreases-loop-part
decreases-loop-part l = vec_len l.parts
