use Rattle.std.proofs.Common.{◌≡◌, ◌++◌, ◌∷◌, [], vec_len}
use Rattle.ap_trees.specs.Trees.{goal_of_tree, goals_of}
use Rattle.ap_syntax.specs.GoalReader.{joined_by}
use Rattle.ap_syntax.specs.Joins.{joining}
use Rattle.ap_syntax.proofs.joining.all_joined.Given as goal

abbrev pub invariant-loop-part : goal.invariant-loop-part
invariant-loop-part l = joined_by (joining l.join) (goals_of l.parts.items ++ goal_of_tree l.whole ∷ []) ≡ joined_by (joining l.join) (goals_of l.fn.parts.items)

abbrev pub decreases-loop-part : goal.decreases-loop-part
decreases-loop-part l = vec_len l.parts
