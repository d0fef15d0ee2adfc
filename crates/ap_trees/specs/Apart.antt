-- Trees that are taken apart, put together again.
use Rattle.ap_trees.specs.Goals as goals
use Rattle.ap_trees.specs.Goals.{Goal}
use Rattle.ap_trees.specs.Terms as terms
use Rattle.ap_trees.specs.Terms.{Term}
use Rattle.ap_trees.specs.Trees.{goal_of_tree, term_of}
use Rattle.ap_trees.specs.declared.trees.TakenTree.{TakenTree}
use Rattle.ap_trees.specs.declared.trees.TakenTree.TheVariants as trees
use Rattle.ap_trees.specs.declared.trees.TakenGoal.{TakenGoal}
use Rattle.ap_trees.specs.declared.trees.TakenGoal.TheVariants as apart

abbrev pub tree_together : TakenTree → Term
tree_together (trees.Cell t u) = terms.Cell (term_of t) (term_of u)
tree_together (trees.Pair t u) = terms.Pair (term_of t) (term_of u)
tree_together (trees.Whole t) = term_of t

abbrev pub goal_together : TakenGoal → Goal
goal_together (apart.Both g h) = goals.Both (goal_of_tree g) (goal_of_tree h)
goal_together (apart.Either g h) = goals.Either (goal_of_tree g) (goal_of_tree h)
goal_together (apart.Equal t u) = goals.Equation (term_of t) (term_of u)
goal_together (apart.Whole g) = goal_of_tree g
