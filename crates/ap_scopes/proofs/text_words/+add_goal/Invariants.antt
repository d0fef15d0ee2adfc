-- The words of what is left, beside those so far, are those of all.
use Rattle.std.proofs.Common.{◌≡◌, ◌≤◌}
use Rattle.ap_trees.specs.Trees.{goal_of_tree}
use Rattle.ap_scopes.specs.Words.{with_words, goal_words}
use Rattle.ap_scopes.specs.Views.{words_in}
use Rattle.ap_scopes.proofs.TreeSizes.{goal_size}
use Rattle.ap_scopes.proofs.text_words.+add_goal.Given as goal

abbrev pub decreases-add_goal : goal.decreases-add_goal
decreases-add_goal l = goal_size (goal_of_tree l.goal.now)

abbrev pub invariant-loop-rest : goal.invariant-loop-rest
invariant-loop-rest l = record {
  all : with_words (words_in l.words) (goal_words (goal_of_tree l.rest)) ≡ with_words (words_in l.fn.words) (goal_words (goal_of_tree l.fn.goal));
  smaller : goal_size (goal_of_tree l.rest) ≤ goal_size (goal_of_tree l.fn.goal);
}

abbrev pub decreases-loop-rest : goal.decreases-loop-rest
decreases-loop-rest l = goal_size (goal_of_tree l.rest)
