-- The words of what is left, beside those so far, are those of all.
use Rattle.std.proofs.Common.{◌≡◌, ◌≤◌}
use Rattle.ap_trees.specs.Trees.{type_of_tree}
use Rattle.ap_scopes.specs.Words.{with_words, words_of_type}
use Rattle.ap_scopes.specs.Views.{words_in}
use Rattle.ap_scopes.proofs.TreeSizes.{type_size}
use Rattle.ap_scopes.proofs.text_words.+add_type.Given as goal

abbrev pub decreases-add_type : goal.decreases-add_type
decreases-add_type l = type_size (type_of_tree l.tree.now)

abbrev pub invariant-loop-rest : goal.invariant-loop-rest
invariant-loop-rest l = record {
  all : with_words (words_in l.words) (words_of_type (type_of_tree l.rest)) ≡ with_words (words_in l.fn.words) (words_of_type (type_of_tree l.fn.tree));
  smaller : type_size (type_of_tree l.rest) ≤ type_size (type_of_tree l.fn.tree);
}

abbrev pub decreases-loop-rest : goal.decreases-loop-rest
decreases-loop-rest l = type_size (type_of_tree l.rest)
