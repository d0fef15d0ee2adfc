use Rattle.std.proofs.Common.{◌≡◌, drop}
use Rattle.ap_trees.specs.Trees.{trees_of}
use Rattle.ap_scopes.specs.Words.{with_words, terms_words}
use Rattle.ap_scopes.specs.Views.{words_in}
use Rattle.ap_scopes.proofs.text_words.add_terms.Given as goal

abbrev pub invariant-loop-tree : goal.invariant-loop-tree
invariant-loop-tree l = with_words (words_in l.words) (terms_words (trees_of (drop l.tree-index l.trees))) ≡ with_words (words_in l.initial.words) (terms_words (trees_of l.trees))
