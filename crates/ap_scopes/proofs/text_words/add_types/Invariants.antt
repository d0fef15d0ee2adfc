use Rattle.std.proofs.Common.{◌≡◌, drop}
use Rattle.ap_trees.specs.Trees.{types_of}
use Rattle.ap_scopes.specs.Words.{with_words, types_words}
use Rattle.ap_scopes.specs.Views.{words_in}
use Rattle.ap_scopes.proofs.text_words.add_types.Given as goal

abbrev pub invariant-loop-tree : goal.invariant-loop-tree
invariant-loop-tree l = with_words (words_in l.words) (types_words (types_of (drop l.tree-index l.trees))) ≡ with_words (words_in l.initial.words) (types_words (types_of l.trees))
