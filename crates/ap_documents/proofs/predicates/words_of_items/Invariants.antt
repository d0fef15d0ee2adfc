-- The words so far, and those of the items that are left, are all.
use Rattle.std.proofs.Common.{◌≡◌, ◌++◌, drop}
use Rattle.ap_trees.specs.Trees.{items_of_text}
use Rattle.ap_documents.specs.Predicates.{predicate_words}
use Rattle.ap_documents.proofs.predicates.words_of_items.Given as goal

abbrev pub invariant-loop-item : goal.invariant-loop-item
invariant-loop-item l = l.words.items ++ predicate_words (items_of_text (drop l.item-index l.items)) ≡ predicate_words (items_of_text l.items)
