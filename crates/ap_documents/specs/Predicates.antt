-- The words of the predicates that items declare, in order.
use Rattle.std.specs.Prelude.{ℕ, List, [], ◌∷◌, ◌++◌}
use Rattle.ap_trees.specs.Items as items
use Rattle.ap_trees.specs.Items.{ItemOf, Saying}

abbrev pub predicate_word : Saying → List (List ℕ)
predicate_word (items.APredicate w args) = w ∷ []
predicate_word _ = []

abbrev pub predicate_words : List ItemOf → List (List ℕ)
predicate_words [] = []
predicate_words (i ∷ is) = predicate_word i.form ++ predicate_words is
