-- The words and variables of a text, each once, in the order in which they first stand there.
use Rattle.std.specs.Prelude.{ℕ, if◌then◌else◌, List, [], ◌∷◌, ◌++◌, Option, None, Some}
use Rattle.std.specs.Str.{bytes_eq}
use Rattle.std.specs.List.{list_any}
use Rattle.ap_trees.specs.Types as types
use Rattle.ap_trees.specs.Types.{Ty}
use Rattle.ap_trees.specs.Terms as terms
use Rattle.ap_trees.specs.Terms.{Name, OfWord, OfVar, Term, Terms}
use Rattle.ap_trees.specs.Goals as goals
use Rattle.ap_trees.specs.Goals.{Goal}
use Rattle.ap_trees.specs.Items as items
use Rattle.ap_trees.specs.Items.{Saying, ItemOf}

-- All of them, in the order of the text.
abbrev pub spelled_name : Name → List ℕ
spelled_name (OfWord w) = w
spelled_name (OfVar w) = w

abbrev pub words_of_type : Ty → List (List ℕ)
words_of_type types.Unit = []
words_of_type (types.Word w) = w ∷ []
words_of_type (types.Pair t u) = words_of_type t ++ words_of_type u
words_of_type (types.Array t) = words_of_type t
words_of_type (types.Abs w t) = w ∷ words_of_type t

abbrev pub types_words : List Ty → List (List ℕ)
types_words [] = []
types_words (t ∷ ts) = words_of_type t ++ types_words ts

abbrev mutual
  pub term_words : Term → List (List ℕ)
  term_words terms.Unit = []
  term_words (terms.Variable w) = w ∷ []
  term_words (terms.Word w) = w ∷ []
  term_words (terms.Apply w ts) = w ∷ arguments_words ts
  term_words (terms.Pair t u) = term_words t ++ term_words u
  term_words terms.Nil = []
  term_words (terms.Cell t u) = term_words t ++ term_words u
  term_words (terms.Abs a t) = spelled_name a ∷ term_words t
  term_words (terms.Swapped a b t) = spelled_name a ∷ spelled_name b ∷ term_words t

  pub arguments_words : Terms → List (List ℕ)
  arguments_words (terms.Last t) = term_words t
  arguments_words (terms.More t ts) = term_words t ++ arguments_words ts

abbrev pub terms_words : List Term → List (List ℕ)
terms_words [] = []
terms_words (t ∷ ts) = term_words t ++ terms_words ts

abbrev pub goal_words : Goal → List (List ℕ)
goal_words (goals.Atom w ts) = w ∷ terms_words ts
goal_words (goals.Equation t u) = term_words t ++ term_words u
goal_words (goals.Freshness t u) = term_words t ++ term_words u
goal_words (goals.Both g h) = goal_words g ++ goal_words h
goal_words (goals.Either g h) = goal_words g ++ goal_words h
goal_words (goals.Some_variable w g) = w ∷ goal_words g
goal_words (goals.New_name w g) = w ∷ goal_words g

abbrev pub body_words : Option Goal → List (List ℕ)
body_words None = []
body_words (Some g) = goal_words g

abbrev pub saying_words : Saying → List (List ℕ)
saying_words (items.ANameType w) = w ∷ []
saying_words (items.ADataType w) = w ∷ []
saying_words (items.AConstructor w args result) = w ∷ (types_words args ++ result ∷ [])
saying_words (items.APredicate w args) = w ∷ types_words args
saying_words (items.AClause w args body) = w ∷ (terms_words args ++ body_words body)
saying_words (items.AQuery g) = goal_words g

abbrev pub text_words : List ItemOf → List (List ℕ)
text_words [] = []
text_words (i ∷ is) = saying_words i.form ++ text_words is

-- Each once: a word that is there already is left out.
abbrev pub with_word : List (List ℕ) → List ℕ → List (List ℕ)
with_word known w = if list_any (bytes_eq w) known then known else known ++ w ∷ []

abbrev pub with_words : List (List ℕ) → List (List ℕ) → List (List ℕ)
with_words known [] = known
with_words known (w ∷ ws) = with_words (with_word known w) ws

abbrev pub words_of : List ItemOf → List (List ℕ)
words_of is = with_words [] (text_words is)
