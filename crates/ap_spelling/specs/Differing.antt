-- When names and variables are told apart by their spellings.
use Rattle.std.specs.Prelude.{◌≡◌, ◌≢◌, ◌<◌, ◌+◌, ◌*◌, ◌^◌, ◌||◌, ℕ, Bool, true, false, List, [], ◌∷◌, ◌++◌, length, Some, is_some}
use Rattle.ap_defs.specs.declared.terms.Name.{Name}
use Rattle.ap_defs.specs.declared.terms.Var.{Var}
use Rattle.ap_defs.specs.Freshness.{var_eq}
use Rattle.ap_defs.specs.Permutations.{has_name, name_eq}
use Rattle.ap_defs.specs.Printing.{has_word, name_word, var_word}
use Rattle.ap_defs.specs.Unification.{has_var}
use Rattle.ap_spelling.specs.Words.{NominalGiven, NominalSpelt, give_each, name, var}

-- no word stands twice
abbrev pub AllDiffer : List (List ℕ) → Type 0
AllDiffer [] = Unit {0}
AllDiffer (w ∷ ws) = (has_word w ws ≡ false) × AllDiffer ws

-- Of these names and variables no two are spelled alike.
pub record TellsApart (name_text : Name → List ℕ) (var_text : Var → List ℕ) (names : List Name) (vars : List Var) : Type 0 where
  pub two_names : (a b : Name) → has_name a names ≡ true → has_name b names ≡ true → name_text a ≡ name_text b → a ≡ b
  pub two_vars : (x y : Var) → has_var x vars ≡ true → has_var y vars ≡ true → var_text x ≡ var_text y → x ≡ y
  pub name_and_var : (a : Name) (x : Var) → has_name a names ≡ true → has_var x vars ≡ true → name_text a ≢ var_text x

-- all spellings, and those of a name and of a variable
abbrev pub spellings : NominalSpelt → List (List ℕ)
spellings s = s.name_words ++ s.var_words

abbrev pub spelt_name : NominalSpelt → Name → List ℕ
spelt_name s = name_word s.names s.name_words (λ a. [])

abbrev pub var_text : NominalSpelt → Var → List ℕ
var_text s = var_word s.vars s.var_words

-- What is spelled at first: by words of the text, which all differ and are left to it; and no number was put behind a word.
pub record IsBeginning (words : List (List ℕ)) (s : NominalSpelt) : Type 0 where
  pub names : length s.names ≡ length s.name_words
  pub vars : length s.vars ≡ length s.var_words
  pub differ : AllDiffer (spellings s)
  pub of_text : (w : List ℕ) → has_word w (spellings s) ≡ true → has_word w words ≡ true
  pub left : (w : List ℕ) → has_word w (spellings s) ≡ true → is_some (s.last w) ≡ true
  pub unnumbered : (w : List ℕ) (n : ℕ) → s.last w ≡ Some n → n ≡ 0

-- whether a name, or a variable, is given
abbrev pub gives_name : Name → List NominalGiven → Bool
gives_name a [] = false
gives_name a (name b w ∷ gs) = name_eq a b || gives_name a gs
gives_name a (var x w ∷ gs) = gives_name a gs

abbrev pub gives_var : Var → List NominalGiven → Bool
gives_var x [] = false
gives_var x (name a w ∷ gs) = gives_var x gs
gives_var x (var y w ∷ gs) = var_eq x y || gives_var x gs

-- All that are given are spelled.
abbrev pub GivenNamesAreSpelled : Type 0
GivenNamesAreSpelled = (words : List (List ℕ)) (gs : List NominalGiven) (s : NominalSpelt) (a : Name) → gives_name a gs ≡ true → has_name a (give_each words gs s).names ≡ true

abbrev pub GivenVarsAreSpelled : Type 0
GivenVarsAreSpelled = (words : List (List ℕ)) (gs : List NominalGiven) (s : NominalSpelt) (x : Var) → gives_var x gs ≡ true → has_var x (give_each words gs s).vars ≡ true

-- Of all that are spelled then no two are spelled alike. So many are spelled as numbers of 64 bits have room for.
abbrev pub SpellingsDiffer : Type 0
SpellingsDiffer = (words : List (List ℕ)) (gs : List NominalGiven) (s : NominalSpelt) → IsBeginning words s
    → 2 * length words + (length (spellings s) + length gs) + 2 < 2 ^ 64
    → let t = give_each words gs s in TellsApart (spelt_name t) (var_text t) t.names t.vars
