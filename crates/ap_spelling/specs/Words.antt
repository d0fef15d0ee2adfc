-- How names and variables are spelled: as identifiers that stand for them, each in its own way.
use Rattle.std.specs.Prelude.{ℕ, zero, suc, ◌+◌, ◌-◌, ◌^◌, min, ◌==◌, ◌&&◌, not, nat_lt, Bool, if◌then◌else◌, List, [], ◌∷◌, ◌++◌, length, codes, slice_get, unwrap_or, is_some, Option, Some}
use Rattle.std.specs.Fmt.{decimal}
use Rattle.std.specs.Str.{bytes_eq}
use Rattle.ap_defs.specs.declared.terms.Name.{Name}
use Rattle.ap_defs.specs.declared.terms.Var.{Var}
use Rattle.ap_defs.specs.Permutations.{has_name}
use Rattle.ap_defs.specs.Printing.{has_word}
use Rattle.ap_defs.specs.Unification.{has_var}

-- A name or a variable, with the word of an identifier that stands for it; the word is empty where none does.
pub data NominalGiven : Type 0 where
  name : Name → List ℕ → NominalGiven
  var : Var → List ℕ → NominalGiven

-- one more; a number that doesn't fit in 64 bits is given as the greatest that does
abbrev pub number_after : ℕ → ℕ
number_after n = min (n + 1) (2 ^ 64 - 1)

-- The last number that was put behind each word, which is 0 for one that was used as it is.
abbrev pub Numbered : Type 0
Numbered = List ℕ → Option ℕ

abbrev pub numbered_next : List ℕ → ℕ → Numbered → Numbered
numbered_next w n last = λ v. if bytes_eq w v then Some n else last v

abbrev pub last_byte : List ℕ → ℕ
last_byte w = unwrap_or (slice_get w (length w - 1)) 95

abbrev pub is_digit : ℕ → Bool
is_digit b = not (nat_lt b 48) && nat_lt b 58

-- Numbers are put behind a word, or behind a letter in place of one that ends in `_` or is empty; behind a digit a `_` comes first. So
-- what stands before a number tells the word.
abbrev pub base : List ℕ → List ℕ → List ℕ
base letter w = if last_byte w == 95 then letter else w

abbrev pub word_with_number : List ℕ → ℕ → List ℕ
word_with_number w n = w ++ ((if is_digit (last_byte w) then codes "_" else []) ++ decimal n)

-- the first number from one on that makes no word of the text, which has these words; there is one among as many more
abbrev pub number_from : List (List ℕ) → List ℕ → ℕ → ℕ → ℕ
number_from words w n zero = n
number_from words w n (suc more) = if has_word (word_with_number w n) words then number_from words w (number_after n) more else n

abbrev pub next_spelling : List (List ℕ) → List ℕ → Numbered → ℕ
next_spelling words w last = number_from words w (number_after (unwrap_or (last w) 0)) (length words)

-- a word of the text that was not used stands as it is
abbrev pub stands : List (List ℕ) → List ℕ → Numbered → Bool
stands words w last = has_word w words && not (is_some (last w))

-- the spelling that is made of a word, and the numbers behind it
abbrev pub spelling_of : List (List ℕ) → List ℕ → List ℕ → Numbered → List ℕ
spelling_of words letter w last =
    if stands words w last then w else word_with_number (base letter w) (next_spelling words (base letter w) last)

abbrev pub numbered_by : List (List ℕ) → List ℕ → List ℕ → Numbered → Numbered
numbered_by words letter w last =
    if stands words w last then numbered_next w 0 last else numbered_next (base letter w) (next_spelling words (base letter w) last) last

-- The names and variables that are spelled, each with its spelling at the same place, and the numbers so far.
pub record NominalSpelt : Type 0 where
  pub names : List Name
  pub name_words : List (List ℕ)
  pub vars : List Var
  pub var_words : List (List ℕ)
  pub last : Numbered

abbrev pub spelt_with_name : List (List ℕ) → Name → List ℕ → NominalSpelt → NominalSpelt
spelt_with_name words a w s = record {
  names = s.names ++ a ∷ [];
  name_words = s.name_words ++ spelling_of words (codes "n") w s.last ∷ [];
  vars = s.vars;
  var_words = s.var_words;
  last = numbered_by words (codes "n") w s.last;
}

abbrev pub with_var : List (List ℕ) → Var → List ℕ → NominalSpelt → NominalSpelt
with_var words x w s = record {
  names = s.names;
  name_words = s.name_words;
  vars = s.vars ++ x ∷ [];
  var_words = s.var_words ++ spelling_of words (codes "_") w s.last ∷ [];
  last = numbered_by words (codes "_") w s.last;
}

-- one name or variable more, unless it has a spelling
abbrev pub give : List (List ℕ) → NominalGiven → NominalSpelt → NominalSpelt
give words (name a w) s = if has_name a s.names then s else spelt_with_name words a w s
give words (var x w) s = if has_var x s.vars then s else with_var words x w s

abbrev pub give_each : List (List ℕ) → List NominalGiven → NominalSpelt → NominalSpelt
give_each words [] s = s
give_each words (g ∷ gs) s = give_each words gs (give words g s)

-- words that are left to what has them in the text
abbrev pub kept_words : List (List ℕ) → Numbered → Numbered
kept_words [] last = last
kept_words (w ∷ ws) last = kept_words ws (numbered_next w 0 last)
