-- Numbers behind words, and names and variables that are spelled.
use Rattle.std.proofs.Common.{◌≡◌, ℕ, suc, true, false, ◌||◌, List, [], ◌∷◌, refl, ap}
use Rattle.std.specs.List.{list_any}
use Rattle.ap_defs.specs.declared.terms.Name.{Name}
use Rattle.ap_defs.specs.declared.terms.Var.{Var}
use Rattle.ap_defs.specs.Freshness.{var_eq}
use Rattle.ap_defs.specs.Permutations.{has_name, name_eq}
use Rattle.ap_defs.specs.Printing.{has_word}
use Rattle.ap_defs.specs.Unification.{has_var}
use Rattle.ap_spelling.specs.Words.{word_with_number, number_after, number_from}

-- a number that makes a word of the text is passed over
pub number_taken : (words : List (List ℕ)) (w : List ℕ) (n k m : ℕ) → k ≡ suc m → has_word (word_with_number w n) words ≡ true → number_from words w n k ≡ number_from words w (number_after n) m
number_taken words w n k m e h = rw (e, h) refl

-- and one that makes none is found
pub number_free : (words : List (List ℕ)) (w : List ℕ) (n k m : ℕ) → k ≡ suc m → has_word (word_with_number w n) words ≡ false → number_from words w n k ≡ n
number_free words w n k m e h = rw (e, h) refl

pub any_name : (a : Name) (as' : List Name) → list_any (name_eq a) as' ≡ has_name a as'
any_name a [] = refl
any_name a (b ∷ bs) = ap (λ r. name_eq a b || r) (any_name a bs)

pub any_var : (x : Var) (xs : List Var) → list_any (var_eq x) xs ≡ has_var x xs
any_var x [] = refl
any_var x (y ∷ ys) = ap (λ r. var_eq x y || r) (any_var x ys)
