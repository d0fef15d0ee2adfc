-- Pairs of binders round two terms, the innermost last, and what a name means within them.
use Rattle.std.specs.Prelude.{ℕ, Bool, false, ◌==◌, List, [], ◌∷◌, map, Option, Some, None}
use Rattle.ap_defs.specs.declared.terms.Name.{Name}
use Rattle.ap_defs.specs.declared.terms.Swap.{Swap}
use Rattle.ap_defs.specs.Permutations.{left_name, name_eq, right_name}
use Rattle.ap_defs.specs.Terms.{NominalTerm, abs}
use Rattle.ap_judge.specs.declared.binders.Binders.{Binders}
use Rattle.ap_judge.specs.Latest.{IsLatest, Key, last_from, name_key}

abbrev pub within_left : List Swap → NominalTerm → NominalTerm
within_left [] t = t
within_left (s ∷ ss) t = abs (left_name s) (within_left ss t)

abbrev pub within_right : List Swap → NominalTerm → NominalTerm
within_right [] t = t
within_right (s ∷ ss) t = abs (right_name s) (within_right ss t)

abbrev pub left_place : ℕ → List Swap → Name → Option ℕ
left_place n ss a = last_from (λ s. name_eq a (left_name s)) n ss

abbrev pub right_place : ℕ → List Swap → Name → Option ℕ
right_place n ss b = last_from (λ s. name_eq b (right_name s)) n ss

-- both are bound at one place, or neither is bound, and it is said what then holds
abbrev pub means : Option ℕ → Option ℕ → Bool → Bool
means (Some i) (Some j) free = i == j
means (Some i) None free = false
means None (Some j) free = false
means None None free = free

-- a name within the left binders means what the other does within the right ones
abbrev pub mean_same : List Swap → Name → Name → Bool
mean_same ss a b = means (left_place 0 ss a) (right_place 0 ss b) (name_eq a b)

-- the binders of one side, as they are sought
abbrev pub left_key : Swap → Key
left_key s = name_key (left_name s)

abbrev pub right_key : Swap → Key
right_key s = name_key (right_name s)

-- both sides are found by their last places
pub record AreBinders (b : Binders) : Type 0 where
  pub lefts : IsLatest (map left_key b.pairs.items) b.lefts
  pub rights : IsLatest (map right_key b.pairs.items) b.rights
