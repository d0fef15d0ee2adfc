-- Swappings that take the names of an answer out of the way of terms, each to the first name of its sort that stands nowhere.
use Rattle.std.specs.Prelude.{◌≡◌, ◌<◌, ℕ, true, false, List, [], ◌∷◌, ◌++◌, filter}
use Rattle.ap_defs.specs.declared.terms.Name.{Name}
use Rattle.ap_defs.specs.declared.terms.Swap.{Swap}
use Rattle.ap_defs.specs.Answers.{NominalAnswer}
use Rattle.ap_defs.specs.Occurrences.{names_of_terms}
use Rattle.ap_defs.specs.Permutations.{has_name, right_name}
use Rattle.ap_defs.specs.Renaming.{local_names}
use Rattle.ap_defs.specs.Terms.{NominalTerm}
use Rattle.ap_defs.specs.Types.{NominalLocal}
use Rattle.ap_complete.specs.Coverings.{names_of_answer}
use Rattle.ap_property.specs.Stated.{other_names}

-- the names of a query, of an answer to it and of terms
abbrev pub used_names : List NominalLocal → NominalAnswer → List NominalTerm → List Name
used_names locals a ts = local_names 0 locals ++ (names_of_answer a ++ names_of_terms ts)

-- the names of the answer that are none of the query's and stand in the terms too, in order of their first occurrence
abbrev pub in_the_way : List NominalLocal → NominalAnswer → List NominalTerm → List Name
in_the_way locals a ts = filter (λ b. has_name b (names_of_terms ts)) (other_names locals a)

-- the names of a sort that are numbered below n are used
abbrev pub AreUsedBelow : List Name → ℕ → ℕ → Type 0
AreUsedBelow used sort n = (i : ℕ) → i < n → has_name (record { sort = sort; num = i }) used ≡ true

-- of the names of its sort, the first that is not used
pub record IsLeastUnused (used : List Name) (a : Name) : Type 0 where
  pub unused : has_name a used ≡ false
  pub least : AreUsedBelow used a.sort a.num

-- a name is exchanged for the first of its sort that is not used
pub record Takes (used : List Name) (c : Name) (s : Swap) : Type 0 where
  pub sort : s.sort ≡ c.sort
  pub left : s.left ≡ c.num
  pub next : IsLeastUnused used (right_name s)

-- each of the names is exchanged so in turn, and what was brought is used from then on
abbrev pub Clears : List Name → List Name → List Swap → Type 0
Clears used [] [] = Unit {0}
Clears used (c ∷ cs) (s ∷ ss) = Takes used c s × Clears (used ++ right_name s ∷ []) cs ss
Clears used _ _ = ⊥
