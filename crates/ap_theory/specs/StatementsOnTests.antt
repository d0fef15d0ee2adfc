-- What is proved of the tests of freshness and equality under a list of conditions.
use Rattle.std.specs.Prelude.{◌≡◌, Bool, true, false, List, [], ◌∷◌, Option, Some, None, ◌↔◌}
use Rattle.std.specs.List.{list_all}
use Rattle.ap_defs.specs.Freshness.{Conds, alpha_under, fresh_under, has_cond, reduce}
use Rattle.ap_defs.specs.Permutations.{act_name, disagreement, swap_of}
use Rattle.ap_defs.specs.SameTerm.{SameTerm}
use Rattle.ap_defs.specs.Terms.{NominalTerm, act_term}
use Rattle.ap_defs.specs.declared.terms.Cond.{Cond}
use Rattle.ap_defs.specs.declared.terms.Name.{Name}
use Rattle.ap_defs.specs.declared.terms.Swap.{Swap}
use Rattle.ap_theory.specs.Contexts.{Equal, Fresh, listed_context}

-- the tests are true just where what they test holds
abbrev pub FreshnessIsTested : Type 0
FreshnessIsTested = (ds : Conds) (a : Name) (t : NominalTerm) → fresh_under ds a t ≡ true ↔ Fresh (listed_context ds) a t

abbrev pub EqualityIsTested : Type 0
EqualityIsTested = (ds : Conds) (t u : NominalTerm) → alpha_under ds t u ≡ true ↔ Equal (listed_context ds) t u

abbrev pub AlphaUnderIsReflexive : Type 0
AlphaUnderIsReflexive = (ds : Conds) (t : NominalTerm) → alpha_under ds t t ≡ true

abbrev pub AlphaUnderIsSymmetric : Type 0
AlphaUnderIsSymmetric = (ds : Conds) (t u : NominalTerm) → alpha_under ds t u ≡ true → alpha_under ds u t ≡ true

abbrev pub AlphaUnderIsTransitive : Type 0
AlphaUnderIsTransitive = (ds : Conds) (t u v : NominalTerm) → alpha_under ds t u ≡ true → alpha_under ds u v ≡ true → alpha_under ds t v ≡ true

abbrev pub AlphaUnderIsEquivariant : Type 0
AlphaUnderIsEquivariant = (ds : Conds) (p : List Swap) (t u : NominalTerm) → alpha_under ds (act_term p t) (act_term p u) ≡ alpha_under ds t u

abbrev pub FreshUnderIsEquivariant : Type 0
FreshUnderIsEquivariant = (ds : Conds) (p : List Swap) (a : Name) (t : NominalTerm) → fresh_under ds (act_name p a) (act_term p t) ≡ fresh_under ds a t

-- equal terms have the same fresh names
abbrev pub AlphaUnderKeepsFreshness : Type 0
AlphaUnderKeepsFreshness = (ds : Conds) (a : Name) (t u : NominalTerm) → alpha_under ds t u ≡ true → fresh_under ds a t ≡ fresh_under ds a u

abbrev pub AlphaUnderRespectsEqualPermutations : Type 0
AlphaUnderRespectsEqualPermutations = (ds : Conds) (t u v w : NominalTerm) → SameTerm t v → SameTerm u w → alpha_under ds t u ≡ alpha_under ds v w

-- two permutations make equal terms of a term just where the names on which they differ are fresh for it
abbrev pub DisagreementUnder : Type 0
DisagreementUnder = (ds : Conds) (p q : List Swap) (t : NominalTerm) → alpha_under ds (act_term p t) (act_term q t) ≡ list_all (λ c. fresh_under ds c t) (disagreement p q)

-- swapping two fresh names changes nothing up to equality
abbrev pub FreshNamesSwapUnder : Type 0
FreshNamesSwapUnder = (ds : Conds) (a b : Name) (t : NominalTerm) → a.sort ≡ b.sort → fresh_under ds a t ≡ true → fresh_under ds b t ≡ true
    → alpha_under ds (act_term (swap_of a b ∷ []) t) t ≡ true

-- there are conditions, and each stands in the set
abbrev pub all_in : Conds → Option (List Cond) → Bool
all_in ds None = false
all_in ds (Some cs) = list_all (λ c. has_cond c ds) cs

-- the least set: freshness follows from just those sets that have each condition to which it reduces
abbrev pub ReductionIsLeastSet : Type 0
ReductionIsLeastSet = (ds : Conds) (a : Name) (t : NominalTerm) → fresh_under ds a t ≡ all_in ds (reduce a t)
