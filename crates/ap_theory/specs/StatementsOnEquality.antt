-- What is proved of freshness and equality under any set of conditions.
use Rattle.std.specs.Prelude.{◌≡◌, ◌⊎◌, List, [], ◌∷◌, ◌↔◌}
use Rattle.ap_defs.specs.Canonical.{canonical_term}
use Rattle.ap_defs.specs.Permutations.{act_name, inverse, swap_of}
use Rattle.ap_defs.specs.SameTerm.{SameTerm}
use Rattle.ap_defs.specs.Terms.{NominalTerm, act_term}
use Rattle.ap_defs.specs.declared.terms.Name.{Name}
use Rattle.ap_defs.specs.declared.terms.Swap.{Swap}
use Rattle.ap_defs.specs.declared.terms.Var.{Var}
use Rattle.ap_theory.specs.Contexts.{Context, Equal, Fresh, FreshWhereTheyDiffer}

-- a permutation takes a name and a term for which it is fresh to such
abbrev pub FreshnessIsEquivariant : Context → Type 0
FreshnessIsEquivariant d = (p : List Swap) (a : Name) (t : NominalTerm) → Fresh d (act_name p a) (act_term p t) ↔ Fresh d a t

abbrev pub FreshnessOfTheMoved : Context → Type 0
FreshnessOfTheMoved d = (p : List Swap) (a : Name) (t : NominalTerm) → Fresh d a (act_term p t) ↔ Fresh d (act_name (inverse p) a) t

abbrev pub FreshnessRespectsEqualPermutations : Context → Type 0
FreshnessRespectsEqualPermutations d = (a : Name) (t u : NominalTerm) → SameTerm t u → Fresh d a t ↔ Fresh d a u

abbrev pub EqualityIsReflexive : Context → Type 0
EqualityIsReflexive d = (t : NominalTerm) → Equal d t t

abbrev pub EqualityIsSymmetric : Context → Type 0
EqualityIsSymmetric d = (t u : NominalTerm) → Equal d t u → Equal d u t

abbrev pub EqualityIsTransitive : Context → Type 0
EqualityIsTransitive d = (t u v : NominalTerm) → Equal d t u → Equal d u v → Equal d t v

abbrev pub EqualityRespectsEqualPermutations : Context → Type 0
EqualityRespectsEqualPermutations d = (t u v w : NominalTerm) → SameTerm t v → SameTerm u w → Equal d t u → Equal d v w

abbrev pub EqualityIsEquivariant : Context → Type 0
EqualityIsEquivariant d = (p : List Swap) (t u : NominalTerm) → Equal d (act_term p t) (act_term p u) ↔ Equal d t u

abbrev pub PermutationsMoveAcross : Context → Type 0
PermutationsMoveAcross d = (p : List Swap) (t u : NominalTerm) → Equal d (act_term p t) u ↔ Equal d t (act_term (inverse p) u)

-- equal terms have the same fresh names
abbrev pub EqualityKeepsFreshness : Context → Type 0
EqualityKeepsFreshness d = (a : Name) (t u : NominalTerm) → Equal d t u → Fresh d a t ↔ Fresh d a u

-- two permutations make equal terms of a term just where the names on which they differ are fresh for it
abbrev pub DisagreementDecides : Context → Type 0
DisagreementDecides d = (p q : List Swap) (t : NominalTerm) → Equal d (act_term p t) (act_term q t) ↔ FreshWhereTheyDiffer d p q t

-- swapping two fresh names changes nothing up to equality
abbrev pub FreshNamesSwap : Context → Type 0
FreshNamesSwap d = (a b : Name) (t : NominalTerm) → a.sort ≡ b.sort → Fresh d a t → Fresh d b t → Equal d (act_term (swap_of a b ∷ []) t) t

-- what follows from some conditions follows from more
abbrev pub FreshnessWeakens : Context → Context → Type 0
FreshnessWeakens d e = ((a : Name) (x : Var) → d a x → e a x) → (a : Name) (t : NominalTerm) → Fresh d a t → Fresh e a t

abbrev pub EqualityWeakens : Context → Context → Type 0
EqualityWeakens d e = ((a : Name) (x : Var) → d a x → e a x) → (t u : NominalTerm) → Equal d t u → Equal e t u

-- terms that differ only in how permutations are listed have one form with canonical lists
abbrev pub SameWhereCanonicalIsOne : Type 0
SameWhereCanonicalIsOne = (t u : NominalTerm) → SameTerm t u ↔ (canonical_term t ≡ canonical_term u)

abbrev pub CanonicalTermIsSame : Type 0
CanonicalTermIsSame = (t : NominalTerm) → SameTerm (canonical_term t) t

-- where each condition is decided, so are freshness and equality
abbrev pub AreDecided : Context → Type 0
AreDecided d = (a : Name) (x : Var) → d a x ⊎ (d a x → ⊥)

abbrev pub FreshnessIsDecided : Context → Type 0
FreshnessIsDecided d = AreDecided d → (a : Name) (t : NominalTerm) → Fresh d a t ⊎ (Fresh d a t → ⊥)

abbrev pub EqualityIsDecided : Context → Type 0
EqualityIsDecided d = AreDecided d → (t u : NominalTerm) → Equal d t u ⊎ (Equal d t u → ⊥)
