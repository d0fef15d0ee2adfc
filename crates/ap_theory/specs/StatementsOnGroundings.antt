-- What is proved of groundings.
use Rattle.std.specs.Prelude.{◌≡◌, Bool, true, false, ◌&&◌, List, Option, Some, None}
use Rattle.ap_defs.specs.Alpha.{alpha, fresh}
use Rattle.ap_defs.specs.Freshness.{Conds, add_conds, alpha_under, fresh_under, reduce}
use Rattle.ap_defs.specs.Groundings.{Grounding, agrees, grounded, meets}
use Rattle.ap_defs.specs.Substitution.{Binding, under}
use Rattle.ap_defs.specs.Terms.{NominalTerm, act_ground, act_term}
use Rattle.ap_defs.specs.declared.terms.Cond.{Cond}
use Rattle.ap_defs.specs.declared.terms.Name.{Name}
use Rattle.ap_defs.specs.declared.terms.Swap.{Swap}

-- the grounding meets the conditions, where there are some
abbrev pub meets_some : Grounding → Option (List Cond) → Bool
meets_some g None = false
meets_some g (Some cs) = meets g cs

abbrev pub GroundingCommutes : Type 0
GroundingCommutes = (g : Grounding) (p : List Swap) (t : NominalTerm) → grounded g (act_term p t) ≡ act_ground p (grounded g t)

-- under bindings with which the grounding agrees, a term keeps its ground meaning
abbrev pub GroundingKeepsMeaning : Type 0
GroundingKeepsMeaning = (g : Grounding) (bs : List Binding) → agrees g bs ≡ true → (t : NominalTerm) → alpha (grounded g t) (grounded g (under bs t)) ≡ true

-- a problem holds just where the conditions are met to which it reduces
abbrev pub GroundingMeetsTheReduced : Type 0
GroundingMeetsTheReduced = (g : Grounding) (a : Name) (t : NominalTerm) → fresh a (grounded g t) ≡ meets_some g (reduce a t)

abbrev pub GroundingMeetsTheAdded : Type 0
GroundingMeetsTheAdded = (g : Grounding) (cs : List Cond) (ds : Conds) → meets g (add_conds cs ds) ≡ (meets g cs && meets g ds)

-- what follows from conditions holds of each grounding that meets them
abbrev pub FreshnessIsSound : Type 0
FreshnessIsSound = (g : Grounding) (ds : Conds) → meets g ds ≡ true → (a : Name) (t : NominalTerm) → fresh_under ds a t ≡ true → fresh a (grounded g t) ≡ true

abbrev pub EqualityIsSound : Type 0
EqualityIsSound = (g : Grounding) (ds : Conds) → meets g ds ≡ true → (t u : NominalTerm) → alpha_under ds t u ≡ true → alpha (grounded g t) (grounded g u) ≡ true
