-- What is proved of freshness and equality of ground terms.
use Rattle.std.specs.Prelude.{◌≡◌, true, List, [], ◌∷◌}
use Rattle.std.specs.List.{list_all}
use Rattle.ap_defs.specs.Alpha.{alpha, fresh}
use Rattle.ap_defs.specs.Permutations.{act_name, disagreement, swap_of}
use Rattle.ap_defs.specs.Terms.{GroundTerm, act_ground}
use Rattle.ap_defs.specs.declared.terms.Name.{Name}
use Rattle.ap_defs.specs.declared.terms.Swap.{Swap}

abbrev pub AlphaIsReflexive : Type 0
AlphaIsReflexive = (t : GroundTerm) → alpha t t ≡ true

abbrev pub AlphaIsSymmetric : Type 0
AlphaIsSymmetric = (t u : GroundTerm) → alpha t u ≡ true → alpha u t ≡ true

abbrev pub AlphaIsTransitive : Type 0
AlphaIsTransitive = (t u v : GroundTerm) → alpha t u ≡ true → alpha u v ≡ true → alpha t v ≡ true

abbrev pub AlphaIsEquivariant : Type 0
AlphaIsEquivariant = (p : List Swap) (t u : GroundTerm) → alpha (act_ground p t) (act_ground p u) ≡ alpha t u

abbrev pub GroundFreshnessIsEquivariant : Type 0
GroundFreshnessIsEquivariant = (p : List Swap) (a : Name) (t : GroundTerm) → fresh (act_name p a) (act_ground p t) ≡ fresh a t

abbrev pub AlphaKeepsFreshness : Type 0
AlphaKeepsFreshness = (a : Name) (t u : GroundTerm) → alpha t u ≡ true → fresh a t ≡ fresh a u

-- two permutations make equal terms of a term just where the names on which they differ are fresh for it
abbrev pub GroundDisagreement : Type 0
GroundDisagreement = (p q : List Swap) (t : GroundTerm) → alpha (act_ground p t) (act_ground q t) ≡ list_all (λ c. fresh c t) (disagreement p q)

abbrev pub GroundFreshNamesSwap : Type 0
GroundFreshNamesSwap = (a b : Name) (t : GroundTerm) → a.sort ≡ b.sort → fresh a t ≡ true → fresh b t ≡ true → alpha (act_ground (swap_of a b ∷ []) t) t ≡ true
