-- What is proved of the two questions.
use Rattle.std.specs.Prelude.{◌≡◌, ◌<◌, ℕ, true, List, [], ◌∷◌, ◌↔◌}
use Rattle.ap_defs.specs.declared.terms.Name.{Name}
use Rattle.ap_defs.specs.Terms.{GroundTerm}
use Rattle.ap_defs.specs.Alpha.{fresh}
use Rattle.ap_defs.specs.Types.{NominalType, NominalConstructor}
use Rattle.ap_defs.specs.Typing.{IsOfType}
use Rattle.ap_types.specs.Inhabited.{inhabited_in, IsInhabited}
use Rattle.ap_types.specs.Holding.{holds_in, MayHold}

-- each constructor is of one of the first n data types
abbrev pub AreOfFirst : ℕ → List NominalConstructor → Type 0
AreOfFirst n [] = Unit {0}
AreOfFirst n (c ∷ cs) = (c.result < n) × AreOfFirst n cs

-- with n data types, n rounds find all
abbrev pub InhabitedStandsStill : Type 0
InhabitedStandsStill = (cs : List NominalConstructor) (n : ℕ) → AreOfFirst n cs → (t : NominalType) → (inhabited_in cs n t ≡ true) ↔ IsInhabited cs t

abbrev pub HoldingStandsStill : Type 0
HoldingStandsStill = (cs : List NominalConstructor) (n : ℕ) → AreOfFirst n cs → (t : NominalType) (sort : ℕ) → (holds_in cs n t sort ≡ true) ↔ MayHold cs t sort

-- each of the names is fresh for the term
abbrev pub AreFresh : List Name → GroundTerm → Type 0
AreFresh [] g = Unit {0}
AreFresh (a ∷ as') g = (fresh a g ≡ true) × AreFresh as' g

-- an inhabited type has a ground term that avoids any given names
abbrev pub InhabitedHasTerms : Type 0
InhabitedHasTerms = (cs : List NominalConstructor) (t : NominalType) → IsInhabited cs t → (avoided : List Name) → (g : GroundTerm) × IsOfType cs g t × AreFresh avoided g
