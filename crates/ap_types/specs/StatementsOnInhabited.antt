-- What is proved of the types that are inhabited, and of those that may hold names of a sort.
use Rattle.std.specs.Prelude.{◌≡◌, ◌↔◌, ℕ, Bool, true, false, List}
use Rattle.ap_defs.specs.declared.terms.Name.{Name}
use Rattle.ap_defs.specs.Alpha.{fresh}
use Rattle.ap_defs.specs.Terms.{GroundTerm}
use Rattle.ap_defs.specs.Types.{NominalType, NominalConstructor}
use Rattle.ap_defs.specs.Typing.{IsOfType}
use Rattle.ap_types.specs.Holding.{MayHold}
use Rattle.ap_types.specs.Inhabited.{IsInhabited}
use Rattle.ap_types.specs.Closed.{AreFull, IsFull, IsHoldingSet, IsInhabitedSet}

-- The inhabited types are closed under the rules ..
abbrev pub InhabitedIsClosed : Type 0
InhabitedIsClosed = (cs : List NominalConstructor) → IsInhabitedSet cs (IsInhabited cs)

-- .. and every set that is has them.
abbrev pub InhabitedIsLeast : Type 0
InhabitedIsLeast = (cs : List NominalConstructor) (has : NominalType → Bool) → IsInhabitedSet cs (λ t. has t ≡ true)
    → (t : NominalType) → IsInhabited cs t → has t ≡ true

-- a type is inhabited where it has a ground term, and only there
abbrev pub InhabitedIsHavingTerms : Type 0
InhabitedIsHavingTerms = (cs : List NominalConstructor) (t : NominalType) → IsInhabited cs t ↔ ((g : GroundTerm) × IsOfType cs g t)

-- The types that may hold names of a sort are closed under the rules ..
abbrev pub HoldingIsClosed : Type 0
HoldingIsClosed = (cs : List NominalConstructor) (sort : ℕ) → IsHoldingSet cs sort (λ t. MayHold cs t sort)

-- .. and every set that is has them.
abbrev pub HoldingIsLeast : Type 0
HoldingIsLeast = (cs : List NominalConstructor) (sort : ℕ) (has : NominalType → Bool) → IsHoldingSet cs sort (λ t. has t ≡ true)
    → (t : NominalType) → MayHold cs t sort → has t ≡ true

-- a type may hold the sort of each name that is free in a ground term of it
abbrev pub FreeNamesAreHeld : Type 0
FreeNamesAreHeld = (cs : List NominalConstructor) (t : NominalType) (a : Name) (g : GroundTerm) → IsOfType cs g t → fresh a g ≡ false → MayHold cs t a.sort

-- Where all data types that stand in types are inhabited, a type may hold the sort of a name exactly where the name is free in some ground term
-- of it.
abbrev pub HoldingIsHavingNames : Type 0
HoldingIsHavingNames = (cs : List NominalConstructor) → AreFull cs → (t : NominalType) → IsFull cs t → (a : Name)
    → MayHold cs t a.sort ↔ ((g : GroundTerm) × IsOfType cs g t × (fresh a g ≡ false))

-- Without that premise it is not so: a type may hold a sort, and have no ground term.
abbrev pub HoldingMayBeEmpty : Type 0
HoldingMayBeEmpty = (cs : List NominalConstructor) × (t : NominalType) × (sort : ℕ) × MayHold cs t sort × ((g : GroundTerm) → IsOfType cs g t → ⊥)
