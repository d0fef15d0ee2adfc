-- Sets of types that are closed under the rules by which types are inhabited, and may hold names of a sort.
use Rattle.std.specs.Prelude.{◌≡◌, ◌⊎◌, ℕ, List, [], ◌∷◌, Some}
use Rattle.ap_defs.specs.Printing.{constructor_in}
use Rattle.ap_defs.specs.Types.{NominalType, NominalConstructor, unit, names, base, pair, list, abs}
use Rattle.ap_types.specs.Inhabited.{IsInhabited}

-- the set has each of the types
abbrev pub HasEach : (NominalType → Type 0) → List NominalType → Type 0
HasEach P [] = Unit {0}
HasEach P (t ∷ ts) = P t × HasEach P ts

-- the set has one of them
abbrev pub HasSome : (NominalType → Type 0) → List NominalType → Type 0
HasSome P [] = ⊥
HasSome P (t ∷ ts) = P t ⊎ HasSome P ts

-- The set has unit, each name type and each list type; the pairs and the abstractions of types that it has; and each data type with a
-- constructor of whose arguments it has each type.
pub record IsInhabitedSet (cs : List NominalConstructor) (P : NominalType → Type 0) : Type 0 where
  pub for_unit : P unit
  pub for_names : (s : ℕ) → P (names s)
  pub for_lists : (t : NominalType) → P (list t)
  pub for_pairs : (t u : NominalType) → P t → P u → P (pair t u)
  pub for_abstractions : (s : ℕ) (t : NominalType) → P t → P (abs s t)
  pub for_data : (f : ℕ) (c : NominalConstructor) → constructor_in cs f ≡ Some c → HasEach P c.args → P (base c.result)

-- The set has the name type of the sort; each pair with a part that it has; the lists and the abstractions of types that it has; and each
-- data type with a constructor of whose arguments it has some type.
pub record IsHoldingSet (cs : List NominalConstructor) (sort : ℕ) (P : NominalType → Type 0) : Type 0 where
  pub for_names : P (names sort)
  pub for_pairs : (t u : NominalType) → P t ⊎ P u → P (pair t u)
  pub for_lists : (t : NominalType) → P t → P (list t)
  pub for_abstractions : (s : ℕ) (t : NominalType) → P t → P (abs s t)
  pub for_data : (f : ℕ) (c : NominalConstructor) → constructor_in cs f ≡ Some c → HasSome P c.args → P (base c.result)

-- each data type that stands in the type is inhabited
abbrev pub IsFull : List NominalConstructor → NominalType → Type 0
IsFull cs unit = Unit {0}
IsFull cs (names s) = Unit {0}
IsFull cs (base d) = IsInhabited cs (base d)
IsFull cs (pair t u) = IsFull cs t × IsFull cs u
IsFull cs (list t) = IsFull cs t
IsFull cs (abs s t) = IsFull cs t

-- and so for the types of all arguments of constructors
abbrev pub AreFull : List NominalConstructor → Type 0
AreFull cs = (f : ℕ) (c : NominalConstructor) → constructor_in cs f ≡ Some c → HasEach (IsFull cs) c.args
