-- Least sets of data types, in rounds.
use Rattle.std.specs.Prelude.{◌≡◌, ℕ, zero, suc, Bool, true, false, ◌==◌, ◌&&◌, ◌||◌, List, [], ◌∷◌, slice_index_or}
use Rattle.ap_defs.specs.Types.{NominalType, NominalConstructor}

-- Whether the arguments of a constructor put its data type in, where it is given which data types are in already.
abbrev pub Test : Type 0
Test = (ℕ → Bool) → List NominalType → Bool

-- some constructor of the data type passes
abbrev pub some_passes : Test → (ℕ → Bool) → List NominalConstructor → ℕ → Bool
some_passes test found [] d = false
some_passes test found (c ∷ cs) d = ((c.result == d) && test found c.args) || some_passes test found cs d

-- before the first round no data type is in; each round puts in those of which some constructor passes
abbrev pub reached : Test → List NominalConstructor → ℕ → ℕ → Bool
reached test cs zero d = false
reached test cs (suc r) d = some_passes test (reached test cs r) cs d

-- the data types that are marked in a table
abbrev pub marked : List Bool → ℕ → Bool
marked table d = slice_index_or table d false

-- each data type that is in here is in there
abbrev pub Within : (ℕ → Bool) → (ℕ → Bool) → Type 0
Within p q = (d : ℕ) → p d ≡ true → q d ≡ true

-- The data types are those that are in after some round.
pub record IsLeastSet (test : Test) (cs : List NominalConstructor) (found : ℕ → Bool) : Type 0 where
  pub sound : (r : ℕ) × ((d : ℕ) → found d ≡ true → reached test cs r d ≡ true)
  pub whole : (r d : ℕ) → reached test cs r d ≡ true → found d ≡ true
