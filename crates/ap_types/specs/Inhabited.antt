-- Inhabited types.
use Rattle.std.specs.Prelude.{◌≡◌, ℕ, Bool, true, ◌&&◌, List, [], ◌∷◌}
use Rattle.ap_defs.specs.Types.{NominalType, NominalConstructor, unit, names, base, pair, list, abs}
use Rattle.ap_types.specs.Rounds.{reached}

-- inhabited, where it is given which data types are
abbrev pub inhabited_if : (ℕ → Bool) → NominalType → Bool
inhabited_if found unit = true
inhabited_if found (names s) = true
inhabited_if found (base d) = found d
inhabited_if found (pair t u) = inhabited_if found t && inhabited_if found u
inhabited_if found (list t) = true
inhabited_if found (abs s t) = inhabited_if found t

abbrev pub all_inhabited : (ℕ → Bool) → List NominalType → Bool
all_inhabited found [] = true
all_inhabited found (t ∷ ts) = inhabited_if found t && all_inhabited found ts

-- inhabited by the data types that so many rounds find
abbrev pub inhabited_in : List NominalConstructor → ℕ → NominalType → Bool
inhabited_in cs r t = inhabited_if (reached all_inhabited cs r) t

-- in some round
abbrev pub IsInhabited : List NominalConstructor → NominalType → Type 0
IsInhabited cs t = (r : ℕ) × (inhabited_in cs r t ≡ true)
