-- Types that may hold names of a sort.
use Rattle.std.specs.Prelude.{◌≡◌, ℕ, Bool, true, false, ◌==◌, ◌||◌, List, [], ◌∷◌}
use Rattle.ap_defs.specs.Types.{NominalType, NominalConstructor, unit, names, base, pair, list, abs}
use Rattle.ap_types.specs.Rounds.{reached}

-- may hold the sort, where it is given which data types may
abbrev pub holds_if : ℕ → (ℕ → Bool) → NominalType → Bool
holds_if sort found unit = false
holds_if sort found (names s) = s == sort
holds_if sort found (base d) = found d
holds_if sort found (pair t u) = holds_if sort found t || holds_if sort found u
holds_if sort found (list t) = holds_if sort found t
holds_if sort found (abs s t) = holds_if sort found t

abbrev pub some_holds : ℕ → (ℕ → Bool) → List NominalType → Bool
some_holds sort found [] = false
some_holds sort found (t ∷ ts) = holds_if sort found t || some_holds sort found ts

-- may hold the sort by the data types that so many rounds find
abbrev pub holds_in : List NominalConstructor → ℕ → NominalType → ℕ → Bool
holds_in cs r t sort = holds_if sort (reached (some_holds sort) cs r) t

-- in some round
abbrev pub MayHold : List NominalConstructor → NominalType → ℕ → Type 0
MayHold cs t sort = (r : ℕ) × (holds_in cs r t sort ≡ true)
