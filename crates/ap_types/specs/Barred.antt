-- What is asked of a type besides its parts, where it is asked whether it can't hold names of a sort.
use Rattle.std.specs.Prelude.{ℕ, Bool, true, ◌==◌, not, List, [], ◌∷◌}
use Rattle.ap_defs.specs.Types.{NominalType, names, base, pair, list, abs}

abbrev pub own_barred : ℕ → (ℕ → Bool) → NominalType → Bool
own_barred sort found (names s) = not (s == sort)
own_barred sort found (base d) = not (found d)
own_barred sort found t = true

abbrev pub type_parts : NominalType → List NominalType
type_parts (pair t u) = t ∷ u ∷ []
type_parts (list t) = t ∷ []
type_parts (abs s t) = t ∷ []
type_parts t = []
