-- What is asked of a type besides its parts, where it is asked whether it is inhabited.
use Rattle.std.specs.Prelude.{ℕ, Bool, true, List, [], ◌∷◌}
use Rattle.ap_defs.specs.Types.{NominalType, base, pair, abs}

abbrev pub own_inhabited : (ℕ → Bool) → NominalType → Bool
own_inhabited found (base d) = found d
own_inhabited found t = true

-- the parts that must be inhabited
abbrev pub needed_parts : NominalType → List NominalType
needed_parts (pair t u) = t ∷ u ∷ []
needed_parts (abs s t) = t ∷ []
needed_parts t = []
