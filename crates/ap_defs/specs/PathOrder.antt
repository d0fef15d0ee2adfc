-- Paths: the choices from the root, in order. They are compared as lists of numbers, by std's
-- `slice_cmp nat_cmp`, where a beginning comes first.
use Rattle.std.specs.Prelude.{ℕ, Bool, true, false, ◌==◌, ◌&&◌, List, [], ◌∷◌}

-- the second path begins with the first
abbrev pub has_prefix : List ℕ → List ℕ → Bool
has_prefix [] path = true
has_prefix (k ∷ ks) [] = false
has_prefix (k ∷ ks) (j ∷ js) = (k == j) && has_prefix ks js
