-- Where two lists of numbers differ, by the plain words of lists.
use Rattle.std.specs.Prelude.{ℕ, List, [], ◌∷◌, ◌==◌, if◌then◌else◌}

-- for each place 1 where the numbers differ, else 0
abbrev pub differing_places : List ℕ → List ℕ → List ℕ
differing_places [] ys = []
differing_places (x ∷ xs) [] = []
differing_places (x ∷ xs) (y ∷ ys) = (if x == y then 0 else 1) ∷ differing_places xs ys
