-- Shapes that are put into a table part by part: a hole has its place already, and each other part takes the next one.
use Rattle.std.specs.Prelude.{ℕ, suc, ◌+◌, List, [], ◌∷◌, ◌++◌, length, map}
use Rattle.std.specs.Borrow.{Bor}
use Rattle.ap_defs.specs.declared.terms.Shape.{Shape}
use Rattle.ap_defs.specs.Types.{TypeShape, shape_of, hole, pair, list, abs}

-- what references stand for
abbrev pub lent : {A B : Type 0} → (B → A) → List (Bor B) → List A
lent view rs = map (λ r. view r.now) rs

abbrev pub lent_shapes : List (Bor Shape) → List TypeShape
lent_shapes rs = lent shape_of rs

-- what takes the next place for a shape
abbrev pub taken : TypeShape → List TypeShape
taken (hole x) = []
taken t = t ∷ []

-- the place of a shape, where this one is next
abbrev pub place_in : ℕ → TypeShape → ℕ
place_in n (hole x) = x
place_in n t = n

-- what takes the next places for the parts of a shape
abbrev pub parts_taken : TypeShape → List TypeShape
parts_taken (pair t u) = taken t ++ taken u
parts_taken (list t) = taken t
parts_taken (abs t u) = taken t ++ taken u
parts_taken t = []

-- the entry of a shape, where this place is the next for its parts
abbrev pub entry_in : ℕ → TypeShape → TypeShape
entry_in n (pair t u) = pair (hole (place_in n t)) (hole (place_in (n + length (taken t)) u))
entry_in n (list t) = list (hole (place_in n t))
entry_in n (abs t u) = abs (hole (place_in n t)) (hole (place_in (n + length (taken t)) u))
entry_in n t = t

-- the parts of a shape
abbrev pub parts_of : TypeShape → List TypeShape
parts_of (pair t u) = t ∷ u ∷ []
parts_of (list t) = t ∷ []
parts_of (abs t u) = t ∷ u ∷ []
parts_of t = []

-- one more than the number of a hole
abbrev pub own_bound : TypeShape → ℕ
own_bound (hole x) = suc x
own_bound t = 0
