-- Holes in shapes, shapes for holes, and how large shapes are.
use Rattle.std.specs.Prelude.{ℕ, ◌+◌, Bool, false, ◌==◌, ◌||◌, List, slice_index_or}
use Rattle.ap_defs.specs.Types.{TypeShape, hole, unit, names, base, pair, list, abs}
use Rattle.ap_types.specs.Equations.{Filling}

-- whether the hole stands in the shape
abbrev pub occurs_in_shape : ℕ → TypeShape → Bool
occurs_in_shape x (hole y) = x == y
occurs_in_shape x unit = false
occurs_in_shape x (names s) = false
occurs_in_shape x (base d) = false
occurs_in_shape x (pair t u) = occurs_in_shape x t || occurs_in_shape x u
occurs_in_shape x (list t) = occurs_in_shape x t
occurs_in_shape x (abs t u) = occurs_in_shape x t || occurs_in_shape x u

-- the shapes of the holes 0, 1, 2 and so on; a hole past them stands for itself
abbrev pub shape_at : List TypeShape → Filling
shape_at ts x = slice_index_or ts x (hole x)

-- how many parts a shape has
abbrev pub size : TypeShape → ℕ
size (hole x) = 1
size unit = 1
size (names s) = 1
size (base d) = 1
size (pair t u) = 1 + size t + size u
size (list t) = 1 + size t
size (abs t u) = 1 + size t + size u
