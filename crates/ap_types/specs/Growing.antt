-- Tables that take in one equation after another, where it says what a hole is.
use Rattle.std.specs.Prelude.{ℕ, zero, suc, ◌-◌, Bool, true, false, ◌==◌, ◌&&◌, nat_lt, nat_le, if◌then◌else◌, List, [], ◌∷◌, ◌++◌, length, slice_set, Option, Some, None}
use Rattle.ap_defs.specs.Types.{TypeShape, hole, unit, names, base, pair, list, abs}
use Rattle.ap_types.specs.Equations.{ShapeEquation, ◌≐◌, Filling, FillingSolves, GivesNames}
use Rattle.ap_types.specs.Solving.{shape_at}
use Rattle.ap_types.specs.Triangular.{Fits}

-- so many holes, of which nothing is said
abbrev pub open_table : ℕ → List TypeShape
open_table zero = []
open_table (suc n) = open_table n ++ hole n ∷ []

-- the equations that a table says, from place x on
abbrev pub table_equations : ℕ → List TypeShape → List ShapeEquation
table_equations x [] = []
table_equations x (t ∷ ts) = (hole x ≐ t) ∷ table_equations (suc x) ts

-- it fits the table, and solves the equations
abbrev pub IsTableSolution : List TypeShape → List ShapeEquation → List ℕ → ℕ → Filling → Type 0
IsTableSolution ts es xs n f = (Fits f ts × FillingSolves f es) × GivesNames n f xs

abbrev pub IsTableUnsolvable : List TypeShape → List ShapeEquation → List ℕ → ℕ → Type 0
IsTableUnsolvable ts es xs n = (f : Filling) → IsTableSolution ts es xs n f → ⊥

-- the shapes have no parts and are the same
abbrev pub is_same : TypeShape → TypeShape → Bool
is_same (hole x) (hole y) = x == y
is_same unit unit = true
is_same (names r) (names s) = r == s
is_same (base c) (base d) = c == d
is_same _ _ = false

abbrev pub is_hole : TypeShape → Bool
is_hole (hole x) = true
is_hole _ = false

-- its parts are holes
abbrev pub is_flat : TypeShape → Bool
is_flat (pair t u) = is_hole t && is_hole u
is_flat (list t) = is_hole t
is_flat (abs t u) = is_hole t && is_hole u
is_flat _ = true

-- it is a hole below n
abbrev pub is_below : ℕ → TypeShape → Bool
is_below n (hole y) = nat_lt y n
is_below n _ = false

-- a table of n places can have the shape at place x: its parts are places, and it is no later one
abbrev pub can_stand : ℕ → ℕ → TypeShape → Bool
can_stand n x (hole y) = nat_le y x
can_stand n x (pair t u) = is_below n t && is_below n u
can_stand n x (list t) = is_below n t
can_stand n x (abs t u) = is_below n t && is_below n u
can_stand n x _ = true

abbrev pub is_open_hole : ℕ → TypeShape → Bool
is_open_hole x (hole y) = x == y
is_open_hole x _ = false

-- the table in which place x, where e stands, is the shape: as it is where e is that, and else where x is open
abbrev pub put_at : List TypeShape → ℕ → TypeShape → TypeShape → Option (List TypeShape)
put_at ts x e u =
    if is_same e u then Some ts
    else if is_open_hole x e && can_stand (length ts) x u then Some (slice_set ts x u)
    else None

-- the table in which a hole is the shape
abbrev pub put_hole : List TypeShape → TypeShape → TypeShape → Option (List TypeShape)
put_hole ts (hole x) u = if nat_lt x (length ts) then put_at ts x (shape_at ts x) u else None
put_hole ts _ u = None

abbrev pub first_table : Option (List TypeShape) → Option (List TypeShape) → Option (List TypeShape)
first_table (Some ts) o = Some ts
first_table None o = o

abbrev pub with_same : List TypeShape → TypeShape → TypeShape → Option (List TypeShape)
with_same ts t u = if is_same t u then Some ts else first_table (put_hole ts t u) (put_hole ts u t)

-- what is said of a shape so far
abbrev pub so_far : List TypeShape → TypeShape → TypeShape
so_far ts (hole x) = shape_at ts x
so_far ts t = t

-- the sides of a pair whose parts are holes
abbrev pub pair_in : TypeShape → Option (ℕ × ℕ)
pair_in (pair (hole x) (hole y)) = Some (x, y)
pair_in t = None

-- the hole of a list's elements
abbrev pub list_in : TypeShape → Option ℕ
list_in (list (hole x)) = Some x
list_in t = None

-- whether the table says of place x that it is of the data type d
abbrev pub is_base_at : List TypeShape → ℕ → ℕ → Bool
is_base_at ts d x = is_same (shape_at ts x) (base d)

-- place y, where t stands, if that is the data type d; or the left side of t, if t is a pair and the table says so of that side
abbrev pub near_of : List TypeShape → ℕ → ℕ → TypeShape → Option ℕ
near_of ts d y (base e) = if e == d then Some y else None
near_of ts d y (pair (hole x) u) = if is_base_at ts d x then Some x else None
near_of ts d y t = None

-- a place of which the table says that it is of the data type d, by its last place but one
abbrev pub near_base : List TypeShape → ℕ → Option ℕ
near_base ts d = near_of ts d (length ts - 2) (shape_at ts (length ts - 2))

-- The table that says besides that two shapes are the same, if one can: of what is said of the left one so far and of the right one one is
-- put for the other.
unfoldable pub with_equation : List TypeShape → TypeShape → TypeShape → Option (List TypeShape)
with_equation ts t u = with_same ts (so_far ts t) u
