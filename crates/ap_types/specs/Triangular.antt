-- What a table of triangular bindings stands for.
use Rattle.std.specs.Prelude.{◌≡◌, ◌≤◌, ℕ, zero, suc, List, [], ◌∷◌, map, length}
use Rattle.ap_defs.specs.Types.{TypeShape, hole, unit, names, base, pair, list, abs}
use Rattle.ap_types.specs.declared.nodes.Node.{Node}
use Rattle.ap_types.specs.declared.nodes.Node.TheVariants as nodes
use Rattle.ap_types.specs.declared.solved.Solved.{Solved}
use Rattle.ap_types.specs.Equations.{Filling, filled, bound_of}
use Rattle.ap_types.specs.Solving.{shape_at}

-- an entry as a shape, whose holes are places of the table
abbrev pub layer_of : Node → TypeShape
layer_of (nodes.Place x) = hole x
layer_of nodes.Unit = unit
layer_of (nodes.Names s) = names s
layer_of (nodes.Base d) = base d
layer_of (nodes.Pair x y) = pair (hole x) (hole y)
layer_of (nodes.List x) = list (hole x)
layer_of (nodes.Abs x y) = abs (hole x) (hole y)

-- entries as the shapes of the places 0, 1, 2 and so on
abbrev pub shapes_of_nodes : List Node → List TypeShape
shapes_of_nodes ns = map layer_of ns

-- the shape of a place, with the entries of its places put for these, and so on, so many times
abbrev pub read : List TypeShape → ℕ → Filling
read ts zero x = hole x
read ts (suc k) x = filled (read ts k) (shape_at ts x)

-- the same as many times as there are entries, after which nothing changes where no place stands within itself
abbrev pub value_of : List TypeShape → Filling
value_of ts x = read ts (length ts) x

-- the shapes of so many places, from place x on
abbrev pub values_from : List TypeShape → ℕ → ℕ → List TypeShape
values_from ts x zero = []
values_from ts x (suc n) = value_of ts x ∷ values_from ts (suc x) n

-- each place is filled as its entry is
abbrev pub Fits : Filling → List TypeShape → Type 0
Fits f ts = (x : ℕ) → f x ≡ filled f (shape_at ts x)

-- a place stands for itself or an earlier one, or has parts among the first n
abbrev pub IsFormed : ℕ → ℕ → TypeShape → Type 0
IsFormed n x (hole y) = y ≤ x
IsFormed n x t = bound_of t ≤ n

abbrev pub AreFormed : List TypeShape → Type 0
AreFormed ts = (x : ℕ) → IsFormed (length ts) x (shape_at ts x)

-- A table in which no place stands within itself: the shapes that are read fit it.
pub record IsSettledTable (ts : List TypeShape) : Type 0 where
  pub formed : AreFormed ts
  pub fits : Fits (value_of ts) ts

-- the shapes of the holes, written out
abbrev pub assignment_of : Solved → List TypeShape
assignment_of s = values_from (shapes_of_nodes s.nodes.items) 0 s.holes
