-- Equations of shapes, and what solves them.
use Rattle.std.specs.Prelude.{◌≡◌, ◌<◌, ℕ, suc, List, [], ◌∷◌, max}
use Rattle.ap_defs.specs.declared.terms.Shape.{Shape}
use Rattle.ap_defs.specs.Types.{TypeShape, shape_of, hole, unit, names, base, pair, list, abs}

infix 4 ◌≐◌
-- Two shapes that are to become the same.
pub data ShapeEquation : Type 0 where
  ◌≐◌ : TypeShape → TypeShape → ShapeEquation

abbrev pub equation_of : Shape × Shape → ShapeEquation
equation_of p = shape_of p.0 ≐ shape_of p.1

-- what stands for each hole
abbrev pub Filling : Type 0
Filling = ℕ → TypeShape

abbrev pub filled : Filling → TypeShape → TypeShape
filled f (hole x) = f x
filled f unit = unit
filled f (names s) = names s
filled f (base d) = base d
filled f (pair t u) = pair (filled f t) (filled f u)
filled f (list t) = list (filled f t)
filled f (abs t u) = abs (filled f t) (filled f u)

-- both sides of each equation become the same
abbrev pub FillingSolves : Filling → List ShapeEquation → Type 0
FillingSolves f [] = Unit {0}
FillingSolves f ((t ≐ u) ∷ es) = (filled f t ≡ filled f u) × FillingSolves f es

-- one of n declared name types
abbrev pub IsNameType : ℕ → TypeShape → Type 0
IsNameType n (names s) = s < n
IsNameType n _ = ⊥

-- a declared name type stands for each of these holes
abbrev pub GivesNames : ℕ → Filling → List ℕ → Type 0
GivesNames n f [] = Unit {0}
GivesNames n f (x ∷ xs) = IsNameType n (f x) × GivesNames n f xs

abbrev pub IsSolution : List ShapeEquation → List ℕ → ℕ → Filling → Type 0
IsSolution es xs n f = FillingSolves f es × GivesNames n f xs

-- From hole x on, what f puts for it is its shape with the holes that are left filled by g.
abbrev pub FilledBy : Filling → Filling → ℕ → List TypeShape → Type 0
FilledBy g f x [] = Unit {0}
FilledBy g f x (t ∷ ts) = (f x ≡ filled g t) × FilledBy g f (suc x) ts

-- an instance of the shapes of the holes 0, 1, 2 and so on
abbrev pub IsShapeInstance : List TypeShape → Filling → Type 0
IsShapeInstance ts f = (g : Filling) × FilledBy g f 0 ts

-- one more than the greatest hole
abbrev pub bound_of : TypeShape → ℕ
bound_of (hole x) = suc x
bound_of unit = 0
bound_of (names s) = 0
bound_of (base d) = 0
bound_of (pair t u) = max (bound_of t) (bound_of u)
bound_of (list t) = bound_of t
bound_of (abs t u) = max (bound_of t) (bound_of u)

abbrev pub equations_bound : List ShapeEquation → ℕ
equations_bound [] = 0
equations_bound ((t ≐ u) ∷ es) = max (max (bound_of t) (bound_of u)) (equations_bound es)

abbrev pub names_bound : List ℕ → ℕ
names_bound [] = 0
names_bound (x ∷ xs) = max (suc x) (names_bound xs)

-- the holes are the numbers below this
abbrev pub hole_count : List ShapeEquation → List ℕ → ℕ
hole_count es xs = max (equations_bound es) (names_bound xs)
