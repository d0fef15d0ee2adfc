-- What an assignment has for holes that must be name types.
use Rattle.std.specs.Prelude.{◌≡◌, ◌<◌, ◌≤◌, ℕ, ◌==◌, if◌then◌else◌, List, [], ◌∷◌, map, length}
use Rattle.ap_defs.specs.Types.{TypeShape, hole, names}
use Rattle.ap_types.specs.Equations.{ShapeEquation, ◌≐◌, Filling, FilledBy, FillingSolves, IsSolution, IsShapeInstance, hole_count}
use Rattle.ap_types.specs.Solving.{shape_at}

-- one of n declared name types, or undetermined where there are two or more
abbrev pub IsNameOrOpen : ℕ → TypeShape → Type 0
IsNameOrOpen n (names s) = s < n
IsNameOrOpen n (hole y) = 2 ≤ n
IsNameOrOpen n _ = ⊥

abbrev pub AreNames : ℕ → List TypeShape → List ℕ → Type 0
AreNames n ts [] = Unit {0}
AreNames n ts (x ∷ xs) = IsNameOrOpen n (shape_at ts x) × AreNames n ts xs

-- no assignment solves the equations
abbrev pub IsUnsolvable : List ShapeEquation → List ℕ → ℕ → Type 0
IsUnsolvable es xs n = (f : Filling) → IsSolution es xs n f → ⊥

-- one of n declared name types, or a hole
abbrev pub IsNameOrHole : ℕ → TypeShape → Type 0
IsNameOrHole n (names s) = s < n
IsNameOrHole n (hole y) = Unit {0}
IsNameOrHole n _ = ⊥

abbrev pub AreNamesOrHoles : ℕ → List TypeShape → List ℕ → Type 0
AreNamesOrHoles n ts [] = Unit {0}
AreNamesOrHoles n ts (x ∷ xs) = IsNameOrHole n (shape_at ts x) × AreNamesOrHoles n ts xs

-- where one name type is declared, the holes that must be name types are it
abbrev pub name_equation : ℕ → ShapeEquation
name_equation x = hole x ≐ names 0

abbrev pub name_equations : ℕ → List ℕ → List ShapeEquation
name_equations n xs = if n == 1 then map name_equation xs else []

-- Shapes of the holes that have every solution, and none that does not solve the equations.
pub record Narrows (es : List ShapeEquation) (xs : List ℕ) (n : ℕ) (ts : List TypeShape) : Type 0 where
  pub onward : (f : Filling) → IsSolution es xs n f → IsShapeInstance ts f
  pub back : (g f : Filling) → FilledBy g f 0 ts → FillingSolves f es × FillingSolves f (name_equations n xs)
  pub as_many : length ts ≡ hole_count es xs
