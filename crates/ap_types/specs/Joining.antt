-- Loading shapes into a table, and joining its places.
use Rattle.std.specs.Prelude.{◌≡◌, ◌<◌, ◌≤◌, ◌+◌, ◌*◌, ◌↔◌, ℕ, zero, suc, Bool, true, ◌==◌, if◌then◌else◌, List, [], ◌∷◌, length, Option, Some, None}
use Rattle.ap_defs.specs.Types.{TypeShape, hole}
use Rattle.ap_types.specs.declared.nodes.Node.{Node}
use Rattle.ap_types.specs.declared.nodes.Node.TheVariants as nodes
use Rattle.ap_types.specs.declared.joining.Rest.{Rest}
use Rattle.ap_types.specs.declared.joining.Rest.TheVariants as rests
use Rattle.ap_types.specs.Equations.{ShapeEquation, Filling, filled, FillingSolves, hole_count}
use Rattle.ap_types.specs.Assignments.{name_equations}
use Rattle.ap_types.specs.Solving.{shape_at}
use Rattle.ap_types.specs.Triangular.{shapes_of_nodes, Fits, AreFormed, IsSettledTable}

-- the two places of each pair are filled alike
abbrev pub Agree : Filling → List (ℕ × ℕ) → Type 0
Agree f [] = Unit {0}
Agree f (p ∷ ps) = (f p.0 ≡ f p.1) × Agree f ps

abbrev pub ArePairsWithin : ℕ → List (ℕ × ℕ) → Type 0
ArePairsWithin n [] = Unit {0}
ArePairsWithin n (p ∷ ps) = (p.0 < n) × (p.1 < n) × ArePairsWithin n ps

-- More places, which don't say more of the old ones.
pub record Extends (old new : List TypeShape) : Type 0 where
  pub longer : length old ≤ length new
  pub formed : AreFormed new
  pub keeps : (f : Filling) → Fits f new → Fits f old
  pub more : (f : Filling) → Fits f old → (g : Filling) × Fits g new × ((x : ℕ) → x < length old → g x ≡ f x)

-- The place stands for the shape.
pub record Loads (old : List TypeShape) (t : TypeShape) (new : List TypeShape) (x : ℕ) : Type 0 where
  pub extends : Extends old new
  pub within : x < length new
  pub stands : (f : Filling) → Fits f new → f x ≡ filled f t

-- The new table and pairs say of the old places what the old ones and the equations say.
pub record LoadsAll (old : List TypeShape) (before : List (ℕ × ℕ)) (es : List ShapeEquation) (new : List TypeShape) (after : List (ℕ × ℕ)) : Type 0 where
  pub longer : length old ≤ length new
  pub formed : AreFormed new
  pub within : ArePairsWithin (length new) after
  pub solves : (f : Filling) → Fits f new → Agree f after → (Fits f old × Agree f before) × FillingSolves f es
  pub more : (f : Filling) → Fits f old → Agree f before → FillingSolves f es → (g : Filling) × (Fits g new × Agree g after) × ((x : ℕ) → x < length old → g x ≡ f x)

abbrev pub is_root : ℕ → TypeShape → Bool
is_root x (hole y) = x == y
is_root x _ = true

-- the place that stands for one, or itself
abbrev pub link : ℕ → TypeShape → ℕ
link x (hole y) = y
link x _ = x

-- how many of the first n numbers pass
abbrev pub count_below : (ℕ → Bool) → ℕ → ℕ
count_below p zero = 0
count_below p (suc n) = if p n then suc (count_below p n) else count_below p n

-- how many places stand for themselves
unfoldable pub roots : List TypeShape → ℕ
roots ts = count_below (λ x. is_root x (shape_at ts x)) (length ts)

-- The same is said of the places by another table, by which roots stay roots and none are added.
pub record Rewrites (old new : List TypeShape) : Type 0 where
  pub same : (f : Filling) → Fits f old ↔ Fits f new
  pub formed : AreFormed new
  pub as_long : length new ≡ length old
  pub kept : (x : ℕ) → is_root x (shape_at old x) ≡ true → is_root x (shape_at new x) ≡ true
  pub no_more : roots new ≤ roots old

-- The place y stands for the place x, one link further on unless it is a root.
pub record Shortens (old : List TypeShape) (x : ℕ) (new : List TypeShape) (y : ℕ) : Type 0 where
  pub rewrites : Rewrites old new
  pub alike : (f : Filling) → Fits f new → f x ≡ f y
  pub before : y ≤ x
  pub root : y ≡ x → is_root x (shape_at new x) ≡ true

-- The root y stands for the place x.
pub record FindsRoot (old : List TypeShape) (x : ℕ) (new : List TypeShape) (y : ℕ) : Type 0 where
  pub rewrites : Rewrites old new
  pub alike : (f : Filling) → Fits f new → f x ≡ f y
  pub before : y ≤ x
  pub root : is_root y (shape_at new y) ≡ true

-- what is left to be joined
abbrev pub pairs_of : Rest → List (ℕ × ℕ)
pairs_of rests.Nothing = []
pairs_of (rests.One p) = p ∷ []
pairs_of (rests.Two p q) = p ∷ q ∷ []

-- what makes two entries of roots the same
abbrev pub parts : Node → Node → Option (List (ℕ × ℕ))
parts (nodes.Place x) n = Some []
parts m (nodes.Place y) = Some []
parts nodes.Unit nodes.Unit = Some []
parts (nodes.Names r) (nodes.Names s) = if r == s then Some [] else None
parts (nodes.Base c) (nodes.Base d) = if c == d then Some [] else None
parts (nodes.Pair x y) (nodes.Pair v w) = Some ((x, v) ∷ (y, w) ∷ [])
parts (nodes.List x) (nodes.List v) = Some ((x, v) ∷ [])
parts (nodes.Abs x y) (nodes.Abs v w) = Some ((x, v) ∷ (y, w) ∷ [])
parts _ _ = None

-- the entry of the two that says more
abbrev pub fuller : Node → Node → Node
fuller (nodes.Place x) (nodes.Place y) = nodes.Place x
fuller (nodes.Place x) n = n
fuller m n = m

-- Two places are joined, with pairs that are left.
pub record Joins (old : List TypeShape) (x y : ℕ) (new : List TypeShape) (rest : List (ℕ × ℕ)) : Type 0 where
  pub solved : (f : Filling) → (Fits f old × (f x ≡ f y)) ↔ (Fits f new × Agree f rest)
  pub formed : AreFormed new
  pub as_long : length new ≡ length old
  pub within : ArePairsWithin (length new) rest
  pub fewer : length rest + 3 * roots new ≤ 3 * roots old

-- nothing fits in which the two are alike
abbrev pub NeverAlike : List TypeShape → ℕ → ℕ → Type 0
NeverAlike ts x y = (f : Filling) → Fits f ts → f x ≡ f y → ⊥

-- The table and pairs say what others say.
pub record TablesLead (ts : List TypeShape) (ps : List (ℕ × ℕ)) (ts' : List TypeShape) (ps' : List (ℕ × ℕ)) : Type 0 where
  pub solved : (f : Filling) → (Fits f ts × Agree f ps) ↔ (Fits f ts' × Agree f ps')
  pub formed : AreFormed ts'
  pub as_long : length ts' ≡ length ts
  pub within : ArePairsWithin (length ts') ps'

-- nothing fits in which the pairs are alike
abbrev pub NeverAgree : List TypeShape → List (ℕ × ℕ) → Type 0
NeverAgree ts ps = (f : Filling) → Fits f ts → Agree f ps → ⊥

-- The table and pairs say of holes, which are the first places, what two lists of equations say.
pub record LoadsSystem (es fs : List ShapeEquation) (holes : ℕ) (ts : List TypeShape) (ps : List (ℕ × ℕ)) : Type 0 where
  pub formed : AreFormed ts
  pub within : ArePairsWithin (length ts) ps
  pub longer : holes ≤ length ts
  pub solves : (f : Filling) → Fits f ts → Agree f ps → FillingSolves f es × FillingSolves f fs
  pub more : (f : Filling) → FillingSolves f es → FillingSolves f fs → (g : Filling) × (Fits g ts × Agree g ps) × ((x : ℕ) → x < holes → g x ≡ f x)

-- They say so of equations and of those by which holes are the one name type, and the holes are all that these have.
abbrev pub BeginsSystem : List ShapeEquation → List ℕ → ℕ → ℕ → List TypeShape → List (ℕ × ℕ) → Type 0
BeginsSystem es xs n holes ts ps = (holes ≡ hole_count es xs) × LoadsSystem es (name_equations n xs) holes ts ps

-- What fits and makes the pairs alike is what fits the other table, in which no place stands within itself.
pub record Settles (ts : List TypeShape) (ps : List (ℕ × ℕ)) (ts' : List TypeShape) : Type 0 where
  pub settled : IsSettledTable ts'
  pub solved : (f : Filling) → (Fits f ts × Agree f ps) ↔ Fits f ts'
