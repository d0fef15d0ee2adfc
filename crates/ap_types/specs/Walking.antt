-- A walk over a table, which leaves each place after its parts.
use Rattle.std.specs.Prelude.{◌≡◌, ◌<◌, ◌≤◌, ◌+◌, ◌*◌, ℕ, Bool, true, false, ◌==◌, if◌then◌else◌, ◌⊎◌, List, [], ◌∷◌, length, slice_index_or}
use Rattle.ap_defs.specs.Types.{TypeShape, hole}
use Rattle.ap_types.specs.declared.walking.Mark.{Mark}
use Rattle.ap_types.specs.declared.walking.Mark.TheVariants as marks
use Rattle.ap_types.specs.Equations.{Filling}
use Rattle.ap_types.specs.Solving.{occurs_in_shape, shape_at}
use Rattle.ap_types.specs.Triangular.{Fits}
use Rattle.ap_types.specs.Joining.{count_below}

-- whether the place c stands in the entry of the place x, which does not stand for itself
abbrev pub is_part : ℕ → TypeShape → ℕ → Bool
is_part x (hole y) c = if x == y then false else c == y
is_part x t c = occurs_in_shape c t

abbrev pub IsPart : List TypeShape → ℕ → ℕ → Type 0
IsPart ts x c = is_part x (shape_at ts x) c ≡ true

abbrev pub walk_mark_at : List Mark → ℕ → Mark
walk_mark_at ms x = slice_index_or ms x marks.New

abbrev pub is_left : Mark → Bool
is_left marks.Left = true
is_left _ = false

abbrev pub is_unvisited : Mark → Bool
is_unvisited marks.New = true
is_unvisited _ = false

-- each place is a part of the one before
abbrev pub IsPath : List TypeShape → List ℕ → Type 0
IsPath ts [] = Unit {0}
IsPath ts (x ∷ []) = Unit {0}
IsPath ts (x ∷ y ∷ zs) = IsPart ts x y × IsPath ts (y ∷ zs)

abbrev pub Stands : ℕ → List ℕ → Type 0
Stands x [] = ⊥
Stands x (y ∷ ys) = (x ≡ y) ⊎ Stands x ys

abbrev pub ArePlacesBelow : ℕ → List ℕ → Type 0
ArePlacesBelow n [] = Unit {0}
ArePlacesBelow n (x ∷ xs) = (x < n) × ArePlacesBelow n xs

-- What was entered and not left stands on the path. The places that were left stand in the order in which they were, each behind its parts.
pub record IsWalk (ts : List TypeShape) (ms : List Mark) (order : List ℕ) (path : List ℕ) : Type 0 where
  pub as_long : length ms ≡ length ts
  pub within : ArePlacesBelow (length ts) path
  pub is_path : IsPath ts path
  pub entered : (x : ℕ) → walk_mark_at ms x ≡ marks.Entered → Stands x path
  pub marked : (k : ℕ) → k < length order → is_left (walk_mark_at ms (slice_index_or order k 0)) ≡ true
  pub placed : (x : ℕ) → is_left (walk_mark_at ms x) ≡ true → (k : ℕ) × (k < length order) × (slice_index_or order k 0 ≡ x)
  pub ordered : (k c : ℕ) → k < length order → IsPart ts (slice_index_or order k 0) c → (j : ℕ) × (j < k) × (slice_index_or order j 0 ≡ c)
  pub counted : length order ≤ count_below (λ x. is_left (walk_mark_at ms x)) (length ms)

-- Each place of the table stands in the order, behind its parts.
pub record AreInOrder (ts : List TypeShape) (order : List ℕ) : Type 0 where
  pub within : (k : ℕ) → k < length order → slice_index_or order k 0 < length ts
  pub whole : (x : ℕ) → x < length ts → (k : ℕ) × (k < length order) × (slice_index_or order k 0 ≡ x)
  pub behind : (k c : ℕ) → k < length order → IsPart ts (slice_index_or order k 0) c → (j : ℕ) × (j < k) × (slice_index_or order j 0 ≡ c)

-- what was left stays left
abbrev pub StayLeft : List Mark → List Mark → Type 0
StayLeft old new = (x : ℕ) → is_left (walk_mark_at old x) ≡ true → is_left (walk_mark_at new x) ≡ true

-- how many places are new
unfoldable pub new_count : List Mark → ℕ
new_count ms = count_below (λ x. is_unvisited (walk_mark_at ms x)) (length ms)

-- A step along a path: what stood on it stands there still or was left, and fewer steps are left.
pub record PassesAlong (ts : List TypeShape) (old : List Mark) (path : List ℕ) (ms : List Mark) (order : List ℕ) (path' : List ℕ) : Type 0 where
  pub walk : IsWalk ts ms order path'
  pub stay : StayLeft old ms
  pub there : (x : ℕ) → Stands x path → (is_left (walk_mark_at ms x) ≡ true) ⊎ Stands x path'
  pub fewer : length path' + 2 * new_count ms < length path + 2 * new_count old

-- The walk has left the place, and is on no path.
pub record HasLeft (ts : List TypeShape) (old : List Mark) (x : ℕ) (ms : List Mark) (order : List ℕ) : Type 0 where
  pub walk : IsWalk ts ms order []
  pub stay : StayLeft old ms
  pub here : is_left (walk_mark_at ms x) ≡ true

-- nothing fits the table
abbrev pub NoneFits : List TypeShape → Type 0
NoneFits ts = (f : Filling) → Fits f ts → ⊥
