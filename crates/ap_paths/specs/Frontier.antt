-- The frontier of a search: all paths that are open, have ended or were left out, in path order.
use Rattle.std.specs.Prelude.{◌≡◌, ℕ, ◌<◌, ◌⊎◌, Bool, true, false, if◌then◌else◌, List, [], ◌∷◌, ◌++◌}
use Rattle.ap_defs.specs.Answers.{NominalOut}
use Rattle.ap_paths.specs.Trees.{Outputs}
use Rattle.ap_paths.specs.Merging.{EndedPath}

-- p comes before q, and neither begins the other
abbrev pub Before : List ℕ → List ℕ → Type 0
Before [] q = ⊥
Before (x ∷ xs) [] = ⊥
Before (x ∷ xs) (y ∷ ys) = (x < y) ⊎ ((x ≡ y) × Before xs ys)

-- what has become of a path
pub data Fate : Type 0 where
  still_open : Fate
  has_ended : Fate
  was_skipped : Fate

abbrev pub is_waiting : Fate → Bool
is_waiting still_open = true
is_waiting has_ended = false
is_waiting was_skipped = false

abbrev pub is_ended : Fate → Bool
is_ended still_open = false
is_ended has_ended = true
is_ended was_skipped = false

abbrev pub is_skipped : Fate → Bool
is_skipped still_open = false
is_skipped has_ended = false
is_skipped was_skipped = true

abbrev pub Item : Type 0
Item = List ℕ × Fate

abbrev pub AllAfter : List ℕ → List Item → Type 0
AllAfter p [] = Unit {0}
AllAfter p (x ∷ xs) = Before p x.0 × AllAfter p xs

-- the paths ascend, and none begins another
abbrev pub Sorted : List Item → Type 0
Sorted [] = Unit {0}
Sorted (x ∷ xs) = AllAfter x.0 xs × Sorted xs

-- the outputs below all paths, in their order
abbrev pub outs_in : Outputs → List Item → List NominalOut
outs_in at [] = []
outs_in at (x ∷ xs) = at x.0 ++ outs_in at xs

-- the outputs below the paths that were not left out
abbrev pub outs_left : Outputs → List Item → List NominalOut
outs_left at [] = []
outs_left at (x ∷ xs) = if is_skipped x.1 then outs_left at xs else at x.0 ++ outs_left at xs

-- those that have ended, with the outputs below them
abbrev pub ended_in : Outputs → List Item → List EndedPath
ended_in at [] = []
ended_in at (x ∷ xs) = if is_ended x.1 then (x.0, at x.0) ∷ ended_in at xs else ended_in at xs

-- the paths that are open
abbrev pub open_in : List Item → List (List ℕ)
open_in [] = []
open_in (x ∷ xs) = if is_waiting x.1 then x.0 ∷ open_in xs else open_in xs

-- the paths that were left out
abbrev pub skipped_in : List Item → List (List ℕ)
skipped_in [] = []
skipped_in (x ∷ xs) = if is_skipped x.1 then x.0 ∷ skipped_in xs else skipped_in xs
