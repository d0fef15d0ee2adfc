-- What a book keeps beside its history.
use Rattle.std.specs.Prelude.{◌≡◌, ℕ, Bool, true, false, not, ◌==◌, ◌&&◌, ◌||◌, List, [], ◌∷◌, Vec}
use Rattle.ap_paths.specs.Entries.{TreeEntry}
use Rattle.ap_paths.specs.Weights.{HaveSame}
use Rattle.ap_paths.specs.History.{kids_of, open_of, has_stop, is_legal}
use Rattle.ap_book.specs.declared.kids.Kids.{Kids}

abbrev pub paths_of : {Z : Type 0} → List (Vec ℕ Z) → List (List ℕ)
paths_of [] = []
paths_of (v ∷ vs) = v.items ∷ paths_of vs

-- the paths part at some entry, so neither begins the other
abbrev pub paths_part : List ℕ → List ℕ → Bool
paths_part [] q = false
paths_part (x ∷ xs) [] = false
paths_part (x ∷ xs) (y ∷ ys) = not (x == y) || paths_part xs ys

abbrev pub parts_from : List ℕ → List (List ℕ) → Bool
parts_from p [] = true
parts_from p (q ∷ qs) = paths_part p q && parts_from p qs

-- no path of the list begins another
abbrev pub all_part : List (List ℕ) → Bool
all_part [] = true
all_part (p ∷ ps) = parts_from p ps && all_part ps

-- the kids of a path by these choices, with the paths that they open
abbrev pub AreKidsOf : List ℕ → List ℕ → Kids → Type 0
AreKidsOf path choices k = (k.choices.items ≡ choices) × (paths_of k.paths.items ≡ kids_of path choices)

-- The set has the open paths of the history, each as often as that; the history is legal, and no open path begins another.
pub record IsBookKept (history : List TreeEntry) (opened : List (List ℕ)) (stopped : Bool) : Type 0 where
  pub opens : HaveSame opened (open_of history)
  pub stops : stopped ≡ has_stop history
  pub legal : is_legal history ≡ true
  pub apart : all_part (open_of history) ≡ true
