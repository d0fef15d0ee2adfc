-- Histories: which paths are open, which histories are legal, and how far a search is.
use Rattle.std.specs.Prelude.{ℕ, Bool, nat_eq, true, false, not, ◌&&◌, ◌||◌, nat_le, if◌then◌else◌, List, [], ◌∷◌, ◌++◌, length}
use lib.Pointwise.{pointwise}
use Rattle.ap_paths.specs.Entries.{TreeEntry, split, done, skip, stop}
use Rattle.ap_paths.specs.Merging.{EndedPath, ends_after, ends_from, found_before}
use Rattle.ap_defs.specs.declared.paths.Progress.{Progress}
use Rattle.ap_defs.specs.declared.paths.Progress.TheVariants.{Left, Finished, Stopped}

-- equality of paths
abbrev pub same_path : List ℕ → List ℕ → Bool
same_path = pointwise nat_eq

abbrev pub is_open : List ℕ → List (List ℕ) → Bool
is_open p [] = false
is_open p (q ∷ qs) = same_path p q || is_open p qs

-- the list without the first p
abbrev pub without : List ℕ → List (List ℕ) → List (List ℕ)
without p [] = []
without p (q ∷ qs) = if same_path p q then qs else q ∷ without p qs

-- the path goes on by each of these choices
abbrev pub kids_of : List ℕ → List ℕ → List (List ℕ)
kids_of p [] = []
kids_of p (k ∷ ks) = (p ++ k ∷ []) ∷ kids_of p ks

-- the open paths after an entry: a split replaces its path by the kids, an end and a skip remove it
abbrev pub open_after : List (List ℕ) → TreeEntry → List (List ℕ)
open_after ps (split seat p ks) = without p ps ++ kids_of p ks
open_after ps (done seat p os) = without p ps
open_after ps (skip seat p n) = without p ps
open_after ps (stop seat) = ps

abbrev pub open_from : List (List ℕ) → List TreeEntry → List (List ℕ)
open_from ps [] = ps
open_from ps (e ∷ es) = open_from (open_after ps e) es

-- the open paths of a history: at first the empty path alone
abbrev pub open_of : List TreeEntry → List (List ℕ)
open_of history = open_from ([] ∷ []) history

abbrev pub is_stop : TreeEntry → Bool
is_stop (split seat p ks) = false
is_stop (done seat p os) = false
is_stop (skip seat p n) = false
is_stop (stop seat) = true

abbrev pub has_stop : List TreeEntry → Bool
has_stop [] = false
has_stop (e ∷ es) = is_stop e || has_stop es

-- the entry may be made where these paths are open, and a stop stands already or not
abbrev pub may_enter : List (List ℕ) → Bool → TreeEntry → Bool
may_enter ps stopped (split seat p ks) = is_open p ps
may_enter ps stopped (done seat p os) = is_open p ps
may_enter ps stopped (skip seat p n) = is_open p ps
may_enter ps stopped (stop seat) = not stopped

abbrev pub legal_from : List (List ℕ) → Bool → List TreeEntry → Bool
legal_from ps stopped [] = true
legal_from ps stopped (e ∷ es) = may_enter ps stopped e && legal_from (open_after ps e) (stopped || is_stop e) es

-- a path may be left out where so many answers have ended before it
abbrev pub is_reached : List EndedPath → TreeEntry → Bool
is_reached ends (split seat p ks) = true
is_reached ends (done seat p os) = true
is_reached ends (skip seat p n) = nat_le n (found_before p ends)
is_reached ends (stop seat) = true

abbrev pub are_reached : List EndedPath → List TreeEntry → Bool
are_reached ends [] = true
are_reached ends (e ∷ es) = is_reached ends e && are_reached (ends_after ends e) es

-- how many answers have ended in a history with paths before p
abbrev pub answers_before : List ℕ → List TreeEntry → ℕ
answers_before p history = found_before p (ends_from [] history)

-- each path was open at its entry, each that was left out had so many answers before it, and at most one stop stands there
abbrev pub is_legal : List TreeEntry → Bool
is_legal history = legal_from ([] ∷ []) false history && are_reached [] history

abbrev pub left_of : List (List ℕ) → Progress
left_of [] = Finished
left_of (p ∷ ps) = Left (length (p ∷ ps))

-- how far a search with this history is
abbrev pub progress_of : List TreeEntry → Progress
progress_of history = if has_stop history then Stopped else left_of (open_of history)

abbrev pub seat_of : TreeEntry → ℕ
seat_of (split seat p ks) = seat
seat_of (done seat p os) = seat
seat_of (skip seat p n) = seat
seat_of (stop seat) = seat
