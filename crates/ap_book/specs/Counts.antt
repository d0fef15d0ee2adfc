-- What is kept of the answers that have ended, and what an entry adds to those before a path.
use Rattle.std.specs.Prelude.{◌≡◌, ℕ, ◌+◌, ◌<◌, ◌≤◌, if◌then◌else◌, Option, Some, None, List, [], ◌∷◌, length, take, slice_get}
use Rattle.ap_paths.specs.declared.entries.Entry.{Entry}
use Rattle.ap_paths.specs.Entries.{TreeEntry, split, done, skip, stop, entry_of, entries_of}
use Rattle.ap_paths.specs.Limits.{found_in}
use Rattle.ap_paths.specs.Merging.{is_path_before}
use Rattle.ap_paths.specs.History.{answers_before}

abbrev pub adds : List ℕ → TreeEntry → ℕ
adds p (split seat q ks) = 0
adds p (done seat q os) = if is_path_before q p then found_in os else 0
adds p (skip seat q n) = 0
adds p (stop seat) = 0

abbrev pub adds_at : List ℕ → Option Entry → ℕ
adds_at p None = 0
adds_at p (Some e) = adds p (entry_of e)

-- what the entries at these places add
abbrev pub entries_counted : List ℕ → List Entry → List ℕ → ℕ
entries_counted p history [] = 0
entries_counted p history (i ∷ is) = adds_at p (slice_get history i) + entries_counted p history is

abbrev pub AreIn : ℕ → List ℕ → Type 0
AreIn n [] = Unit {0}
AreIn n (i ∷ is) = (i < n) × AreIn n is

-- of the entries that were looked at, those at these places add all
abbrev pub IsTallied : List Entry → List ℕ → ℕ → Type 0
IsTallied history places seen =
    (seen ≤ length history) × AreIn (length history) places × ((p : List ℕ) → entries_counted p history places ≡ answers_before p (entries_of (take seen history)))
