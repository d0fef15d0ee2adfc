-- What a book answers.
use Rattle.std.specs.Prelude.{◌≡◌, ℕ, ◌-◌, ◌^◌, ◌≤◌, min, true, false, Result, Ok, Err, List, [], ◌∷◌, ◌++◌}
use Rattle.ap_paths.specs.declared.entries.Entry.{Entry}
use Rattle.ap_paths.specs.declared.runs.Run.{Run}
use Rattle.ap_paths.specs.declared.entries.Entry.TheVariants as entry
use Rattle.ap_paths.specs.declared.limits.Limit.{Limit}
use Rattle.ap_paths.specs.declared.limits.Limit.TheVariants as limits
use Rattle.ap_paths.specs.Entries.{entries_of}
use Rattle.ap_paths.specs.Limits.{IsWanting}
use Rattle.ap_paths.specs.History.{is_open, open_of, answers_before}
use Rattle.ap_book.specs.declared.error.BookError.{BookError}
use Rattle.ap_book.specs.declared.error.DoneError.{DoneError}
use Rattle.ap_book.specs.declared.error.BookError.TheVariants.{NotOpen, Memory}
use Rattle.ap_book.specs.declared.error.SkipError.{SkipError}
use Rattle.ap_book.specs.declared.error.SkipError.TheVariants as refused

-- why an entry at this path is refused: NotOpen exactly where the path is not open
abbrev pub Refuses : List Entry → List ℕ → BookError → Type 0
Refuses history path NotOpen = is_open path (open_of (entries_of history)) ≡ false
Refuses history path Memory = is_open path (open_of (entries_of history)) ≡ true

-- what an entry at this path answers, and the history after
abbrev pub Enters : {X : Type 0} → List Entry → List ℕ → Entry → Result X BookError → List Entry → Type 0
Enters history path e (Ok x) after = (is_open path (open_of (entries_of history)) ≡ true) × (after ≡ history ++ e ∷ [])
Enters history path e (Err cause) after = Refuses history path cause × (after ≡ history)

-- the same of an end, whose outputs come back
abbrev pub EntersDone : {X : Type 0} → List Entry → List ℕ → List Run → Entry → Result X DoneError → List Entry → Type 0
EntersDone history path outs e (Ok x) after = (is_open path (open_of (entries_of history)) ≡ true) × (after ≡ history ++ e ∷ [])
EntersDone history path outs e (Err d) after = Refuses history path d.cause × (d.outs ≡ outs) × (after ≡ history)

-- as many answers have ended before the path as are wanted
abbrev pub HasEnough : List Entry → List ℕ → Limit → ℕ → Type 0
HasEnough history path l w = (l ≡ limits.First w) × (w ≤ answers_before path (entries_of history))

-- why a path is not left out: Needed exactly where it is open and fewer answers have ended before it, with their number
abbrev pub RefusesSkip : List Entry → List ℕ → Limit → SkipError → Type 0
RefusesSkip history path l refused.NotOpen = is_open path (open_of (entries_of history)) ≡ false
RefusesSkip history path l (refused.Needed n) =
    (is_open path (open_of (entries_of history)) ≡ true) × (n ≡ min (answers_before path (entries_of history)) (2 ^ 64 - 1)) × IsWanting l n
RefusesSkip history path l refused.Memory = (is_open path (open_of (entries_of history)) ≡ true) × ((w : ℕ) × HasEnough history path l w)

-- what a skip of this path answers, and the history after
abbrev pub Skips : {X : Type 0} → List Entry → List ℕ → Limit → ℕ → Result X SkipError → List Entry → Type 0
Skips history path l seat (Ok x) after =
    (is_open path (open_of (entries_of history)) ≡ true) × ((w : ℕ) × HasEnough history path l w × (after ≡ history ++ entry.Skip seat path w ∷ []))
Skips history path l seat (Err cause) after = RefusesSkip history path l cause × (after ≡ history)
