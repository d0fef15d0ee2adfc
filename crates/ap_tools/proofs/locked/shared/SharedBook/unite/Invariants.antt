use Rattle.std.proofs.Common.{◌≡◌, ℕ, ◌+◌, List, [], ◌∷◌, ◌++◌, length}
use Rattle.ap_paths.specs.declared.entries.Entry.{Entry}
use Rattle.ap_tools.specs.declared.locked.view.Stage.TheVariants.{Idle}
use Rattle.ap_tools.specs.Turns.{AreKnown, times_owned}
use Rattle.ap_tools.specs.Seats.{book_id, AreOfBook, AreLogged, seats_with}
use Rattle.ap_tools.proofs.locked.shared.SharedBook.unite.Given as goal

abbrev pub invariant-loop-seat : goal.invariant-loop-seat
invariant-loop-seat l =
    (l.first.table_id ≡ book_id l.self)
    × AreOfBook (book_id l.self) l.seats.items
    × (l.first.me.0.stage ≡ Idle)
    × (l.first.me.1 ≡ [])
    × (length l.first.me.0.owns + length l.seats.items ≡ length l.fn.seats.items + 1)
    × ((history : List Entry) → AreKnown history l.first.me.0.owns → AreLogged history l.seats.items → AreLogged history (l.fn.seats.items ++ l.fn.last ∷ []))
    × ((n : ℕ) → times_owned n l.first.me.0.owns + seats_with n l.seats.items ≡ seats_with n (l.fn.seats.items ++ l.fn.last ∷ []))

abbrev pub decreases-loop-seat : goal.decreases-loop-seat
decreases-loop-seat l = goal.left-loop-seat l
