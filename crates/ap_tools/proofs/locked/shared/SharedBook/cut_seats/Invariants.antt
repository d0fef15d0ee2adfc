use Rattle.std.proofs.Common.{◌≡◌, ◌-◌, ◌≤◌, [], vec_len, vec_capacity}
use Rattle.ap_tools.specs.declared.locked.view.Stage.TheVariants.{Idle}
use Rattle.ap_tools.specs.Turns.{view, fresh_owns}
use Rattle.ap_tools.specs.Seats.{book_id, new_seats}
use Rattle.ap_tools.proofs.locked.shared.SharedBook.cut_seats.Given as goal

abbrev pub invariant-loop-number : goal.invariant-loop-number
invariant-loop-number l =
    (l.first.table_id ≡ book_id l.self)
    × (l.first.me ≡ (view Idle (fresh_owns l.number (l.seats - l.number)), []))
    × (l.list.items ≡ new_seats (book_id l.self) 0 l.number)
    × (vec_len l.list ≡ l.number)
    × (l.seats ≤ vec_capacity l.list)
