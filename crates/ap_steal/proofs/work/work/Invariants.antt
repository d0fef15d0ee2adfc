use Rattle.std.proofs.Common.{◌≡◌, true, false, []}
use Rattle.ap_paths.specs.Entries.{entries_of}
use Rattle.ap_paths.specs.History.{has_stop}
use Rattle.ap_tools.specs.Seats.{book_id, book_limit, SameSeat}
use Rattle.ap_tools.specs.Planned.{OwnPlanned}
use Rattle.ap_tools.specs.Order.{IsSole}
use Rattle.ap_tools.specs.Accounts.{NoneLost}
use Rattle.ap_steal.proofs.work.work.Given as goal

abbrev pub invariant-loop : goal.invariant-loop
invariant-loop g l =
    (l.seat.book ≡ book_id l.book)
    × SameSeat l.fn.job.seat l.seat
    × OwnPlanned (g.T.Tree.choices l.tree) (g.T.Tree.plan l.tree) (book_limit l.book) l.seat.number l.seat.seen
    × (l.fn.job.tools.alone ≡ true → IsSole l.fn.job.tools.hand.items l.fn.job.seat.number l.fn.job.seat.seen → (l.tools.alone ≡ true) × IsSole l.tools.hand.items l.seat.number l.seat.seen)
    × (has_stop (entries_of l.seat.seen) ≡ false → NoneLost l.fn.job.seat.number l.fn.job.seat.seen l.fn.job.tools [] l.seat.seen l.tools)
