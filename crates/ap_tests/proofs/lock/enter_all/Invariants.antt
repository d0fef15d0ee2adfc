use Rattle.std.proofs.Common.{◌≡◌}
use Rattle.ap_tools.specs.Seats.{book_id}
use Rattle.ap_tests.proofs.lock.enter_all.Given as goal

abbrev pub invariant-loop : goal.invariant-loop
invariant-loop g l = l.seat.book ≡ book_id l.book
