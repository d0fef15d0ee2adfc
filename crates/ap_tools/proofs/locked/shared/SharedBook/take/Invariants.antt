use Rattle.std.proofs.Common.{◌≡◌}
use Rattle.ap_tools.specs.Turns.{IsWaiting}
use Rattle.ap_tools.proofs.locked.shared.SharedBook.take.Given as goal

abbrev pub invariant-loop : goal.invariant-loop
invariant-loop g l = (l.seat.table_id ≡ l.fn.seat.table_id) × IsWaiting l.fn.seat.me.0 l.ticket l.seat.me
