use Rattle.std.proofs.Common.{◌≡◌, []}
use Rattle.ap_tools.specs.Seats.{logs_of}
use Rattle.ap_tools.specs.Noting.{lists_of}
use Rattle.ap_tools.proofs.locked.logs.make_empty.Given as goal

abbrev pub invariant-loop : goal.invariant-loop
invariant-loop l = lists_of l.logs.items ≡ logs_of l.counter []
