use Rattle.std.proofs.Common.{◌≡◌, take}
use Rattle.ap_tools.specs.Seats.{logs_of}
use Rattle.ap_tools.specs.Noting.{lists_of}
use Rattle.ap_tools.proofs.locked.logs.note_all.Given as goal

abbrev pub invariant-loop-entry : goal.invariant-loop-entry
invariant-loop-entry l = (lists_of l.logs.items ≡ logs_of l.seats (take l.entry-index l.history)) × (l.place ≡ l.entry-index)
