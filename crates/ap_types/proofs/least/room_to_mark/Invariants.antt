-- Nothing is marked by more places.
use Rattle.std.proofs.Common.{◌-◌, suc, length}
use Rattle.ap_types.specs.Rules.{SameMarks}
use Rattle.ap_types.proofs.least.room_to_mark.Given as goal

abbrev pub invariant-room : goal.invariant-room
invariant-room l = SameMarks l.initial.table.items l.table.items

abbrev pub decreases-room : goal.decreases-room
decreases-room l = suc l.place - length l.table.items
