-- Nothing waits at more places.
use Rattle.std.proofs.Common.{◌-◌, suc, length}
use Rattle.ap_types.specs.Rules.{SameRules}
use Rattle.ap_types.proofs.least.room_to_wait.Given as goal

abbrev pub invariant-room : goal.invariant-room
invariant-room l = SameRules l.initial.waiting.items l.waiting.items

abbrev pub decreases-room : goal.decreases-room
decreases-room l = suc l.place - length l.waiting.items
