use Rattle.std.proofs.Common.{◌<◌, ◌-◌, length}
use Rattle.std.specs.Prelude.{All}
use Rattle.ap_machine.proofs.chains.way_from.Given as goal

abbrev pub invariant-following : goal.invariant-following
invariant-following l = record {
  inside : All (λ i. i < length l.slots) l.way.items;
  next : l.last < length l.slots;
}

abbrev pub decreases-following : goal.decreases-following
decreases-following l = length l.slots - length l.way.items
