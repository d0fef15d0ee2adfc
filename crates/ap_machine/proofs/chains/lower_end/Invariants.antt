use Rattle.std.proofs.Common.{◌≤◌, ◌-◌, length}
use Rattle.ap_machine.proofs.chains.lower_end.Given as goal

abbrev pub invariant-halving : goal.invariant-halving
invariant-halving l = record {
  order : l.low ≤ l.high;
  inside : l.high ≤ length l.slots;
}

abbrev pub decreases-halving : goal.decreases-halving
decreases-halving l = l.high - l.low
