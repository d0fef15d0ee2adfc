use Rattle.std.proofs.Common.{◌-◌, ◌≤◌, length}
use Rattle.ap_values.proofs.FlatLemmas.{IsBetween}
use Rattle.ap_values.proofs.flat.image_of.Given as goal

abbrev pub invariant-halving : goal.invariant-halving
invariant-halving l = (l.low ≤ l.high) × (l.high ≤ length l.moved) × IsBetween l.moved l.a l.low l.high

abbrev pub decreases-halving : goal.decreases-halving
decreases-halving l = l.high - l.low
