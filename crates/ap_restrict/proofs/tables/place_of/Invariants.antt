-- The place is between the two.
use Rattle.std.proofs.Common.{◌≤◌, ◌-◌, length}
use Rattle.ap_restrict.proofs.tables.place_of.Given as goal

abbrev pub invariant-halving : goal.invariant-halving
invariant-halving l = (l.low ≤ l.high) × (l.high ≤ length l.tables)

abbrev pub decreases-halving : goal.decreases-halving
decreases-halving l = l.high - l.low
