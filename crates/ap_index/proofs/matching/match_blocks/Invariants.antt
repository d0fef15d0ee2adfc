use Rattle.std.proofs.Common.{◌≡◌, ◌-◌, ◌≤◌, take, length}
use Rattle.ap_index.specs.Matching.{matching_keys}
use Rattle.ap_index.proofs.matching.match_blocks.Given as goal

abbrev pub invariant-blocks-2 : goal.invariant-blocks-2
invariant-blocks-2 l = (l.at ≤ length l.keys) × (length l.out ≡ length l.keys) × (take l.at l.out ≡ matching_keys l.key (take l.at l.keys))

abbrev pub decreases-blocks-2 : goal.decreases-blocks-2
decreases-blocks-2 l = length l.keys - l.at
