use Rattle.std.proofs.Common.{◌≡◌, ◌-◌, ◌≤◌, take, length}
use Rattle.ap_values.specs.Differing.{differing_places}
use Rattle.ap_values.proofs.differing.differ_blocks.Given as goal

abbrev pub invariant-blocks-2 : goal.invariant-blocks-2
invariant-blocks-2 l =
    (l.at ≤ length l.left) × (length l.out ≡ length l.left) × (take l.at l.out ≡ differing_places (take l.at l.left) (take l.at l.right))

abbrev pub decreases-blocks-2 : goal.decreases-blocks-2
decreases-blocks-2 l = length l.left - l.at
