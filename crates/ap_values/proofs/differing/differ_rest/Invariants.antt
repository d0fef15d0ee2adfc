use Rattle.std.proofs.Common.{◌≡◌, take, length}
use Rattle.ap_values.specs.Differing.{differing_places}
use Rattle.ap_values.proofs.differing.differ_rest.Given as goal

abbrev pub invariant-filling : goal.invariant-filling
invariant-filling l = (length l.out ≡ length l.left) × (take l.i l.out ≡ differing_places (take l.i l.left) (take l.i l.right))
