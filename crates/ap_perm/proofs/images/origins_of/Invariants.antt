-- The images under the inverse of those that came so far are in the table.
use Rattle.std.proofs.Common.{drop}
use Rattle.std.specs.BTreeMap.{get}
use Rattle.ap_defs.specs.Permutations.{inverse}
use Rattle.ap_perm.specs.Images.{AreImages, key_cmp}
use Rattle.ap_perm.proofs.images.origins_of.Given as goal

abbrev pub invariant-loop-i : goal.invariant-loop-i
invariant-loop-i l = AreImages (inverse (drop l.i l.swaps)) (get key_cmp l.images)
