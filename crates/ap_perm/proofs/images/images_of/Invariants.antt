-- The images under those that came so far are in the table.
use Rattle.std.proofs.Common.{take}
use Rattle.std.specs.BTreeMap.{get}
use Rattle.ap_perm.specs.Images.{AreImages, key_cmp}
use Rattle.ap_perm.proofs.images.images_of.Given as goal

abbrev pub invariant-loop-s : goal.invariant-loop-s
invariant-loop-s l = AreImages (take l.s-index l.swaps) (get key_cmp l.images)
