-- The images of those that came so far are in the table.
use Rattle.std.proofs.Common.{take}
use Rattle.std.specs.BTreeMap.{get}
use Rattle.ap_judge.specs.Indexes.{AreIndexedImages, sought_name_cmp}
use Rattle.ap_judge.proofs.images.Images.of.Given as goal

abbrev pub invariant-loop-s : goal.invariant-loop-s
invariant-loop-s l = AreIndexedImages (take l.s-index l.swaps) (get sought_name_cmp l.moved)
