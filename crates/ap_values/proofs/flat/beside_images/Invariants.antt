use Rattle.std.proofs.Common.{◌≡◌, List, map, take}
use Rattle.std.specs.BTreeMap.{get}
use Rattle.ap_defs.specs.declared.terms.Swap.{Swap}
use Rattle.ap_values.specs.Flat.{moved_by}
use Rattle.ap_perm.specs.Images.{AreImages, key_cmp}
use Rattle.ap_values.proofs.flat.beside_images.Given as goal

abbrev pub invariant-loop-a : goal.invariant-loop-a
invariant-loop-a l = (p : List Swap) → AreImages p (get key_cmp l.images) → l.moved.items ≡ map (moved_by p) (take l.a-index l.names)
