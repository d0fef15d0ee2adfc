use Rattle.std.proofs.Common.{take, arith}
use Rattle.std.specs.BTreeMap.{get}
use Rattle.ap_perm.specs.Images.{key_cmp}
use Rattle.ap_perm.proofs.ImageLemmas.{images_so_far}
use Rattle.ap_perm.proofs.images.images_of.Goals as goal

pub loop-s-preserved : goal.loop-s-preserved
loop-s-preserved c =
    let p = c.args.swaps.now in
    let i = c.loop-s.s-index in
    images_so_far p i _ (get key_cmp c.swap_before.new.images) (omega arith) (c.in_ok-swap_before.ensures (take i p) c.loop-s.invariant)
