use Rattle.std.proofs.Common.{drop, ◌-◌, arith}
use Rattle.std.specs.BTreeMap.{get}
use Rattle.ap_defs.specs.Permutations.{inverse}
use Rattle.ap_perm.specs.Images.{key_cmp}
use Rattle.ap_perm.proofs.ImageLemmas.{origins_so_far}
use Rattle.ap_perm.proofs.images.origins_of.Goals as goal

pub loop-i-preserved : goal.loop-i-preserved
loop-i-preserved c =
    let p = c.args.swaps.now in
    let i = c.loop-i.i in
    origins_so_far p i (i - 1) _ (get key_cmp c.swap_before.new.images) (omega arith) (omega arith) (c.in_ok-swap_before.ensures (inverse (drop i p)) c.loop-i.invariant)
