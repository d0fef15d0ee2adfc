use Rattle.std.specs.BTreeMap.{get}
use Rattle.ap_defs.specs.Permutations.{inverse}
use Rattle.ap_perm.specs.Images.{key_cmp}
use Rattle.ap_perm.proofs.ImageLemmas.{images_in_front}
use Rattle.ap_perm.proofs.images.swap_after.Goals as goal

pub returns : goal.returns
returns c = λ p inv back.
    let f = get key_cmp c.swap_before.new.images in
    let g = get key_cmp c.args.origins.now in (
      images_in_front p c.args.s.now c.image_in-left.result c.image_in-right.result f g back c.image_in-left.ensures c.image_in-right.ensures
          (c.in_ok-swap_before.ensures p inv),
      c.in_ok-swap_before-2.ensures (inverse p) back,
    )
