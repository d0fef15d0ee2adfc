use Rattle.std.proofs.Common.{sym, ◌∙◌}
use Rattle.std.specs.BTreeMap.{get}
use Rattle.ap_perm.specs.Images.{key_cmp}
use Rattle.ap_perm.proofs.ExchangeLemmas.{stands_first, stands_past, stands_further, stands_last}
use Rattle.ap_perm.proofs.swappings.exchanged.Goals as goal
use Rattle.ap_perm.proofs.swappings.exchanged.Goals.{then-not-is_same+in_ok-swap_after+in_ok-push, else-not-is_same}

pub loop-a-init : goal.loop-a-init
loop-a-init c = λ p images origins.
    stands_first p c.new-swaps.result.items c.deref-a-items.result.now c.args.images.entries (get key_cmp c.args.origins)
    c.new-swaps.ensures.items (c.deref-a-items.ensures.value ∙ c.in_ok-names.ensures.names) c.in_ok-names.ensures.ordered images origins

pub loop-a-preserved : goal.loop-a-preserved
loop-a-preserved c = λ p images origins.
    let before = c.loop-a.invariant p images origins in
    let names = c.deref-a-items.result.now in
    let f = get key_cmp c.loop-a.images in
    let g = get key_cmp c.loop-a.origins in
    elim c.if-not-is_same.branch [
      | then-not-is_same+in_ok-swap_after+in_ok-push w ↦ rw (w.images-is, w.origins-is, w.swaps-is)
          (stands_further p c.loop-a.swaps.items names c.loop-a.a-index _ c.image_in-b.result f g c.loop-a-test.true c.image_in-b.ensures before
          w.push.new.self.items (get key_cmp w.swap_after.new.images) (get key_cmp w.swap_after.new.origins)
          (sym c.is_same.ensures ∙ w.if-not-is_same.true) w.in_ok-push.ensures.items w.in_ok-swap_after.ensures)
      | else-not-is_same w ↦ rw (w.images-is, w.origins-is, w.swaps-is)
          (stands_past p c.loop-a.swaps.items names c.loop-a.a-index _ c.image_in-b.result f g c.loop-a-test.true c.image_in-b.ensures before
          (sym c.is_same.ensures ∙ w.if-not-is_same.false))
    ]

pub returns : goal.returns
returns c = λ p images origins.
    stands_last p c.loop-a.swaps.items c.deref-a-items.result.now c.loop-a.a-index (get key_cmp c.loop-a.images) (get key_cmp c.loop-a.origins) c.loop-a-test.false
    (c.loop-a.invariant p images origins)
