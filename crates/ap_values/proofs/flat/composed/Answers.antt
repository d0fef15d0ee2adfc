use Rattle.std.proofs.Common.{ap, sym, ◌∙◌}
use Rattle.ap_defs.specs.Permutations.{act_name}
use Rattle.ap_values.proofs.UnionLemmas.{composed_further, composed_past}
use Rattle.ap_values.proofs.flat.composed.Goals as goal
use Rattle.ap_values.proofs.flat.composed.Goals.{then-not-is_same+in_ok-push, else-not-is_same}

pub loop-a-preserved : goal.loop-a-preserved
loop-a-preserved c = λ p q first after.
    let image = c.image_of-b.ensures q after ∙ ap (act_name q) (c.image_of.ensures p first) in
    elim c.if-not-is_same.branch [
      | then-not-is_same+in_ok-push w ↦ rw (w.moved-is)
          (composed_further p q c.args.names.now c.loop-a.a-index _ c.image_of-b.result c.loop-a.moved.items c.loop-a-test.true image (c.loop-a.invariant p q first after)
          w.push.new.self.items (sym c.is_same.ensures ∙ w.if-not-is_same.true) w.in_ok-push.ensures.ok)
      | else-not-is_same w ↦ rw (w.moved-is)
          (composed_past p q c.args.names.now c.loop-a.a-index _ c.image_of-b.result c.loop-a.moved.items c.loop-a-test.true image (c.loop-a.invariant p q first after)
          (sym c.is_same.ensures ∙ w.if-not-is_same.false))
    ]
