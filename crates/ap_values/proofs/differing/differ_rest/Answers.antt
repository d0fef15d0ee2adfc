use Rattle.std.proofs.Common.{◌∙◌, sym, arith}
use Rattle.std.proofs.lemmas.List.{length-set}
use Rattle.ap_values.proofs.DifferingLemmas.{mark_apart, mark_same, place_stored}
use Rattle.ap_values.proofs.differing.differ_rest.Goals as goal
use Rattle.ap_values.proofs.differing.differ_rest.Goals.{then-left-i, else-left-i}

pub filling-preserved : goal.filling-preserved
filling-preserved c =
    let before = c.filling.invariant in
    let stored = place_stored c.args.left.now c.args.right.now c.requires.right c.filling.out c.filling.i c.if-left-i.out in (
      length-set c.filling.out c.filling.i _ ∙ before.0,
      elim c.if-left-i.branch [
        | then-left-i w ↦ stored _ _ (omega arith) before.0 before.1 (mark_same _ _ w.if-left-i.true ∙ sym w.out-is)
        | else-left-i w ↦ stored _ _ (omega arith) before.0 before.1 (mark_apart _ _ w.if-left-i.false ∙ sym w.out-is)
      ],
    )
