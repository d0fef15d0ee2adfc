use Rattle.std.proofs.Common.{ℕ, ◌+◌, length, take, ap, ◌∙◌, arith}
use Rattle.std.specs.Prelude.{List}
use Rattle.std.proofs.lemmas.Simd.{length-put_chunk}
use Rattle.ap_values.proofs.DifferingLemmas.{places_stored}
use Rattle.ap_values.proofs.differing.differ_blocks.Goals as goal

pub blocks-2-preserved : goal.blocks-2-preserved
blocks-2-preserved c =
    let before = c.blocks-2.invariant in
    let at = c.blocks-2.at in (
      omega arith,
      ap (λ (ys : List ℕ). length ys) c.differ_block.ensures ∙ length-put_chunk at c.blocks-2.out _ ∙ before.1,
      ap (λ (ys : List ℕ). take (at + 8) ys) c.differ_block.ensures
          ∙ places_stored c.args.left.now c.args.right.now c.requires.right c.blocks-2.out at 8 (omega arith) before.1 before.2,
    )
