use Rattle.std.proofs.Common.{ℕ, ◌+◌, length, take, ap, ◌∙◌, arith}
use Rattle.std.specs.Prelude.{List, if◌then◌else◌}
use Rattle.std.proofs.lemmas.Simd.{length-put_chunk}
use Rattle.ap_index.specs.Matching.{key_agrees}
use Rattle.ap_index.proofs.LaneLemmas.{block_stored}
use Rattle.ap_index.proofs.matching.match_blocks.Goals as goal

pub blocks-2-preserved : goal.blocks-2-preserved
blocks-2-preserved c =
    let before = c.blocks-2.invariant in
    let keys = c.args.keys.now in (
      omega arith,
      ap (λ (ys : List ℕ). length ys) c.match_block.ensures ∙ length-put_chunk c.blocks-2.at c.blocks-2.out _ ∙ before.1,
      ap (λ (ys : List ℕ). take (c.blocks-2.at + 16) ys) c.match_block.ensures
          ∙ block_stored (λ k. if key_agrees c.args.key k then 1 else 0) keys c.blocks-2.out c.blocks-2.at 16 (omega arith) before.1 before.2,
    )
