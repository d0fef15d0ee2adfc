use Rattle.std.proofs.Common.{not, arith}
use Rattle.ap_index.specs.Matching.{key_agrees}
use Rattle.ap_index.proofs.LaneLemmas.{block_ends, block_goes_on}
use Rattle.ap_index.proofs.matching.next_match.Goals as goal

pub returns-then-skipped-lt-LANES : goal.returns-then-skipped-lt-LANES
returns-then-skipped-lt-LANES c =
    block_ends (λ k. not (key_agrees c.args.key k)) c.args.keys.now c.blocks-2.at 16 c.skipped_in_block-skipped.result _ (omega arith)
    c.skipped_in_block-skipped.ensures c.blocks-2.invariant.1 c.if-skipped-lt-LANES.true

pub blocks-2-preserved : goal.blocks-2-preserved
blocks-2-preserved c =
    block_goes_on (λ k. not (key_agrees c.args.key k)) c.args.keys.now c.blocks-2.at 16 c.skipped_in_block-skipped.result _ (omega arith)
    c.skipped_in_block-skipped.ensures c.blocks-2.invariant.1 c.if-skipped-lt-LANES.false
