use Rattle.std.proofs.Common.{min, ap₂, ◌∙◌}
use Rattle.std.specs.Prelude.{◌==◌}
use lib.Lanes.{chunk}
use Rattle.ap_index.proofs.LaneLemmas.{either_first}
use Rattle.ap_index.proofs.blocks.skipped_in_block.Goals as goal

pub returns : goal.returns
returns c =
    c.min.ensures ∙ ap₂ min c.before_key.ensures c.before_key-2.ensures
    ∙ either_first (λ k. k == c.args.key) (λ k. k == 0) (chunk c.args.at 16 c.args.keys.now)
