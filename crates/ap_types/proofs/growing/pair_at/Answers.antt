use Rattle.std.proofs.Common.{◌∙◌, ap}
use Rattle.ap_types.specs.Growing.{pair_in}
use Rattle.ap_types.proofs.growing.pair_at.Goals as goal

pub returns : goal.returns
returns c = c.pair_in.ensures ∙ ap pair_in c.entry_or_hole-entry.ensures
