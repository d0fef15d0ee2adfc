use Rattle.std.proofs.Common.{◌∙◌, ap}
use Rattle.ap_types.specs.Growing.{list_in}
use Rattle.ap_types.proofs.growing.list_at.Goals as goal

pub returns : goal.returns
returns c = c.list_in.ensures ∙ ap list_in c.entry_or_hole-entry.ensures
