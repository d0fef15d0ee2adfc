use Rattle.std.proofs.Common.{◌∙◌}
use Rattle.ap_types.proofs.RuleLemmas.{marked_set_same, marked_set_other}
use Rattle.ap_types.proofs.least.mark.Goals as goal

pub returns-clause-here : goal.returns-clause-here
returns-clause-here c = marked_set_same c.room_to_mark.new.table.items c.args.base c.in_ok-room_to_mark.ensures.room

pub returns-clause-others : goal.returns-clause-others
returns-clause-others c d n = marked_set_other c.room_to_mark.new.table.items c.args.base d n ∙ c.in_ok-room_to_mark.ensures.same d
