use Rattle.std.proofs.Common.{◌∙◌}
use Rattle.ap_backchain.proofs.CutLemmas.{cut_within, cut_waiting, cut_position}
use Rattle.ap_backchain.proofs.letting_go.let_go_cells.Goals as goal

pub go_back-requires-clause-within : goal.go_back-requires-clause-within
go_back-requires-clause-within c = cut_within c.save-save.result c.args.machine.now c.save-save.ensures.within c.save-save.ensures.track c.save-save.ensures.position

pub go_back-requires-clause-waiting : goal.go_back-requires-clause-waiting
go_back-requires-clause-waiting c = cut_waiting c.save-save.result c.args.machine.now c.save-save.ensures.within c.save-save.ensures.track c.save-save.ensures.position

pub returns-then-save-ge-MANY_CELLS : goal.returns-then-save-ge-MANY_CELLS
returns-then-save-ge-MANY_CELLS c = c.go_back.ensures.position ∙ cut_position c.save-save.result c.args.machine.now c.save-save.ensures.within c.save-save.ensures.track c.save-save.ensures.position
