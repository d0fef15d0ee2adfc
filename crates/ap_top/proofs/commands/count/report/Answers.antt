use Rattle.ap_run.specs.Inputs.{Whole}
use Rattle.ap_run.proofs.PutLemmas.{both_known}
use Rattle.ap_top.proofs.commands.count.report.Goals as goal

pub returns-in-Ok : goal.returns-in-Ok
returns-in-Ok g c = both_known _ _ _ c.count_text.result (λ r made only. (Whole c.in-Ok.text.items, c.in-Ok.ensures.whole, (rw c.deref.ensures.value at made, rw c.deref.ensures.value at only))) c.count_text.ensures.made c.count_text.ensures.only
