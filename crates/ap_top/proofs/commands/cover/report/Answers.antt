use Rattle.ap_run.specs.Inputs.{Whole}
use Rattle.ap_run.proofs.PutLemmas.{both_known}
use Rattle.ap_top.proofs.commands.cover.report.Goals as goal

pub returns-in-Ok : goal.returns-in-Ok
returns-in-Ok g c = both_known _ _ _ c.cover_bytes.result (λ r made only. (Whole c.in-Ok.bytes.items, c.in-Ok.ensures.whole, (rw c.deref.ensures.value at made, rw c.deref.ensures.value at only))) c.cover_bytes.ensures.made c.cover_bytes.ensures.only
