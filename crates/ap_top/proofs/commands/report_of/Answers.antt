use Rattle.std.proofs.Common.{sym, true≢false}
use Rattle.ap_run.specs.Inputs.{Over}
use Rattle.ap_run.proofs.PutLemmas.{both_known}
use Rattle.ap_top.proofs.commands.report_of.Goals as goal

-- no input is read, so that any will do
pub returns-in-Work-clause-made : goal.returns-in-Work-clause-made
returns-in-Work-clause-made g c =
    rw c.in-Work.is (both_known _ _ _ c.report_work.result (λ r made only. (Over, (λ reading. absurd (true≢false (sym reading))), (made, only))) c.report_work.ensures.made c.report_work.ensures.only)
