use Rattle.std.proofs.Common.{subst}
use Rattle.std.proofs.lemmas.Result.{IfOk-weaker}
use Rattle.ap_defs.specs.Goals.{program_of}
use Rattle.ap_text.specs.Texts.{IsRefusedText}
use Rattle.ap_report.specs.TextReport.{run_report}
use Rattle.ap_report.proofs.Texts.{answered_report, refused_report, report_one}
use Rattle.ap_report.proofs.run.report_text.Goals as goal

pub returns-in-Ok-clause-only : goal.returns-in-Ok-clause-only
returns-in-Ok-clause-only g c =
    let answer = run_report c.args.depth c.args.limit in
    let text = c.args.text.now in
    IfOk-weaker c.report_restricted-report.result _ _
    (λ r is s h. report_one answer text r s (answered_report answer text (program_of c.in-Ok.program) r c.in-Ok.ensures.program is) h)
    c.report_restricted-report.ensures

pub returns-in-Err-Fault-clause-only : goal.returns-in-Err-Fault-clause-only
returns-in-Err-Fault-clause-only g c =
    let answer = run_report c.args.depth c.args.limit in
    let text = c.args.text.now in
    let first = subst (λ e. IsRefusedText e text) c.in-Err-Fault.field-0-is c.in-Err-Fault.ensures.fault in
    IfOk-weaker c.fault_report.result _ _
    (λ r is s h. report_one answer text r s (refused_report answer text c.in-Err-Fault.fault r first is) h)
    (rw c.in-Err-Fault.fault-is at c.fault_report.ensures)
