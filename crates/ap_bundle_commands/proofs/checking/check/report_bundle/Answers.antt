use Rattle.std.proofs.Common.{ℕ, List, map, ap, ◌∙◌, subst}
use Rattle.std.proofs.lemmas.Result.{IfOk-weaker}
use Rattle.ap_defs.specs.Goals.{program_of}
use Rattle.ap_shared.specs.declared.derivations.SharedProved.{SharedProved}
use Rattle.ap_shared.specs.SharedViews.{shared_proved}
use Rattle.ap_text.specs.Texts.{IsProgramOfText, IsRefusedText}
use Rattle.ap_report.proofs.Texts.{answered_report, refused_report, report_one}
use Rattle.ap_bundle_reports.specs.BundleReports.{check_report}
use Rattle.ap_bundle_commands.proofs.checking.check.report_bundle.Goals as goal

pub returns-in-Ok-clause-only : goal.returns-in-Ok-clause-only
returns-in-Ok-clause-only c =
    let text = c.args.bundle.now.text in
    let p = program_of c.in-Ok.program in
    let answer = check_report (map shared_proved c.args.bundle.now.proved) in
    let its = subst (λ (t : List ℕ). IsProgramOfText t p) c.items.ensures c.in-Ok.ensures.program in
    IfOk-weaker c.report_verdicts.result _ _
    (λ r is s h. report_one answer text r s (answered_report answer text p r its (is ∙ ap (λ (ds : List SharedProved). check_report (map shared_proved ds) p) c.items-in-Ok.ensures)) h)
    c.report_verdicts.ensures

pub returns-in-Err-Fault-clause-only : goal.returns-in-Err-Fault-clause-only
returns-in-Err-Fault-clause-only c =
    let text = c.args.bundle.now.text in
    let answer = check_report (map shared_proved c.args.bundle.now.proved) in
    let refused = subst (λ (t : List ℕ). IsRefusedText c.in-Err-Fault.field-0 t) c.items.ensures c.in-Err-Fault.ensures.fault in
    let first = subst (λ e. IsRefusedText e text) c.in-Err-Fault.field-0-is refused in
    IfOk-weaker c.fault_report.result _ _
    (λ r is s h. report_one answer text r s (refused_report answer text c.in-Err-Fault.fault r first is) h)
    (rw c.in-Err-Fault.fault-is at c.fault_report.ensures)
