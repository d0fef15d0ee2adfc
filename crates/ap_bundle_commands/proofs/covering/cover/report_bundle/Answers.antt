use Rattle.std.proofs.Common.{ℕ, List, map, ap, ◌∙◌, subst}
use Rattle.std.proofs.lemmas.Result.{IfOk-weaker}
use Rattle.ap_defs.specs.Goals.{program_of}
use Rattle.ap_defs.specs.declared.outcomes.Proved.{Proved}
use Rattle.ap_bundle.specs.Bundles.{proved_of}
use Rattle.ap_text.specs.Texts.{IsProgramOfText, IsRefusedText}
use Rattle.ap_report.proofs.Texts.{answered_report, refused_report, report_one}
use Rattle.ap_bundle_reports.specs.BundleReports.{cover_report}
use Rattle.ap_bundle_commands.proofs.covering.cover.report_bundle.Goals as goal

pub returns-in-Ok-clause-only : goal.returns-in-Ok-clause-only
returns-in-Ok-clause-only g c =
    let text = c.args.bundle.now.text in
    let p = program_of c.in-Ok.program in
    let answer = cover_report c.args.depth (map proved_of c.args.bundle.now.proved) in
    let its = subst (λ (t : List ℕ). IsProgramOfText t p) c.items.ensures c.in-Ok.ensures.program in
    IfOk-weaker c.report_proofs.result _ _
    (λ r is s h. report_one answer text r s (answered_report answer text p r its (is ∙ ap (λ (ds : List Proved). cover_report c.args.depth (map proved_of ds) p) c.items-proved.ensures)) h)
    c.report_proofs.ensures

pub returns-in-Err-Fault-clause-only : goal.returns-in-Err-Fault-clause-only
returns-in-Err-Fault-clause-only g c =
    let text = c.args.bundle.now.text in
    let answer = cover_report c.args.depth (map proved_of c.args.bundle.now.proved) in
    let refused = subst (λ (t : List ℕ). IsRefusedText c.in-Err-Fault.field-0 t) c.items.ensures c.in-Err-Fault.ensures.fault in
    let first = subst (λ e. IsRefusedText e text) c.in-Err-Fault.field-0-is refused in
    IfOk-weaker c.fault_report.result _ _
    (λ r is s h. report_one answer text r s (refused_report answer text c.in-Err-Fault.fault r first is) h)
    (rw c.in-Err-Fault.fault-is at c.fault_report.ensures)
