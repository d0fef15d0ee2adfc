use Rattle.std.proofs.Common.{◌≡◌, ◌≤◌, rules, sym, ap, ◌∙◌, length, subst}
use Rattle.std.proofs.lemmas.Result.{IfOk-weaker}
use Rattle.ap_defs.specs.Limits.{size_limit}
use Rattle.ap_text_commands.specs.Generated.{generated}
use Rattle.ap_text_commands.proofs.LengthLemmas.{generated_length}
use Rattle.ap_report.proofs.Texts.{report_one}
use Rattle.ap_report.specs.TextReport.{IsTextReport}
use Rattle.ap_text_commands.specs.WorkReports.{summary_report, work_depth}
use Rattle.ap_text_commands.proofs.working.work.report_work.Goals as goal

pub report_of_text-requires : goal.report_of_text-requires
report_of_text-requires g c = (
  search rules,
  (
    search rules,
    subst (λ text. length text ≤ size_limit) (sym (c.deref.ensures.value ∙ c.in_ok-text.ensures)) (generated_length c.args.seed c.get.result c.get.ensures.bounds.1),
  ),
)

pub returns-clause-only : goal.returns-clause-only
returns-clause-only g c =
    let answer = summary_report work_depth in
    let text = generated c.args.seed c.args.size in
    let is_text : c.deref.result.now ≡ text = c.deref.ensures.value ∙ c.in_ok-text.ensures ∙ ap (generated c.args.seed) c.get.ensures.number in
    IfOk-weaker c.report_of_text.result _ _ (λ r is s h. report_one answer text r s (subst (λ t. IsTextReport answer t r) is_text is) h) c.report_of_text.ensures
