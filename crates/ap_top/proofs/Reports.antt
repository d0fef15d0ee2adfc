-- A report never has one of the two statuses that tell how it came to the sink.
use Rattle.std.proofs.Common.{◌≡◌, sym, subst, ℕ, List, length, Option, Some, None, Result, Ok, Err}
use Rattle.ap_defs.specs.Goals.{NominalProgram}
use Rattle.ap_report.specs.declared.report.Report.{Report}
use Rattle.ap_report.specs.TextReport.{run_report}
use Rattle.ap_bundle.specs.Bundles.{NominalBundle, NominalProved}
use Rattle.ap_bundle.specs.Reading.{cited_reading, reading}
use Rattle.ap_bundle.specs.declared.faults.BundleFault.{BundleFault}
use Rattle.ap_verdicts.specs.Verdicts.{RefusedProof, first_refused}
use Rattle.ap_text_commands.specs.ProveReports.{prove_report}
use Rattle.ap_bundle_reports.specs.BundleReports.{check_report, cover_report, covers_report, proofs_report, verdicts_report}
use Rattle.ap_bundle_commands.specs.CheckReports.{IsReadReport}
use Rattle.ap_bundle.specs.declared.version.Version.{Version}
use Rattle.ap_bundle_commands.specs.ConvertReports.{convert_report}
use Rattle.ap_bundle_commands.specs.CoverReports as cover
use Rattle.ap_covering.specs.Uncovered.{first_uncovered}
use Rattle.ap_text_commands.specs.Generated.{generated}
use Rattle.ap_examine.specs.Reports.{exam_report, exams_from, first_other, other_or}
use Rattle.ap_text_commands.specs.CountReports.{count_report}
use Rattle.ap_text_commands.specs.WorkReports.{summary_report, work_depth}
use Rattle.ap_words.specs.declared.Asked.{Asked}
use Rattle.ap_words.specs.declared.Asked.TheVariants as asked
use Rattle.ap_run.specs.Inputs.{Input, Whole, Over, Broken}
use Rattle.ap_run.proofs.PutLemmas.{IsTold, told_text}
use Rattle.ap_top.specs.Report.{IsReportOf}

told_verdicts : (count : ℕ) (o : Option RefusedProof) → IsTold (verdicts_report count o).status
told_verdicts count None = tt
told_verdicts count (Some r) = tt

told_read : (read : Result NominalBundle BundleFault) (r : Report) → IsReadReport read r → IsTold r.status
told_read (Ok b) r is = told_text (check_report b.proved) (λ p. told_verdicts (length b.proved) (first_refused p 1 b.proved)) b.text r is
told_read (Err f) r is = subst (λ x. IsTold x.status) (sym is) tt

told_covers : (depth : ℕ) (ds : List NominalProved) (p : NominalProgram) → IsTold (covers_report depth ds p (first_uncovered depth 1 ds)).status
told_covers depth ds p = elim (first_uncovered depth 1 ds) as (λ o. IsTold (covers_report depth ds p o).status) [ None ↦ tt | Some u ↦ tt ]

told_proofs : (depth : ℕ) (ds : List NominalProved) (p : NominalProgram) (o : Option RefusedProof) → IsTold (proofs_report depth ds p o).status
told_proofs depth ds p None = told_covers depth ds p
told_proofs depth ds p (Some r) = tt

told_covered : (depth : ℕ) (read : Result NominalBundle BundleFault) (r : Report) → cover.IsReadCoverReport depth read r → IsTold r.status
told_covered depth (Ok b) r is = told_text (cover_report depth b.proved) (λ p. told_proofs depth b.proved p (first_refused p 1 b.proved)) b.text r is
told_covered depth (Err f) r is = subst (λ x. IsTold x.status) (sym is) tt

told_converted : (to : Version) (read : Result NominalBundle BundleFault) → IsTold (convert_report to read).status
told_converted to (Ok b) = tt
told_converted to (Err f) = tt

told_exams : (o : Option ℕ) (bytes : List ℕ) → IsTold (other_or o bytes).status
told_exams None bytes = tt
told_exams (Some k) bytes = tt

pub told_report : (a : Option Asked) (input : Input) (r : Report) → IsReportOf a input r → IsTold r.status
told_report None input r is = subst (λ x. IsTold x.status) (sym is) tt
told_report (Some (asked.Run depth workers limit)) (Whole text) r is = told_text (run_report depth limit) (λ p. tt) text r is
told_report (Some (asked.Run depth workers limit)) Over r is = subst (λ x. IsTold x.status) (sym is) tt
told_report (Some (asked.Run depth workers limit)) Broken r is = subst (λ x. IsTold x.status) (sym is) tt
told_report (Some (asked.Prove depth workers limit)) (Whole text) r is = told_text (prove_report depth limit text) (λ p. tt) text r is
told_report (Some (asked.Prove depth workers limit)) Over r is = subst (λ x. IsTold x.status) (sym is) tt
told_report (Some (asked.Prove depth workers limit)) Broken r is = subst (λ x. IsTold x.status) (sym is) tt
told_report (Some asked.Check) (Whole bundle) r is = told_read (cited_reading bundle) r is
told_report (Some asked.Check) Over r is = subst (λ x. IsTold x.status) (sym is) tt
told_report (Some asked.Check) Broken r is = subst (λ x. IsTold x.status) (sym is) tt
told_report (Some (asked.Convert to)) (Whole bundle) r is = subst (λ x. IsTold x.status) (sym is) (told_converted to (reading bundle))
told_report (Some (asked.Convert to)) Over r is = subst (λ x. IsTold x.status) (sym is) tt
told_report (Some (asked.Convert to)) Broken r is = subst (λ x. IsTold x.status) (sym is) tt
told_report (Some (asked.Count depth workers)) (Whole text) r is = told_text (count_report depth) (λ p. tt) text r is
told_report (Some (asked.Count depth workers)) Over r is = subst (λ x. IsTold x.status) (sym is) tt
told_report (Some (asked.Count depth workers)) Broken r is = subst (λ x. IsTold x.status) (sym is) tt
told_report (Some (asked.Cover depth workers)) (Whole bundle) r is = told_covered depth (reading bundle) r is
told_report (Some (asked.Cover depth workers)) Over r is = subst (λ x. IsTold x.status) (sym is) tt
told_report (Some (asked.Cover depth workers)) Broken r is = subst (λ x. IsTold x.status) (sym is) tt
told_report (Some (asked.Examine depth workers)) (Whole text) r is = told_text (exam_report depth) (λ p. told_exams (first_other 1 p.queries) (exams_from p depth 1 p.queries)) text r is
told_report (Some (asked.Examine depth workers)) Over r is = subst (λ x. IsTold x.status) (sym is) tt
told_report (Some (asked.Examine depth workers)) Broken r is = subst (λ x. IsTold x.status) (sym is) tt
told_report (Some (asked.Work seed size workers)) input r is = told_text (summary_report work_depth) (λ p. tt) (generated seed size) r is
