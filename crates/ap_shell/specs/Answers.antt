-- What is answered for a query, or for a command about it: a report on the loaded text with that query alone.
use Rattle.std.specs.Prelude.{◌≡◌, ◌<◌, ◌≤◌, ℕ, List, length, codes}
use Rattle.ap_text_commands.specs.ProveReports.{IsProveReport}
use Rattle.ap_defs.specs.Limits.{size_limit}
use Rattle.ap_examine.specs.Reports.{IsExamReport}
use Rattle.ap_inputs.specs.Questions.{text_with}
use Rattle.ap_paths.specs.declared.limits.Limit.TheVariants as limits
use Rattle.ap_report.specs.declared.report.Report.{Report}
use Rattle.ap_report.specs.declared.status.Status.TheVariants as status
use Rattle.ap_report.specs.TextReport.{IsTextReport, run_report}
use Rattle.ap_shell.specs.declared.session.Settings.{Settings}
use Rattle.ap_text_commands.specs.CountReports.{IsCountReport}

-- what is written for a text that is too large
abbrev pub too_large : Report
too_large = record { bytes = codes "% text too large\n"; status = status.TooLarge }

-- The report on a text, of a command with this report on the texts that may be read.
pub record IsReportWithin (IsReport : List ℕ → Report → Type 0) (text : List ℕ) (r : Report) : Type 0 where
  pub fits : length text ≤ size_limit → IsReport text r
  pub large : size_limit < length text → r ≡ too_large

-- the report of a run of a text, with these settings
abbrev pub IsRunReport : Settings → List ℕ → Report → Type 0
IsRunReport s text r = IsReportWithin (IsTextReport (run_report s.depth (limits.First s.answers))) text r

-- what is answered for a query: the report of a run of the loaded text with that query alone
abbrev pub IsAnswer : Settings → List ℕ → List ℕ → Report → Type 0
IsAnswer s loaded query r = IsRunReport s (text_with loaded query) r

-- its answers with their derivations, as a bundle of that text
abbrev pub IsProved : Settings → List ℕ → List ℕ → Report → Type 0
IsProved s loaded query r = IsReportWithin (IsProveReport s.depth (limits.First s.answers)) (text_with loaded query) r

-- how often each clause is used in the derivations of all its answers
abbrev pub IsCounted : Settings → List ℕ → List ℕ → Report → Type 0
IsCounted s loaded query r = IsReportWithin (IsCountReport s.depth) (text_with loaded query) r

-- the counterexample to it as a property, or the totals of the search for one
abbrev pub IsExamined : Settings → List ℕ → List ℕ → Report → Type 0
IsExamined s loaded query r = IsReportWithin (IsExamReport s.depth) (text_with loaded query) r
