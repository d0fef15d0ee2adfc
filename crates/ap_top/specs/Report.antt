-- The report: what is written for the words and the input, and the status.
use Rattle.std.specs.Prelude.{◌≡◌, ℕ, Bool, true, false, List, Option, None, Some, codes}
use Rattle.ap_report.specs.declared.report.Report.{Report}
use Rattle.ap_report.specs.declared.status.Status.TheVariants as status
use Rattle.ap_report.specs.CompleteTexts.{IsCompleteText}
use Rattle.ap_report.specs.SoundAnswers.{IsSoundText}
use Rattle.ap_report.specs.TextReport.{IsTextReport, run_report}
use Rattle.ap_run.specs.Inputs.{Input, IsReportOn, Whole, line}
use Rattle.ap_text_commands.specs.ProveReports.{HasSoundProofs, IsProveReport}
use Rattle.ap_bundle_commands.specs.CheckReports.{HasSoundVerdicts, IsCheckReport}
use Rattle.ap_bundle_commands.specs.ConvertReports.{IsConvertReport}
use Rattle.ap_bundle_commands.specs.CoverReports.{HasCoveredProofs, IsCoverReport}
use Rattle.ap_examine.specs.Counterexamples.{HasSoundExams}
use Rattle.ap_examine.specs.Reports.{IsExamReport}
use Rattle.ap_text_commands.specs.CountReports.{IsCountReport}
use Rattle.ap_text_commands.specs.WorkReports.{IsWorkReport}
use Rattle.ap_words.specs.declared.Asked.{Asked}
use Rattle.ap_words.specs.declared.Asked.TheVariants as asked
use Rattle.ap_words.specs.Words.{asked_of}

-- whether the input is read: not where the words are refused, nor for `work`, which makes a text itself
abbrev pub is_reading : Option Asked → Bool
is_reading None = false
is_reading (Some (asked.Work seed size workers)) = false
is_reading (Some other) = true

-- the report of what is asked for, command by command
abbrev pub IsReportFor : Asked → Input → Report → Type 0
IsReportFor (asked.Run depth workers limit) input r = IsReportOn (IsTextReport (run_report depth limit)) input r
IsReportFor (asked.Prove depth workers limit) input r = IsReportOn (IsProveReport depth limit) input r
IsReportFor asked.Check input r = IsReportOn IsCheckReport input r
IsReportFor (asked.Convert to) input r = IsReportOn (IsConvertReport to) input r
IsReportFor (asked.Count depth workers) input r = IsReportOn (IsCountReport depth) input r
IsReportFor (asked.Cover depth workers) input r = IsReportOn (IsCoverReport depth) input r
IsReportFor (asked.Examine depth workers) input r = IsReportOn (IsExamReport depth) input r
IsReportFor (asked.Work seed size workers) input r = IsWorkReport seed size r

-- the same, or the refusal of words that ask for nothing
abbrev pub IsReportOf : Option Asked → Input → Report → Type 0
IsReportOf None input r = r ≡ line (codes "% usage fault\n") status.Usage
IsReportOf (Some a) input r = IsReportFor a input r

-- the report of the words and the input
abbrev pub IsReport : List (List ℕ) → Input → Report → Type 0
IsReport words input r = IsReportOf (asked_of words) input r

-- the answers in the report are sound
abbrev pub IsSoundFor : Option Asked → Input → Type 0
IsSoundFor (Some (asked.Run depth workers limit)) (Whole text) = IsSoundText depth limit text
IsSoundFor (Some (asked.Prove depth workers limit)) (Whole text) = IsSoundText depth limit text × HasSoundProofs depth limit text
IsSoundFor (Some asked.Check) (Whole bundle) = HasSoundVerdicts bundle
IsSoundFor (Some (asked.Cover depth workers)) (Whole bundle) = HasSoundVerdicts bundle
IsSoundFor (Some (asked.Examine depth workers)) (Whole text) = HasSoundExams depth text
IsSoundFor _ _ = Unit {0}

abbrev pub AreAnswersSound : List (List ℕ) → Input → Type 0
AreAnswersSound words input = IsSoundFor (asked_of words) input

-- and complete
abbrev pub IsCompleteFor : Option Asked → Input → Type 0
IsCompleteFor (Some (asked.Run depth workers limit)) (Whole text) = IsCompleteText depth limit text
IsCompleteFor (Some (asked.Prove depth workers limit)) (Whole text) = IsCompleteText depth limit text
IsCompleteFor (Some (asked.Cover depth workers)) (Whole bundle) = HasCoveredProofs depth bundle
IsCompleteFor _ _ = Unit {0}

abbrev pub AreAnswersComplete : List (List ℕ) → Input → Type 0
AreAnswersComplete words input = IsCompleteFor (asked_of words) input

-- The report of the words and the input: there is no other, and its answers are sound and complete.
pub record IsTheReport (words : List (List ℕ)) (input : Input) (r : Report) : Type 0 where
  pub is : IsReport words input r
  pub only : (s : Report) → IsReport words input s → s ≡ r
  pub sound : AreAnswersSound words input
  pub complete : AreAnswersComplete words input
