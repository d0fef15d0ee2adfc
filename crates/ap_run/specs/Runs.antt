-- The report of a run that the words ask for.
use Rattle.std.specs.Prelude.{◌≡◌, ℕ, Bool, is_some, List, Option, None, Some, codes}
use Rattle.ap_report.specs.declared.report.Report.{Report}
use Rattle.ap_report.specs.declared.status.Status.TheVariants as status
use Rattle.ap_report.specs.CompleteTexts.{IsCompleteText}
use Rattle.ap_report.specs.SoundAnswers.{IsSoundText}
use Rattle.ap_report.specs.TextReport.{IsTextReport, run_report}
use Rattle.ap_words.specs.declared.Asked.{Asked}
use Rattle.ap_words.specs.declared.Asked.TheVariants as asked
use Rattle.ap_words.specs.Words.{asked_of}
use Rattle.ap_paths.specs.declared.limits.Limit.{Limit}
use Rattle.ap_run.specs.Inputs.{Input, IsReportOn, Whole, line}

-- What is wanted of a run: the depth to which queries are searched, and how many answers of each.
pub record Wanted : Type 0 where
  pub depth : ℕ
  pub limit : Limit

-- what is wanted, where the words ask for a run
abbrev pub wanted_by : Option Asked → Option Wanted
wanted_by (Some (asked.Run depth workers limit)) = Some (record { depth = depth; limit = limit })
wanted_by _ = None

abbrev pub is_run : Option Asked → Bool
is_run asked = is_some (wanted_by asked)

-- the report of the run, or the refusal of words that ask for none
abbrev pub IsRunReportFor : Option Wanted → Input → Report → Type 0
IsRunReportFor None input r = r ≡ line (codes "% usage fault\n") status.Usage
IsRunReportFor (Some w) input r = IsReportOn (IsTextReport (run_report w.depth w.limit)) input r

-- the answers in the report are sound
abbrev pub IsSoundRun : Option Wanted → Input → Type 0
IsSoundRun (Some w) (Whole text) = IsSoundText w.depth w.limit text
IsSoundRun _ _ = Unit {0}

-- and complete
abbrev pub IsCompleteRun : Option Wanted → Input → Type 0
IsCompleteRun (Some w) (Whole text) = IsCompleteText w.depth w.limit text
IsCompleteRun _ _ = Unit {0}

abbrev pub wanted_in : List (List ℕ) → Option Wanted
wanted_in words = wanted_by (asked_of words)

-- The report of the run that the words ask for: there is no other, and its answers are sound and complete.
pub record IsTheRunReport (words : List (List ℕ)) (input : Input) (r : Report) : Type 0 where
  pub is : IsRunReportFor (wanted_in words) input r
  pub only : (s : Report) → IsRunReportFor (wanted_in words) input s → s ≡ r
  pub sound : IsSoundRun (wanted_in words) input
  pub complete : IsCompleteRun (wanted_in words) input
