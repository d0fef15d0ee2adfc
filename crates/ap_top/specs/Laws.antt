-- The two programs write the same of a run.
use Rattle.std.specs.Prelude.{◌≡◌, ◌↔◌, ℕ, List, true}
use Rattle.ap_report.specs.declared.report.Report.{Report}
use Rattle.ap_words.specs.Words.{asked_of}
use Rattle.ap_run.specs.Inputs.{Input}
use Rattle.ap_run.specs.Runs.{IsRunReportFor, is_run, wanted_in}
use Rattle.ap_top.specs.Report.{IsReport}

abbrev pub RunsAreTheSame : Type 0
RunsAreTheSame =
    (words : List (List ℕ)) (input : Input) (r : Report) → is_run (asked_of words) ≡ true
    → IsReport words input r ↔ IsRunReportFor (wanted_in words) input r
