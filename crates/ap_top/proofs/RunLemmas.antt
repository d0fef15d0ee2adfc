-- The report of a run is that of the program of all commands.
use Rattle.std.proofs.Common.{◌≡◌, ◌↔◌, ℕ, List, Option, Some, None, sym, true, true≢false}
use Rattle.ap_report.specs.declared.report.Report.{Report}
use Rattle.ap_words.specs.declared.Asked.{Asked}
use Rattle.ap_words.specs.declared.Asked.TheVariants as asked
use Rattle.ap_words.specs.Words.{asked_of}
use Rattle.ap_run.specs.Inputs.{Input}
use Rattle.ap_run.specs.Runs.{IsRunReportFor, is_run, wanted_by}
use Rattle.ap_top.specs.Report.{IsReportOf}
use Rattle.ap_top.specs.Laws.{RunsAreTheSame}

same_for : (a : Option Asked) (input : Input) (r : Report) → is_run a ≡ true → IsReportOf a input r ↔ IsRunReportFor (wanted_by a) input r
same_for None input r is = absurd (true≢false (sym is))
same_for (Some (asked.Run depth workers limit)) input r is = (λ h. h, λ h. h)
same_for (Some (asked.Prove depth workers limit)) input r is = absurd (true≢false (sym is))
same_for (Some asked.Check) input r is = absurd (true≢false (sym is))
same_for (Some (asked.Convert to)) input r is = absurd (true≢false (sym is))
same_for (Some (asked.Count depth workers)) input r is = absurd (true≢false (sym is))
same_for (Some (asked.Cover depth workers)) input r is = absurd (true≢false (sym is))
same_for (Some (asked.Examine depth workers)) input r is = absurd (true≢false (sym is))
same_for (Some (asked.Work seed size workers)) input r is = absurd (true≢false (sym is))

pub runs_same : RunsAreTheSame
runs_same words input r is = same_for (asked_of words) input r is
