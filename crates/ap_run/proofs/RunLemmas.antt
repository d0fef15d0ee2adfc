-- The answers of a run are sound and complete, and its report has the status of a report.
use Rattle.std.proofs.Common.{ℕ, sym, subst, List, Option, Some, None}
use Rattle.ap_report.proofs.CompleteTexts.{complete_text}
use Rattle.ap_report.proofs.SoundTexts.{sound_text}
use Rattle.ap_report.specs.declared.report.Report.{Report}
use Rattle.ap_report.specs.TextReport.{run_report}
use Rattle.ap_run.specs.Inputs.{Broken, Input, Over, Whole}
use Rattle.ap_run.specs.Runs.{IsCompleteRun, IsRunReportFor, IsSoundRun, Wanted, wanted_in}
use Rattle.ap_run.proofs.PutLemmas.{IsTold, told_text}

sound_for : (w : Option Wanted) (input : Input) → IsSoundRun w input
sound_for None input = tt
sound_for (Some w) (Whole text) = sound_text w.depth w.limit text
sound_for (Some w) Over = tt
sound_for (Some w) Broken = tt

pub sound_run : (words : List (List ℕ)) (input : Input) → IsSoundRun (wanted_in words) input
sound_run words input = sound_for (wanted_in words) input

complete_for : (w : Option Wanted) (input : Input) → IsCompleteRun w input
complete_for None input = tt
complete_for (Some w) (Whole text) = complete_text w.depth w.limit text
complete_for (Some w) Over = tt
complete_for (Some w) Broken = tt

pub complete_run : (words : List (List ℕ)) (input : Input) → IsCompleteRun (wanted_in words) input
complete_run words input = complete_for (wanted_in words) input

pub told_run : (w : Option Wanted) (input : Input) (r : Report) → IsRunReportFor w input r → IsTold r.status
told_run None input r is = subst (λ x. IsTold x.status) (sym is) tt
told_run (Some w) (Whole text) r is = told_text (run_report w.depth w.limit) (λ p. tt) text r is
told_run (Some w) Over r is = subst (λ x. IsTold x.status) (sym is) tt
told_run (Some w) Broken r is = subst (λ x. IsTold x.status) (sym is) tt
