-- The answers in the report on any input are complete.
use Rattle.std.proofs.Common.{ℕ, List, Option, Some, None}
use Rattle.ap_report.proofs.CompleteTexts.{complete_text}
use Rattle.ap_bundle_commands.proofs.CoveredProofs.{covered_proofs}
use Rattle.ap_run.specs.Inputs.{Broken, Input, Over, Whole}
use Rattle.ap_top.specs.Report.{AreAnswersComplete, IsCompleteFor}
use Rattle.ap_words.specs.declared.Asked.{Asked}
use Rattle.ap_words.specs.declared.Asked.TheVariants as asked
use Rattle.ap_words.specs.Words.{asked_of}

complete_for : (a : Option Asked) (input : Input) → IsCompleteFor a input
complete_for None input = tt
complete_for (Some (asked.Run depth workers limit)) (Whole text) = complete_text depth limit text
complete_for (Some (asked.Run depth workers limit)) Over = tt
complete_for (Some (asked.Run depth workers limit)) Broken = tt
complete_for (Some (asked.Prove depth workers limit)) (Whole text) = complete_text depth limit text
complete_for (Some (asked.Prove depth workers limit)) Over = tt
complete_for (Some (asked.Prove depth workers limit)) Broken = tt
complete_for (Some asked.Check) input = tt
complete_for (Some (asked.Convert to)) input = tt
complete_for (Some (asked.Count depth workers)) input = tt
complete_for (Some (asked.Cover depth workers)) (Whole bundle) = covered_proofs depth bundle
complete_for (Some (asked.Cover depth workers)) Over = tt
complete_for (Some (asked.Cover depth workers)) Broken = tt
complete_for (Some (asked.Examine depth workers)) input = tt
complete_for (Some (asked.Work seed size workers)) input = tt

pub complete_input : (words : List (List ℕ)) (input : Input) → AreAnswersComplete words input
complete_input words input = complete_for (asked_of words) input
