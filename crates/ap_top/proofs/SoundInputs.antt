-- The answers in the report on any input are sound.
use Rattle.std.proofs.Common.{ℕ, List, Option, Some, None}
use Rattle.ap_report.proofs.SoundTexts.{sound_text}
use Rattle.ap_text_commands.proofs.SoundProofs.{sound_proofs}
use Rattle.ap_bundle_commands.proofs.SoundVerdicts.{sound_verdicts}
use Rattle.ap_examine.proofs.RefutingLemmas.{text_sound}
use Rattle.ap_run.specs.Inputs.{Broken, Input, Over, Whole}
use Rattle.ap_top.specs.Report.{AreAnswersSound, IsSoundFor}
use Rattle.ap_words.specs.declared.Asked.{Asked}
use Rattle.ap_words.specs.declared.Asked.TheVariants as asked
use Rattle.ap_words.specs.Words.{asked_of}

sound_for : (a : Option Asked) (input : Input) → IsSoundFor a input
sound_for None input = tt
sound_for (Some (asked.Run depth workers limit)) (Whole text) = sound_text depth limit text
sound_for (Some (asked.Run depth workers limit)) Over = tt
sound_for (Some (asked.Run depth workers limit)) Broken = tt
sound_for (Some (asked.Prove depth workers limit)) (Whole text) = (sound_text depth limit text, sound_proofs depth limit text)
sound_for (Some (asked.Prove depth workers limit)) Over = tt
sound_for (Some (asked.Prove depth workers limit)) Broken = tt
sound_for (Some asked.Check) (Whole bundle) = sound_verdicts bundle
sound_for (Some asked.Check) Over = tt
sound_for (Some asked.Check) Broken = tt
sound_for (Some (asked.Convert to)) input = tt
sound_for (Some (asked.Count depth workers)) input = tt
sound_for (Some (asked.Cover depth workers)) (Whole bundle) = sound_verdicts bundle
sound_for (Some (asked.Cover depth workers)) Over = tt
sound_for (Some (asked.Cover depth workers)) Broken = tt
sound_for (Some (asked.Examine depth workers)) (Whole text) = text_sound depth text
sound_for (Some (asked.Examine depth workers)) Over = tt
sound_for (Some (asked.Examine depth workers)) Broken = tt
sound_for (Some (asked.Work seed size workers)) input = tt

pub sound_input : (words : List (List ℕ)) (input : Input) → AreAnswersSound words input
sound_input words input = sound_for (asked_of words) input
