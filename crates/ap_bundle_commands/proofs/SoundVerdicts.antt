-- What each derivation of a bundle proves that checks is derivable.
use Rattle.std.proofs.Common.{◌≡◌, ℕ, List, [], ◌∷◌}
use Rattle.std.specs.List.{AllByRecursion}
use Rattle.ap_defs.specs.Goals.{NominalProgram}
use Rattle.ap_program.specs.Typed.{IsTypedProgram}
use Rattle.ap_bundle.specs.Bundles.{NominalProved}
use Rattle.ap_checks.specs.Checks.{yes}
use Rattle.ap_report.proofs.SoundTexts.{text_typed}
use Rattle.ap_verdicts.specs.Soundness.{IsSoundProof}
use Rattle.ap_verdicts.specs.Verdicts.{verdict_on_proved}
use Rattle.ap_verdicts.proofs.SoundnessLemmas.{checked_sound}
use Rattle.ap_bundle_commands.specs.CheckReports.{HasSoundVerdicts}

each_sound : (p : NominalProgram) → IsTypedProgram p → (ds : List NominalProved) → AllByRecursion (λ d. verdict_on_proved p d ≡ yes → IsSoundProof p d) ds
each_sound p typed [] = tt
each_sound p typed (d ∷ ds) = (checked_sound p typed d, each_sound p typed ds)

pub sound_verdicts : (bytes : List ℕ) → HasSoundVerdicts bytes
sound_verdicts bytes b p read is =
    let typed = text_typed b.text p is in
    each_sound p typed b.proved
