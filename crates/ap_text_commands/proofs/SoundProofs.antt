-- Each derivation that is written for a text checks, and is sound.
use Rattle.std.proofs.Common.{◌≡◌, ℕ, List, [], ◌∷◌}
use Rattle.std.specs.List.{AllByRecursion}
use Rattle.ap_defs.specs.Goals.{NominalProgram}
use Rattle.ap_paths.specs.declared.limits.Limit.{Limit}
use Rattle.ap_program.specs.Typed.{IsTypedProgram}
use Rattle.ap_bundle.specs.Bundles.{NominalProved}
use Rattle.ap_checks.specs.Checks.{yes}
use Rattle.ap_report.proofs.SoundTexts.{text_typed}
use Rattle.ap_verdicts.specs.Proofs.{limited_proofs}
use Rattle.ap_verdicts.specs.Soundness.{IsSoundProof}
use Rattle.ap_verdicts.specs.Verdicts.{verdict_on_proved}
use Rattle.ap_verdicts.proofs.LimitedLemmas.{limited_check}
use Rattle.ap_verdicts.proofs.SoundnessLemmas.{checked_sound}
use Rattle.ap_text_commands.specs.ProveReports.{HasSoundProofs}

both : (p : NominalProgram) → IsTypedProgram p → (ds : List NominalProved) → AllByRecursion (λ d. verdict_on_proved p d ≡ yes) ds
    → AllByRecursion (λ d. (verdict_on_proved p d ≡ yes) × IsSoundProof p d) ds
both p typed [] h = tt
both p typed (d ∷ ds) h = ((h.0, checked_sound p typed d h.0), both p typed ds h.1)

pub sound_proofs : (depth : ℕ) (limit : Limit) (text : List ℕ) → HasSoundProofs depth limit text
sound_proofs depth limit text p is =
    let typed = text_typed text p is in
    both p typed (limited_proofs depth limit p) (limited_check p typed depth limit)
