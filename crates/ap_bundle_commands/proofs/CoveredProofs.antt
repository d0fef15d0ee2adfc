-- The ground proofs of a bundle are covered by what is found for them.
use Rattle.std.proofs.Common.{◌≡◌, ◌≤◌, ℕ, true, List, [], ◌∷◌, sym, ap, ◌∙◌}
use Rattle.std.specs.List.{AllByRecursion}
use Rattle.ap_defs.specs.Derivations.{height}
use Rattle.ap_defs.specs.Goals.{NominalProgram}
use Rattle.ap_bundle.specs.Bundles.{NominalProved}
use Rattle.ap_checks.specs.Checks.{Checks, on_query, verdict_on, yes}
use Rattle.ap_complete.specs.Restriction.{KeepsRestriction}
use Rattle.ap_complete.proofs.KeptLemmas.{kept_restriction}
use Rattle.ap_cover.specs.Covers.{IsCoveredProof}
use Rattle.ap_cover.specs.Ground.{is_ground}
use Rattle.ap_cover.proofs.CoverLemmas.{ground_covered}
use Rattle.ap_restrict.proofs.KeepingLemmas.{kept_typed}
use Rattle.ap_text.specs.Texts.{IsProgramOfText}
use Rattle.ap_typecheck.proofs.TypedPrograms.{program_typed}
use Rattle.ap_verdicts.specs.Verdicts.{verdict_on_proved}
use Rattle.ap_verdicts.proofs.SoundnessLemmas.{checked_sound}
use Rattle.ap_bundle_commands.specs.CoverReports.{HasCoveredProofs}

-- the program of a text keeps the name restriction
text_keeps : (text : List ℕ) (p : NominalProgram) → IsProgramOfText text p → KeepsRestriction p
text_keeps text p is = rw is.carried (kept_restriction is.raw (kept_typed is.raw (program_typed is.items is.raw is.typed) is.kept) is.kept)

one_covered : (p : NominalProgram) → KeepsRestriction p → (depth : ℕ) (d : NominalProved) → verdict_on_proved p d ≡ yes → is_ground d ≡ true → height d.derivation ≤ depth → IsCoveredProof p depth d
one_covered p keeps depth d says closed low =
    let sound = checked_sound p keeps.typed d says in
    let checks : Checks p sound.q d.answer d.derivation = sym (ap (λ o. on_query o (λ r. verdict_on p r d.answer d.derivation)) sound.asked) ∙ says in
    ground_covered p keeps depth d sound.q sound.asked checks closed low

each_covered : (p : NominalProgram) → KeepsRestriction p → (depth : ℕ) (ds : List NominalProved)
    → AllByRecursion (λ d. verdict_on_proved p d ≡ yes → is_ground d ≡ true → height d.derivation ≤ depth → IsCoveredProof p depth d) ds
each_covered p keeps depth [] = tt
each_covered p keeps depth (d ∷ ds) = (one_covered p keeps depth d, each_covered p keeps depth ds)

pub covered_proofs : (depth : ℕ) (bytes : List ℕ) → HasCoveredProofs depth bytes
covered_proofs depth bytes b p read is = each_covered p (text_keeps b.text p is) depth b.proved
