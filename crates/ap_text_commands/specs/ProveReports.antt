-- What is written to prove the answers of a text's queries: the line of the text's first fault, or the bundle of the text and of its
-- answers with their derivations, up to the last that is wanted of each query.
use Rattle.std.specs.Prelude.{◌≡◌, ℕ, List}
use Rattle.std.specs.List.{AllByRecursion}
use Rattle.ap_defs.specs.Goals.{NominalProgram}
use Rattle.ap_bundle.specs.Written.{written_as}
use Rattle.ap_bundle.specs.declared.version.Version.TheVariants.{Two}
use Rattle.ap_checks.specs.Checks.{yes}
use Rattle.ap_paths.specs.declared.limits.Limit.{Limit}
use Rattle.ap_report.specs.declared.report.Report.{Report}
use Rattle.ap_report.specs.declared.status.Status.TheVariants as status
use Rattle.ap_report.specs.TextReport.{IsTextReport}
use Rattle.ap_text.specs.Texts.{IsProgramOfText}
use Rattle.ap_verdicts.specs.Proofs.{limited_bundle, limited_proofs}
use Rattle.ap_verdicts.specs.Soundness.{IsSoundProof}
use Rattle.ap_verdicts.specs.Verdicts.{verdict_on_proved}

-- the bundle, of version 2, of a text and of the answers of its program to a depth that are wanted, with their derivations
abbrev pub prove_report : ℕ → Limit → List ℕ → NominalProgram → Report
prove_report depth limit text p = record { bytes = written_as Two (limited_bundle depth limit text p); status = status.Ok }

-- the report of `prove` on a text
abbrev pub IsProveReport : ℕ → Limit → List ℕ → Report → Type 0
IsProveReport depth limit text = IsTextReport (prove_report depth limit text) text

-- each derivation that is written checks, and what it proves is derivable in nominal logic
abbrev pub HasSoundProofs : ℕ → Limit → List ℕ → Type 0
HasSoundProofs depth limit text = (p : NominalProgram) → IsProgramOfText text p
    → AllByRecursion (λ d. (verdict_on_proved p d ≡ yes) × IsSoundProof p d) (limited_proofs depth limit p)
