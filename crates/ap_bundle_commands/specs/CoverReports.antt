-- What is written of the ground proofs of a bundle, and the status: the line of the bundle's first fault, or of its text's first fault,
-- or of the first derivation that is refused, or of the first proof that is not ground or is too high, or else a line for each proof,
-- with the output of its query's search to a depth that covers it.
use Rattle.std.specs.Prelude.{◌≡◌, ◌≤◌, ℕ, true, List, Result, Ok, Err}
use Rattle.std.specs.List.{AllByRecursion}
use Rattle.ap_defs.specs.Derivations.{height}
use Rattle.ap_defs.specs.Goals.{NominalProgram}
use Rattle.ap_bundle.specs.Bundles.{NominalBundle}
use Rattle.ap_bundle.specs.Reading.{reading}
use Rattle.ap_bundle.specs.declared.faults.BundleFault.{BundleFault}
use Rattle.ap_bundle_reports.specs.BundleReports.{bundle_fault_report, cover_report}
use Rattle.ap_checks.specs.Checks.{yes}
use Rattle.ap_cover.specs.Covers.{IsCoveredProof}
use Rattle.ap_cover.specs.Ground.{is_ground}
use Rattle.ap_report.specs.declared.report.Report.{Report}
use Rattle.ap_report.specs.TextReport.{IsTextReport}
use Rattle.ap_text.specs.Texts.{IsProgramOfText}
use Rattle.ap_verdicts.specs.Verdicts.{verdict_on_proved}

-- the report on what was read
abbrev pub IsReadCoverReport : ℕ → Result NominalBundle BundleFault → Report → Type 0
IsReadCoverReport depth (Ok b) r = IsTextReport (cover_report depth b.proved) b.text r
IsReadCoverReport depth (Err f) r = r ≡ bundle_fault_report f

-- the report of `cover` on bytes
abbrev pub IsCoverReport : ℕ → List ℕ → Report → Type 0
IsCoverReport depth bytes = IsReadCoverReport depth (reading bytes)

-- each ground proof of the bundle that checks, no higher than the depth, is covered by what is found for it
abbrev pub HasCoveredProofs : ℕ → List ℕ → Type 0
HasCoveredProofs depth bytes = (b : NominalBundle) (p : NominalProgram) → reading bytes ≡ Ok b → IsProgramOfText b.text p
    → AllByRecursion (λ d. verdict_on_proved p d ≡ yes → is_ground d ≡ true → height d.derivation ≤ depth → IsCoveredProof p depth d) b.proved
