-- What is written of a bundle, and the status: the line of the bundle's first fault, or of its text's first fault, or of the first
-- derivation that is refused, or else how many there are.
use Rattle.std.specs.Prelude.{◌≡◌, ℕ, List, Result, Ok, Err}
use Rattle.std.specs.List.{AllByRecursion}
use Rattle.ap_defs.specs.Goals.{NominalProgram}
use Rattle.ap_bundle.specs.Bundles.{NominalBundle}
use Rattle.ap_bundle.specs.Reading.{cited_reading}
use Rattle.ap_bundle.specs.declared.faults.BundleFault.{BundleFault}
use Rattle.ap_checks.specs.Checks.{yes}
use Rattle.ap_report.specs.declared.report.Report.{Report}
use Rattle.ap_report.specs.TextReport.{IsTextReport}
use Rattle.ap_text.specs.Texts.{IsProgramOfText}
use Rattle.ap_verdicts.specs.Soundness.{IsSoundProof}
use Rattle.ap_verdicts.specs.Verdicts.{verdict_on_proved}
use Rattle.ap_bundle_reports.specs.BundleReports.{bundle_fault_report, check_report}

-- the report on what was read
abbrev pub IsReadReport : Result NominalBundle BundleFault → Report → Type 0
IsReadReport (Ok b) r = IsTextReport (check_report b.proved) b.text r
IsReadReport (Err f) r = r ≡ bundle_fault_report f

-- the report of `check` on bytes
abbrev pub IsCheckReport : List ℕ → Report → Type 0
IsCheckReport bytes = IsReadReport (cited_reading bytes)

-- what each derivation of the bundle proves that checks is derivable in nominal logic, whoever made it
abbrev pub HasSoundVerdicts : List ℕ → Type 0
HasSoundVerdicts bytes = (b : NominalBundle) (p : NominalProgram) → cited_reading bytes ≡ Ok b → IsProgramOfText b.text p
    → AllByRecursion (λ d. verdict_on_proved p d ≡ yes → IsSoundProof p d) b.proved
