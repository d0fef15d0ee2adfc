-- What is written of the derivations of a bundle, for a program, and the status.
use Rattle.std.specs.Prelude.{ℕ, List, length, Option, None, Some}
use Rattle.ap_defs.specs.Goals.{NominalProgram}
use Rattle.ap_bundle.specs.Bundles.{NominalBundle, NominalProved}
use Rattle.ap_bundle.specs.Written.{written_as}
use Rattle.ap_bundle.specs.declared.faults.BundleFault.{BundleFault}
use Rattle.ap_bundle.specs.declared.version.Version.{Version}
use Rattle.ap_covering.specs.CoverLines.{uncovered_line}
use Rattle.ap_covering.specs.ProofLines.{cover_lines}
use Rattle.ap_covering.specs.Uncovered.{first_uncovered}
use Rattle.ap_covering.specs.declared.uncovered.Uncovered.{Uncovered}
use Rattle.ap_report.specs.declared.report.Report.{Report}
use Rattle.ap_report.specs.declared.status.Status.TheVariants as status
use Rattle.ap_verdicts.specs.Verdicts.{RefusedProof, first_refused}
use Rattle.ap_bundle_reports.specs.CheckLines.{bundle_fault_line, checked_line, refused_line}

-- the report of a bundle's fault
abbrev pub bundle_fault_report : BundleFault → Report
bundle_fault_report f = record { bytes = bundle_fault_line f; status = status.Syntax }

-- the report of a derivation that is refused
abbrev pub refused_report : RefusedProof → Report
refused_report r = record { bytes = refused_line r; status = status.NotChecked }

-- the report of so many derivations that check
abbrev pub checked_report : ℕ → Report
checked_report count = record { bytes = checked_line count; status = status.Ok }

-- what comes of so many derivations, by the first that is refused
abbrev pub verdicts_report : ℕ → Option RefusedProof → Report
verdicts_report count None = checked_report count
verdicts_report count (Some r) = refused_report r

-- the report on derivations, for a program
abbrev pub check_report : List NominalProved → NominalProgram → Report
check_report ds p = verdicts_report (length ds) (first_refused p 1 ds)

-- what comes of proofs, by the first that is not to be covered
abbrev pub covers_report : ℕ → List NominalProved → NominalProgram → Option Uncovered → Report
covers_report depth ds p None = record { bytes = cover_lines p depth 1 ds; status = status.Ok }
covers_report depth ds p (Some u) = record { bytes = uncovered_line u; status = status.NotCovered }

-- and by the first that is refused
abbrev pub proofs_report : ℕ → List NominalProved → NominalProgram → Option RefusedProof → Report
proofs_report depth ds p None = covers_report depth ds p (first_uncovered depth 1 ds)
proofs_report depth ds p (Some r) = refused_report r

-- the report on proofs, for a program
abbrev pub cover_report : ℕ → List NominalProved → NominalProgram → Report
cover_report depth ds p = proofs_report depth ds p (first_refused p 1 ds)

-- the report of a bundle in this version
abbrev pub written_report : Version → NominalBundle → Report
written_report to b = record { bytes = written_as to b; status = status.Ok }
