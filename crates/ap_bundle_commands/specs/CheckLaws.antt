-- What is proved of bundles that are checked.
use Rattle.std.specs.Prelude.{ℕ, ◌↔◌, List, length}
use Rattle.ap_defs.specs.Goals.{NominalProgram}
use Rattle.ap_bundle.specs.Bundles.{NominalBundle}
use Rattle.ap_bundle.specs.Written.{written_as}
use Rattle.ap_bundle.specs.declared.version.Version.{Version}
use Rattle.ap_bundle.specs.declared.version.Version.TheVariants.{One, Two}
use Rattle.ap_bundle_laws.specs.Laws.{FitsBundle, HasRoomEach, HasRoomEachIn}
use Rattle.ap_report.specs.declared.report.Report.{Report}
use Rattle.ap_text.specs.Texts.{IsProgramOfText}
use Rattle.ap_verdicts.specs.Proofs.{program_proofs, proofs_bundle}
use Rattle.ap_bundle_reports.specs.BundleReports.{checked_report}
use Rattle.ap_bundle_commands.specs.CheckReports.{IsCheckReport}

-- what is written, in either version, of all answers of a program, with their derivations, is checked whole
abbrev pub ProofsAreChecked : Type 0
ProofsAreChecked = (v : Version) (depth : ℕ) (text : List ℕ) (p : NominalProgram) → IsProgramOfText text p
    → FitsBundle (proofs_bundle depth text p) → HasRoomEachIn v (proofs_bundle depth text p)
    → IsCheckReport (written_as v (proofs_bundle depth text p)) (checked_report (length (program_proofs depth p)))

-- the report on what is written of a bundle is the same for both versions
abbrev pub VersionsAreCheckedAlike : Type 0
VersionsAreCheckedAlike = (b : NominalBundle) (r : Report) → FitsBundle b → HasRoomEach b
    → IsCheckReport (written_as One b) r ↔ IsCheckReport (written_as Two b) r
