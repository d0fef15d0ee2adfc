-- What is proved of bundles that are written in another version.
use Rattle.std.specs.Prelude.{◌≡◌, ◌↔◌, ℕ, List, Ok}
use Rattle.ap_bundle.specs.Bundles.{NominalBundle}
use Rattle.ap_bundle.specs.Reading.{reading}
use Rattle.ap_bundle.specs.Written.{written_as}
use Rattle.ap_bundle.specs.declared.version.Version.{Version}
use Rattle.ap_bundle_reports.specs.BundleReports.{written_report}
use Rattle.ap_bundle_commands.specs.CheckReports.{IsCheckReport}
use Rattle.ap_bundle_laws.specs.Laws.{FitsBundle, HasRoom, HasRoomEachIn, HasRoomIn}
use Rattle.ap_report.specs.declared.report.Report.{Report}
use Rattle.ap_bundle_commands.specs.ConvertReports.{IsConvertReport}

-- what is written in one version becomes what is written in the other
abbrev pub WrittenIsConverted : Type 0
WrittenIsConverted = (from to : Version) (b : NominalBundle) → FitsBundle b → HasRoomIn from b → IsConvertReport to (written_as from b) (written_report to b)

-- and from there what it was
abbrev pub ConvertedBack : Type 0
ConvertedBack = (from to : Version) (b : NominalBundle) (r : Report) → FitsBundle b → HasRoom b
    → IsConvertReport to (written_as from b) r → IsConvertReport from r.bytes (written_report from b)

-- whoever wrote it, what a bundle becomes is read as that bundle
abbrev pub ConvertedIsRead : Type 0
ConvertedIsRead = (to : Version) (bytes : List ℕ) (b : NominalBundle) (r : Report) → reading bytes ≡ Ok b → HasRoomIn to b
    → IsConvertReport to bytes r → reading r.bytes ≡ Ok b

-- and `check` says the same of it
abbrev pub ConvertedIsCheckedAlike : Type 0
ConvertedIsCheckedAlike = (to : Version) (bytes : List ℕ) (b : NominalBundle) (r s : Report) → reading bytes ≡ Ok b → HasRoomEachIn to b
    → IsConvertReport to bytes r → IsCheckReport bytes s ↔ IsCheckReport r.bytes s
