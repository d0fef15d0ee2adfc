-- What is written of a bundle that is to be written in another version, and the status: the bundle, or the line of its first fault.
use Rattle.std.specs.Prelude.{◌≡◌, ℕ, List, Result, Ok, Err}
use Rattle.ap_bundle.specs.Bundles.{NominalBundle}
use Rattle.ap_bundle.specs.Reading.{reading}
use Rattle.ap_bundle.specs.declared.faults.BundleFault.{BundleFault}
use Rattle.ap_bundle.specs.declared.version.Version.{Version}
use Rattle.ap_bundle_reports.specs.BundleReports.{bundle_fault_report, written_report}
use Rattle.ap_report.specs.declared.report.Report.{Report}

-- the report on what was read
abbrev pub convert_report : Version → Result NominalBundle BundleFault → Report
convert_report to (Ok b) = written_report to b
convert_report to (Err f) = bundle_fault_report f

-- the report of `convert` to this version on bytes
abbrev pub IsConvertReport : Version → List ℕ → Report → Type 0
IsConvertReport to bytes r = r ≡ convert_report to (reading bytes)
