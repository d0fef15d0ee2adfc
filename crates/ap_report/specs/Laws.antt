-- A text has one report, and without a limit it is that of all outputs.
use Rattle.std.specs.Prelude.{◌≡◌, ℕ, List}
use Rattle.ap_defs.specs.Goals.{NominalProgram}
use Rattle.ap_defs.specs.Lines.{program_report}
use Rattle.ap_paths.specs.declared.limits.Limit.TheVariants as limits
use Rattle.ap_report.specs.declared.report.Report.{Report}
use Rattle.ap_report.specs.Queries.{limited_report}
use Rattle.ap_report.specs.TextReport.{IsTextReport}

abbrev pub ReportIsOne : Type 0
ReportIsOne = (answer : NominalProgram → Report) (text : List ℕ) (r s : Report) → IsTextReport answer text r → IsTextReport answer text s → s ≡ r

abbrev pub AllAreReported : Type 0
AllAreReported = (program : NominalProgram) (depth : ℕ) → limited_report program depth limits.All ≡ program_report program depth
