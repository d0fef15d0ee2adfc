-- What reading the input gave, and reports on it.
use Rattle.std.specs.Prelude.{◌≡◌, ℕ, List, codes}
use Rattle.ap_report.specs.declared.report.Report.{Report}
use Rattle.ap_report.specs.declared.status.Status.{Status}
use Rattle.ap_report.specs.declared.status.Status.TheVariants as status

-- what reading gave: all bytes that were left, a byte past the limit, or a failure
pub data Input : Type 0 where
  Whole : List ℕ → Input
  Over : Input
  Broken : Input

-- one line is all that is written
abbrev pub line : List ℕ → Status → Report
line text status = record { bytes = text; status = status }

-- the report on an input, of a command with this report on the bytes
abbrev pub IsReportOn : (List ℕ → Report → Type 0) → Input → Report → Type 0
IsReportOn IsReportOnText (Whole text) r = IsReportOnText text r
IsReportOn IsReportOnText Over r = r ≡ line (codes "% text too large\n") status.TooLarge
IsReportOn IsReportOnText Broken r = r ≡ line (codes "% read fault\n") status.Read

-- there is no other
abbrev pub IsOnlyReport : (Report → Type 0) → Report → Type 0
IsOnlyReport P r = P r × ((s : Report) → P s → s ≡ r)
