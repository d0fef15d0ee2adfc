-- What is shown of a bundle: what `check` says, where it refuses, and else a document of its derivations.
use Rattle.std.specs.Prelude.{◌≡◌, ℕ, List}
use Rattle.ap_bundle_commands.specs.CheckReports.{IsCheckReport}
use Rattle.ap_documents.specs.Documents.{IsShownDocument}
use Rattle.ap_steps.specs.declared.pages.Format.{Format}
use Rattle.ap_report.specs.declared.report.Report.{Report}
use Rattle.ap_report.specs.declared.status.Status.{Status}
use Rattle.ap_report.specs.declared.status.Status.TheVariants as status

-- what is shown, by what `check` says
abbrev pub IsShownAfter : Status → Format → List ℕ → Report → Report → Type 0
IsShownAfter status.Ok format bytes checked r = IsShownDocument format bytes r
IsShownAfter _ format bytes checked r = r ≡ checked

-- What is shown of bytes: the report of `check` where that has another status than Ok, and a document where it has that.
pub record IsShowReport (format : Format) (bytes : List ℕ) (r : Report) : Type 0 where
  pub checked : Report
  pub is : IsCheckReport bytes checked
  pub shown : IsShownAfter checked.status format bytes checked r
