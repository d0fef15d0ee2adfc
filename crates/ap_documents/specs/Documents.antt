-- Documents of bundles whose check refuses nothing.
use Rattle.std.specs.Prelude.{◌≡◌, ℕ, List, ◌++◌, map, Result, Ok, Err}
use Rattle.ap_defs.specs.Goals.{NominalProgram}
use Rattle.ap_bundle.specs.Bundles.{NominalBundle, NominalProved}
use Rattle.ap_bundle.specs.Reading.{reading}
use Rattle.ap_bundle.specs.declared.faults.BundleFault.{BundleFault}
use Rattle.ap_bundle_reports.specs.BundleReports.{bundle_fault_report}
use Rattle.ap_bundle_commands.specs.CheckReports.{IsReadReport}
use Rattle.ap_steps.specs.declared.pages.Format.{Format}
use Rattle.ap_steps.specs.declared.steps.Step.{Step}
use Rattle.ap_steps.specs.Pages.{derivation_text, derivation_texts, document}
use Rattle.ap_report.specs.declared.report.Report.{Report}
use Rattle.ap_report.specs.declared.status.Status.TheVariants as status
use Rattle.ap_steps.specs.Proofs.{shown_steps}
use Rattle.ap_steps.specs.Writers.{written_step}
use Rattle.ap_text.specs.Texts.{HasItems, IsProgramOfText}
use Rattle.ap_trees.specs.Items.{ItemOf}
use Rattle.ap_documents.specs.Predicates.{predicate_words}

-- A derivation is written behind what was: its steps, with some marks of their bound names.
pub record IsDocumentWritten (format : Format) (p : NominalProgram) (words : List (List ℕ)) (d : NominalProved) (before after : List ℕ) : Type 0 where
  pub steps : List Step
  pub shown : map written_step steps ≡ shown_steps p words d
  pub written : after ≡ before ++ derivation_text format steps

-- Derivations are written so one after another.
pub record AreWritten (format : Format) (p : NominalProgram) (words : List (List ℕ)) (ds : List NominalProved) (before after : List ℕ) : Type 0 where
  pub steps : List (List Step)
  pub shown : map (map written_step) steps ≡ map (shown_steps p words) ds
  pub written : after ≡ before ++ derivation_texts format steps

-- A document of derivations, for a program whose predicates have these words: the steps of each, with some marks of their bound names.
pub record IsDocument (format : Format) (p : NominalProgram) (words : List (List ℕ)) (ds : List NominalProved) (bytes : List ℕ) : Type 0 where
  pub steps : List (List Step)
  pub shown : map (map written_step) steps ≡ map (shown_steps p words) ds
  pub written : bytes ≡ document format steps

-- A document of a bundle, whose text has a program.
pub record IsShownBundle (format : Format) (b : NominalBundle) (r : Report) : Type 0 where
  pub program : NominalProgram
  pub items : List ItemOf
  pub text : IsProgramOfText b.text program
  pub declared : HasItems b.text items
  pub document : IsDocument format program (predicate_words items) b.proved r.bytes
  pub status : r.status ≡ status.Ok

-- a document of a bundle that is read, or the report of the fault of one whose terms together are too large to be written in full
abbrev pub IsShownRead : Format → Result NominalBundle BundleFault → Report → Type 0
IsShownRead format (Ok b) r = IsShownBundle format b r
IsShownRead format (Err f) r = r ≡ bundle_fault_report f

abbrev pub IsShownDocument : Format → List ℕ → Report → Type 0
IsShownDocument format bytes r = IsShownRead format (reading bytes) r

-- The check of what was read refuses nothing.
pub record PassesCheck (read : Result NominalBundle BundleFault) : Type 0 where
  pub report : Report
  pub is : IsReadReport read report
  pub status : report.status ≡ status.Ok
