-- Derivations that are written one after another, and bundles that a check passes.
use Rattle.std.proofs.Common.{◌≡◌, ℕ, List, [], ◌∷◌, ◌++◌, map, refl, sym, ap, ◌∙◌, append_assoc}
use Rattle.std.specs.Prelude.{Result, Ok, Err}
use Rattle.std.proofs.lemmas.List.{append-nil, map-append}
use Rattle.ap_bundle.specs.Bundles.{NominalBundle, NominalProved, proved_of}
use Rattle.ap_bundle_reports.specs.BundleReports.{check_report}
use Rattle.ap_bundle_commands.specs.CheckReports.{IsReadReport}
use Rattle.ap_defs.specs.declared.faults.Fault.{Fault}
use Rattle.ap_defs.specs.declared.faults.Fault.TheVariants as faults
use Rattle.ap_defs.specs.declared.outcomes.Proved.{Proved}
use Rattle.ap_defs.specs.Goals.{NominalProgram}
use Rattle.ap_steps.specs.declared.pages.Format.{Format}
use Rattle.ap_steps.specs.declared.steps.Step.{Step}
use Rattle.ap_steps.specs.Pages.{derivation_text, derivation_texts}
use Rattle.ap_report.specs.declared.report.Report.{Report}
use Rattle.ap_report.specs.declared.status.Status.{Status}
use Rattle.ap_report.specs.declared.status.Status.TheVariants as status
use Rattle.ap_report.specs.FaultLines.{fault_report}
use Rattle.ap_report.proofs.Texts.{refused_report, report_one}
use Rattle.ap_steps.specs.Proofs.{shown_steps}
use Rattle.ap_steps.specs.Steps.{NominalStep}
use Rattle.ap_steps.specs.Writers.{written_step}
use Rattle.ap_text.specs.Texts.{IsFaultOfText}
use Rattle.ap_documents.specs.Documents.{AreWritten, IsDocumentWritten, PassesCheck}

-- Some of the derivations are written behind what was, and these are left.
pub record AreWrittenSoFar (format : Format) (p : NominalProgram) (words : List (List ℕ)) (ds rest : List Proved) (before after : List ℕ) : Type 0 where
  pub steps : List (List Step)
  pub shown : map (map written_step) steps ++ map (shown_steps p words) (map proved_of rest) ≡ map (shown_steps p words) (map proved_of ds)
  pub written : after ≡ before ++ derivation_texts format steps

texts_append : (format : Format) (ss : List (List Step)) (s : List Step) → derivation_texts format (ss ++ s ∷ []) ≡ derivation_texts format ss ++ derivation_text format s
texts_append format [] s = append-nil (derivation_text format s)
texts_append format (t ∷ ss) s =
    ap (λ bs. derivation_text format t ++ bs) (texts_append format ss s) ∙ sym (append_assoc (derivation_text format t) (derivation_texts format ss) (derivation_text format s))

module _ (format : Format) (p : NominalProgram) (words : List (List ℕ)) (ds : List Proved) (before : List ℕ) where
  pub none_written : AreWrittenSoFar format p words ds ds before before
  none_written = record { steps = []; shown = refl; written = sym (append-nil before) }

  pub one_written : (d : Proved) (rest others : List Proved) (now after : List ℕ) → rest ≡ d ∷ others → AreWrittenSoFar format p words ds rest before now
      → IsDocumentWritten format p words (proved_of d) now after → AreWrittenSoFar format p words ds others before after
  one_written d rest others now after e so one =
      let more : List (List NominalStep) = map (shown_steps p words) (map proved_of others) in
      record {
        steps = so.steps ++ one.steps ∷ [];
        shown =
            ap (λ (xs : List (List NominalStep)). xs ++ more) (map-append (map written_step) so.steps (one.steps ∷ []))
            ∙ append_assoc (map (map written_step) so.steps) (map written_step one.steps ∷ []) more
            ∙ ap (λ (s : List NominalStep). map (map written_step) so.steps ++ (s ∷ more)) one.shown
            ∙ ap (λ (rs : List Proved). map (map written_step) so.steps ++ map (shown_steps p words) (map proved_of rs)) (sym e) ∙ so.shown;
        written =
            one.written ∙ ap (λ bs. bs ++ derivation_text format one.steps) so.written
            ∙ append_assoc before (derivation_texts format so.steps) (derivation_text format one.steps)
            ∙ ap (λ bs. before ++ bs) (sym (texts_append format so.steps one.steps));
      }

  pub all_written : (rest : List Proved) (after : List ℕ) → rest ≡ [] → AreWrittenSoFar format p words ds rest before after
      → AreWritten format p words (map proved_of ds) before after
  all_written rest after e so = record {
    steps = so.steps;
    shown =
        sym (append-nil (map (map written_step) so.steps))
        ∙ ap (λ (rs : List Proved). map (map written_step) so.steps ++ map (shown_steps p words) (map proved_of rs)) (sym e) ∙ so.shown;
    written = so.written;
  }

-- the report of a fault has another status than Ok
fault_refuses : (f : Fault) → (fault_report f).status ≡ status.Ok → ⊥
fault_refuses (faults.Syntax f) e = cc
fault_refuses (faults.Types f) e = cc
fault_refuses (faults.Names f) e = cc

-- the text of a bundle that passes has no fault
pub no_text_fault : (b : NominalBundle) (f : Fault) → IsFaultOfText b.text f → PassesCheck (Ok b) → ⊥
no_text_fault b f h passes =
    let answer = check_report b.proved in
    let same : fault_report f ≡ passes.report = sym (report_one answer b.text (fault_report f) passes.report (refused_report answer b.text f (fault_report f) h refl) passes.is) in
    fault_refuses f (ap (λ (r : Report). r.status) same ∙ passes.status)
