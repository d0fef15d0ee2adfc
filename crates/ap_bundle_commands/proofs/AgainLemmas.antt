-- What is written of all answers of a program is checked whole, and both versions of a bundle alike.
use Rattle.std.proofs.Common.{◌≡◌, length, sym, ap, subst, ◌∙◌}
use Rattle.std.specs.Prelude.{Result}
use Rattle.ap_bundle.specs.Bundles.{NominalBundle}
use Rattle.ap_bundle.specs.Reading.{cited_reading}
use Rattle.ap_bundle.specs.Written.{written_as}
use Rattle.ap_bundle.specs.declared.faults.BundleFault.{BundleFault}
use Rattle.ap_bundle.specs.declared.version.Version.TheVariants.{One, Two}
use Rattle.ap_bundle_laws.proofs.VersionLemmas.{cited_again}
use Rattle.ap_report.specs.declared.report.Report.{Report}
use Rattle.ap_report.specs.TextReport.{IsTextReport, answered}
use Rattle.ap_report.proofs.SoundTexts.{text_typed}
use Rattle.ap_verdicts.specs.Proofs.{program_proofs, proofs_bundle}
use Rattle.ap_verdicts.proofs.SoundnessLemmas.{none_refused, proofs_check}
use Rattle.ap_bundle_commands.specs.CheckLaws.{ProofsAreChecked, VersionsAreCheckedAlike}
use Rattle.ap_bundle_reports.specs.BundleReports.{check_report, checked_report, verdicts_report}
use Rattle.ap_bundle_commands.specs.CheckReports.{IsReadReport}

pub proofs_again : ProofsAreChecked
proofs_again v depth text p is fits room =
    let ds = program_proofs depth p in
    let b = proofs_bundle depth text p in
    let typed = text_typed text p is in
    let all : check_report ds p ≡ checked_report (length ds) = ap (verdicts_report (length ds)) ((none_refused p 1 ds).1 (proofs_check p typed depth)) in
    subst (λ (x : Result NominalBundle BundleFault). IsReadReport x (checked_report (length ds))) (sym (cited_again v b fits room))
    (subst (λ (r : Report). IsTextReport (check_report ds) text r) all (answered p is))

pub alike : VersionsAreCheckedAlike
alike b r fits room =
    let same : cited_reading (written_as One b) ≡ cited_reading (written_as Two b) = cited_again One b fits tt ∙ sym (cited_again Two b fits room) in
    (subst (λ (x : Result NominalBundle BundleFault). IsReadReport x r) same, subst (λ (x : Result NominalBundle BundleFault). IsReadReport x r) (sym same))
