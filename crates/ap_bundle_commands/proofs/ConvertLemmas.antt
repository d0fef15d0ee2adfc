-- A bundle that is written in one version is read, and so written in the other.
use Rattle.std.proofs.Common.{◌≡◌, ℕ, List, Result, Ok, ap, sym, subst, ◌∙◌}
use Rattle.ap_bundle.specs.declared.faults.BundleFault.{BundleFault}
use Rattle.ap_bundle.specs.Bundles.{NominalBundle}
use Rattle.ap_bundle.specs.Reading.{cited_reading, reading}
use Rattle.ap_bundle.specs.Written.{written_as}
use Rattle.ap_bundle_reports.specs.BundleReports.{written_report}
use Rattle.ap_bundle_commands.specs.CheckReports.{IsReadReport}
use Rattle.ap_bundle_laws.proofs.CitedLemmas.{read_is_cited}
use Rattle.ap_bundle_laws.proofs.RangedLemmas.{reading_fits}
use Rattle.ap_bundle_laws.proofs.VersionLemmas.{cited_again, read_again, room_in}
use Rattle.ap_report.specs.declared.report.Report.{Report}
use Rattle.ap_bundle_commands.specs.ConvertLaws.{ConvertedBack, ConvertedIsCheckedAlike, ConvertedIsRead, WrittenIsConverted}
use Rattle.ap_bundle_commands.specs.ConvertReports.{IsConvertReport, convert_report}

pub there : WrittenIsConverted
there from to b fits room = sym (ap (convert_report to) (read_again from b fits room))

pub back : ConvertedBack
back from to b r fits room is =
    let made : r ≡ written_report to b = is ∙ ap (convert_report to) (read_again from b fits (room_in from b room)) in
    let bytes : written_as to b ≡ r.bytes = ap (λ (s : Report). s.bytes) (sym made) in
    subst (λ (bs : List ℕ). IsConvertReport from bs (written_report from b)) bytes (there to from b fits (room_in to b room))

pub kept : ConvertedIsRead
kept to bytes b r read room is =
    let made : r ≡ written_report to b = is ∙ ap (convert_report to) read in
    ap (λ (s : Report). reading s.bytes) made ∙ read_again to b (reading_fits bytes b read) room

pub checked : ConvertedIsCheckedAlike
checked to bytes b r s read room is =
    let made : r ≡ written_report to b = is ∙ ap (convert_report to) read in
    let again : cited_reading r.bytes ≡ Ok b = ap (λ (x : Report). cited_reading x.bytes) made ∙ cited_again to b (reading_fits bytes b read) room in
    let same : cited_reading bytes ≡ cited_reading r.bytes = read_is_cited bytes b read ∙ sym again in
    (subst (λ (x : Result NominalBundle BundleFault). IsReadReport x s) same, subst (λ (x : Result NominalBundle BundleFault). IsReadReport x s) (sym same))
