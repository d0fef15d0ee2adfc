-- A text has one report.
use Rattle.std.proofs.Common.{◌≡◌, ℕ, List, ap}
use Rattle.ap_defs.specs.Goals.{NominalProgram}
use Rattle.ap_defs.specs.declared.faults.Fault.{Fault}
use Rattle.ap_text.specs.Texts.{IsProgramOfText, IsFaultOfText}
use Rattle.ap_text.proofs.Texts.{program_one, fault_one, program_or_fault}
use Rattle.ap_report.specs.declared.report.Report.{Report}
use Rattle.ap_report.specs.FaultLines.{fault_report}
use Rattle.ap_report.specs.TextReport.{IsTextReport, refused, answered}

-- its report is one
pub report_one : (answer : NominalProgram → Report) (text : List ℕ) (r s : Report) → IsTextReport answer text r → IsTextReport answer text s → s ≡ r
report_one answer text _ _ (refused f h) (refused g k) = ap fault_report (fault_one text g f k h)
report_one answer text _ _ (refused f h) (answered q k) = absurd (program_or_fault text q f k h)
report_one answer text _ _ (answered p h) (refused g k) = absurd (program_or_fault text p g h k)
report_one answer text _ _ (answered p h) (answered q k) = ap answer (program_one text q p k h)

-- a report of the first fault, and of the program
pub refused_report : (answer : NominalProgram → Report) (text : List ℕ) (f : Fault) (r : Report) → IsFaultOfText text f → r ≡ fault_report f → IsTextReport answer text r
refused_report answer text f r h is = rw is (refused f h)

pub answered_report : (answer : NominalProgram → Report) (text : List ℕ) (p : NominalProgram) (r : Report) → IsProgramOfText text p → r ≡ answer p → IsTextReport answer text r
answered_report answer text p r h is = rw is (answered p h)
