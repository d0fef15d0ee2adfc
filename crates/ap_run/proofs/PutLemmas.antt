-- How a report that was put comes to be written: none has one of the two statuses that tell of the sink.
use Rattle.std.proofs.Common.{◌≡◌, ◌∙◌, sym, subst, inl, inr, List, ℕ, Result, Ok, Err, IfOk}
use Rattle.std.specs.Io.KnownBytes.{Appends}
use Rattle.ap_defs.specs.Goals.{NominalProgram}
use Rattle.ap_defs.specs.declared.faults.Fault.TheVariants as faults
use Rattle.ap_report.specs.declared.report.Report.{Report}
use Rattle.ap_report.specs.declared.status.Status.{Status}
use Rattle.ap_report.specs.declared.status.Status.TheVariants as status
use Rattle.ap_report.specs.TextReport.{IsTextReport, refused, answered}
use Rattle.ap_run.specs.Writing.{Change, IsPut, IsUnwritten, IsReportWritten}

-- the status of a report
abbrev pub IsTold : Status → Type 0
IsTold status.Write = ⊥
IsTold status.Memory = ⊥
IsTold _ = Unit {0}

pub told_text : (answer : NominalProgram → Report) → ((p : NominalProgram) → IsTold (answer p).status) → (text : List ℕ) (r : Report) → IsTextReport answer text r → IsTold r.status
told_text answer told text _ (refused (faults.Syntax f) h) = tt
told_text answer told text _ (refused (faults.Types f) h) = tt
told_text answer told text _ (refused (faults.Names f) h) = tt
told_text answer told text _ (answered p h) = told p

pub written_report : (sink : Change) (r : Report) (s : Status) → IsTold s → s ≡ r.status → sink.faults' ≡ sink.faults → Appends sink.bytes sink.bytes' r.bytes → IsReportWritten sink r s
written_report sink r status.Ok told is steady whole = (steady, is, whole)
written_report sink r status.Usage told is steady whole = (steady, is, whole)
written_report sink r status.Syntax told is steady whole = (steady, is, whole)
written_report sink r status.Types told is steady whole = (steady, is, whole)
written_report sink r status.Names told is steady whole = (steady, is, whole)
written_report sink r status.Read told is steady whole = (steady, is, whole)
written_report sink r status.Write told is steady whole = absurd told
written_report sink r status.Memory told is steady whole = absurd told
written_report sink r status.NotChecked told is steady whole = (steady, is, whole)
written_report sink r status.TooLarge told is steady whole = (steady, is, whole)
written_report sink r status.NotCovered told is steady whole = (steady, is, whole)
written_report sink r status.NotAProperty told is steady whole = (steady, is, whole)

-- how a report was put tells how it is written
pub put_written : (sink : Change) (r : Report) (s : Status) → IsTold r.status → IsPut sink r s → IsReportWritten sink r s
put_written sink r s told (inl h) = written_report sink r s (subst IsTold (sym h.0) told) h.0 h.1 h.2
put_written sink r s told (inr h) = subst (IsReportWritten sink r) (sym h.0) (h.1, h.2, h.3)

put_told : (sink : Change) (r : Report) (s : Status) → IsTold r.status → IsPut sink r s → s ≡ status.Memory → ⊥
put_told sink r s told (inl h) is = subst (λ (x : Status). IsTold x) (sym h.0 ∙ is) told
put_told sink r s told (inr h) is = let k : status.Write ≡ status.Memory = sym h.0 ∙ is in cc

pub put_unwritten : (sink : Change) (r : Report) (s : Status) → IsTold r.status → IsPut sink r s → s ≡ status.Memory → IsUnwritten sink
put_unwritten sink r s told put is = absurd (put_told sink r s told put is)

-- two things that are known of what is returned
pub both_known : {A E : Type 0} (P Q R : A → Type 0) (x : Result A E) → ((a : A) → P a → Q a → R a) → IfOk x P → IfOk x Q → IfOk x R
both_known P Q R (Ok a) f p q = f a p q
both_known P Q R (Err e) f p q = tt
