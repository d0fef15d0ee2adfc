-- What a call does to its source and its sink.
use Rattle.std.specs.Prelude.{◌≡◌, ◌⊎◌, ℕ, ◌<◌, ◌≤◌, List, length, take, Option, IfSome}
use Rattle.std.specs.Io.KnownBytes.{Appends, Keeps}
use Rattle.ap_defs.specs.Limits.{size_limit}
use Rattle.ap_io.specs.Causes.{Rose}
use Rattle.ap_report.specs.declared.report.Report.{Report}
use Rattle.ap_report.specs.declared.status.Status.{Status}
use Rattle.ap_report.specs.declared.status.Status.TheVariants as status
use Rattle.ap_run.specs.Inputs.{Input, Whole, Over, Broken}

-- what was read of a source that told these bytes to be left, and whose count of failures was `before`
-- and is `now`: all its bytes, more than the limit, or a failure, which comes only where the count rose
abbrev pub IsRead : Option (List ℕ) → ℕ → ℕ → Input → Type 0
IsRead left before now (Whole bytes) = (now ≡ before) × (length bytes ≤ size_limit) × IfSome left (λ all. bytes ≡ all)
IsRead left before now Over = (now ≡ before) × IfSome left (λ all. size_limit < length all)
IsRead left before now Broken = Rose before now

-- the bytes that a sink tells and its count of failures, at the call and at the return
pub record Change : Type 0 where
  pub bytes : Option (List ℕ)
  pub bytes' : Option (List ℕ)
  pub faults : ℕ
  pub faults' : ℕ

-- how a report came to the sink, by the status that was returned: after Write its first bytes, which comes
-- only where the count rose; else all its bytes, and the status is the report's
abbrev pub IsReportWritten : Change → Report → Status → Type 0
IsReportWritten sink report status.Write = Rose sink.faults sink.faults' × (n : ℕ) × Appends sink.bytes sink.bytes' (take n report.bytes)
IsReportWritten sink report other = (sink.faults' ≡ sink.faults) × (other ≡ report.status) × Appends sink.bytes sink.bytes' report.bytes

-- a report was put: whole, with its status, or its first bytes, with the status of a failure
abbrev pub IsPut : Change → Report → Status → Type 0
IsPut sink report s =
    ((s ≡ report.status) × (sink.faults' ≡ sink.faults) × Appends sink.bytes sink.bytes' report.bytes)
    ⊎ ((s ≡ status.Write) × Rose sink.faults sink.faults' × (n : ℕ) × Appends sink.bytes sink.bytes' (take n report.bytes))

-- nothing was written
abbrev pub IsUnwritten : Change → Type 0
IsUnwritten sink = (sink.faults' ≡ sink.faults) × Keeps sink.bytes sink.bytes'
