-- What is written for a text, and the status: the line of the text's first fault, or what is answered for its program.
use Rattle.std.specs.Prelude.{ℕ, List}
use Rattle.ap_defs.specs.Goals.{NominalProgram}
use Rattle.ap_defs.specs.declared.faults.Fault.{Fault}
use Rattle.ap_paths.specs.declared.limits.Limit.{Limit}
use Rattle.ap_report.specs.declared.report.Report.{Report}
use Rattle.ap_report.specs.declared.status.Status.TheVariants as status
use Rattle.ap_report.specs.FaultLines.{fault_report}
use Rattle.ap_report.specs.Queries.{limited_report}
use Rattle.ap_text.specs.Texts.{IsProgramOfText, IsFaultOfText}

-- The report on a text, of a command that is given what it answers for a program.
pub data IsTextReport (answer : NominalProgram → Report) (text : List ℕ) : Report → Type 0 where
  -- the text has a fault
  refused : (f : Fault) → IsFaultOfText text f → IsTextReport answer text (fault_report f)
  -- the text has a program
  answered : (p : NominalProgram) → IsProgramOfText text p → IsTextReport answer text (answer p)

-- what a run to a depth answers for a program, where so many answers of each query are wanted
abbrev pub run_report : ℕ → Limit → NominalProgram → Report
run_report depth limit p = record { bytes = limited_report p depth limit; status = status.Ok }
