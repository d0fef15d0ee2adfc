-- What is written of the uses of clauses: the line of the text's first fault, or a line for each clause.
use Rattle.std.specs.Prelude.{ℕ, List, ◌++◌, codes, flat_map}
use Rattle.std.specs.Fmt.{decimal}
use Rattle.ap_defs.specs.Goals.{NominalProgram}
use Rattle.ap_report.specs.declared.report.Report.{Report}
use Rattle.ap_report.specs.declared.status.Status.TheVariants as status
use Rattle.ap_report.specs.TextReport.{IsTextReport}
use Rattle.ap_text_commands.specs.Counts.{clause_counts}
use Rattle.ap_text_commands.specs.declared.counting.counts.ClauseCount.{ClauseCount}

-- the line of a clause
abbrev pub count_line : ClauseCount → List ℕ
count_line c =
    codes "% item " ++ (decimal c.item ++ (codes ", line " ++ (decimal c.line ++ (codes ": " ++ (decimal c.uses ++ codes " uses\n")))))

-- the report of `count` on a program, to a depth
abbrev pub count_report : ℕ → NominalProgram → Report
count_report depth p = record { bytes = flat_map count_line (clause_counts depth p); status = status.Ok }

-- and on a text
abbrev pub IsCountReport : ℕ → List ℕ → Report → Type 0
IsCountReport depth text = IsTextReport (count_report depth) text
