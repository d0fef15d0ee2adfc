-- The report on work that is made from a number: the totals of the run of a generated text.
use Rattle.std.specs.Prelude.{ℕ, Bool, List, ◌++◌, length, codes, sum_by}
use Rattle.std.specs.Fmt.{decimal}
use Rattle.ap_defs.specs.Answers.{NominalOut, query_outs}
use Rattle.ap_defs.specs.Goals.{NominalProgram, NominalQuery}
use Rattle.ap_defs.specs.Lines.{count_of, is_cut, is_found, is_stuck, program_report}
use Rattle.ap_text_commands.specs.Generated.{generated}
use Rattle.ap_report.specs.declared.report.Report.{Report}
use Rattle.ap_report.specs.declared.status.Status.TheVariants as status
use Rattle.ap_report.specs.TextReport.{IsTextReport}
use Rattle.ap_totals.specs.declared.totals.Totals.{Totals}

-- how many outputs of queries to a depth pass a test
abbrev pub total_of : (NominalOut → Bool) → NominalProgram → ℕ → List NominalQuery → ℕ
total_of test p depth qs = sum_by (λ q. count_of test (query_outs p.clauses depth q)) qs

-- how many answers, cuts and stuck branches a program's queries have, and how many bytes its report has
abbrev pub totals_of : NominalProgram → ℕ → Totals
totals_of p depth = record {
  answers = total_of is_found p depth p.queries;
  cut = total_of is_cut p depth p.queries;
  stuck = total_of is_stuck p depth p.queries;
  bytes = length (program_report p depth);
}

-- the line with the number of queries and their totals
abbrev pub summary : ℕ → Totals → List ℕ
summary queries t =
    codes "% work: " ++ (decimal queries ++ (codes " queries, " ++ (decimal t.answers ++ (codes " answers, " ++ (decimal t.cut ++ (codes " cut, "
    ++ (decimal t.stuck ++ (codes " stuck, " ++ (decimal t.bytes ++ codes " bytes\n")))))))))

-- what is answered for a program that is run to a depth
abbrev pub summary_report : ℕ → NominalProgram → Report
summary_report depth p = record { bytes = summary (length p.queries) (totals_of p depth); status = status.Ok }

-- the depth to which a generated text is run
abbrev pub work_depth : ℕ
work_depth = 4

-- the report of the text of a seed with so many queries
abbrev pub IsWorkReport : ℕ → ℕ → Report → Type 0
IsWorkReport seed size = IsTextReport (summary_report work_depth) (generated seed size)
