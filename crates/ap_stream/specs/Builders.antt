-- A report on a query that is being made of its outputs, one after another.
use Rattle.std.specs.Prelude.{ℕ, ◌+◌, ◌==◌, if◌then◌else◌, List, [], ◌∷◌, ◌++◌, map, codes, replicate}
use Rattle.std.specs.Fmt.{decimal}
use Rattle.ap_defs.specs.Types.{NominalLocal}
use Rattle.ap_defs.specs.Goals.{NominalProgram}
use Rattle.ap_defs.specs.Answers.{NominalOut, cut, stuck}
use Rattle.ap_defs.specs.Lines.{lines_of, line_text, ended, is_found, is_cut, is_stuck, count_of}
use Rattle.ap_stream.specs.declared.builder.PendingRun.{PendingRun}
use Rattle.ap_stream.specs.declared.builder.PendingRun.TheVariants as runs
use Rattle.ap_stream.specs.declared.builder.ReportBuilder.{ReportBuilder}

-- the outputs of the run whose line is not written yet
abbrev pub outs_of_pending : PendingRun → List NominalOut
outs_of_pending (runs.Cuts n) = replicate n (cut [])
outs_of_pending (runs.Stuck n) = replicate n (stuck [])

-- its line, with its end, if there are any
abbrev pub line_of_pending : PendingRun → List ℕ
line_of_pending (runs.Cuts n) = if n == 0 then [] else codes "% cut " ++ decimal n ++ codes "\n"
line_of_pending (runs.Stuck n) = if n == 0 then [] else codes "% stuck " ++ decimal n ++ codes "\n"

-- the totals of the query with this number, of so many outputs of each kind
abbrev pub totals_by : ℕ → ℕ → ℕ → ℕ → List ℕ
totals_by k n c s =
    codes "% query " ++ decimal k ++ codes ": " ++ decimal n ++ codes " answers, " ++ decimal c ++ codes " cut, " ++ decimal s ++ codes " stuck"

-- with the end of the line
abbrev pub totals_line : ℕ → ℕ → ℕ → ℕ → List ℕ
totals_line k n c s =
    codes "% query " ++ (decimal k ++ (codes ": " ++ (decimal n ++ (codes " answers, " ++ (decimal c ++ (codes " cut, " ++ (decimal s ++ codes " stuck\n")))))))

-- what was written, and the lines of the outputs that follow a run, with those of the run, and of the totals
abbrev pub built_text : NominalProgram → List NominalLocal → List ℕ → PendingRun → List NominalOut → List ℕ → List ℕ
built_text program locals written run os totals = written ++ ended (map (line_text program locals) (lines_of (outs_of_pending run ++ os)) ++ totals ∷ [])

-- the report on the query with this number, where these outputs follow those that came
abbrev pub report_with : NominalProgram → ℕ → List NominalLocal → ReportBuilder → List NominalOut → List ℕ
report_with program k locals b os =
    built_text program locals b.bytes.items b.run os (totals_by k (b.answers + count_of is_found os) (b.cuts + count_of is_cut os) (b.stuck + count_of is_stuck os))
