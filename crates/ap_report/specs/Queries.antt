-- The report on the queries of a program, of each of which so many answers are wanted.
use Rattle.std.specs.Prelude.{ℕ, zero, suc, List, [], ◌∷◌, ◌++◌}
use Rattle.ap_defs.specs.Goals.{NominalQuery, NominalProgram}
use Rattle.ap_defs.specs.Answers.{query_outs}
use Rattle.ap_defs.specs.Lines.{query_lines}
use Rattle.ap_paths.specs.Limits.{part}
use Rattle.ap_paths.specs.declared.limits.Limit.{Limit}

-- the report on the query with this number: the lines of its outputs up to the last answer that is wanted
abbrev pub limited_lines : NominalProgram → ℕ → Limit → ℕ → NominalQuery → List ℕ
limited_lines program depth limit k q = query_lines program k q.locals (part limit (query_outs program.clauses depth q))

-- that of queries that are numbered from k on
abbrev pub limited_from : NominalProgram → ℕ → Limit → ℕ → List NominalQuery → List ℕ
limited_from program depth limit k [] = []
limited_from program depth limit k (q ∷ qs) = limited_lines program depth limit k q ++ limited_from program depth limit (suc k) qs

-- that of a program
abbrev pub limited_report : NominalProgram → ℕ → Limit → List ℕ
limited_report program depth limit = limited_from program depth limit 1 program.queries

-- that of the query at a place, with the number k if it is the first one
abbrev pub report_at : NominalProgram → ℕ → Limit → ℕ → List NominalQuery → ℕ → List ℕ
report_at program depth limit k [] place = []
report_at program depth limit k (q ∷ qs) zero = limited_lines program depth limit k q
report_at program depth limit k (q ∷ qs) (suc place) = report_at program depth limit (suc k) qs place

abbrev pub query_report : NominalProgram → ℕ → Limit → ℕ → List ℕ
query_report program depth limit place = report_at program depth limit 1 program.queries place
