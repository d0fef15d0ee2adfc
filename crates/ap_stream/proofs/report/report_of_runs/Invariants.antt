use Rattle.std.proofs.Common.{◌≡◌, ◌-◌, Some, drop, slice_get}
use Rattle.ap_defs.specs.Goals.{NominalQuery, program_of}
use Rattle.ap_defs.specs.Lines.{query_lines}
use Rattle.ap_defs.specs.Types.{locals_of}
use Rattle.ap_backchain.specs.Problems.{program_of_problem, queries_in}
use Rattle.ap_paths.specs.Runs.{outs_of_runs}
use Rattle.ap_stream.specs.Builders.{report_with}
use Rattle.ap_stream.proofs.report.report_of_runs.Given as goal

-- the report with the runs that are left is that of all
abbrev pub invariant-adding : goal.invariant-adding
invariant-adding l =
    (q : NominalQuery) → slice_get (queries_in l.problem) (l.problem.query - 1) ≡ Some q
    → report_with (program_of l.program) l.problem.query (locals_of l.locals) l.builder (outs_of_runs (drop l.run-index l.runs))
    ≡ query_lines (program_of_problem l.problem) l.problem.query q.locals (outs_of_runs l.runs)
