use Rattle.std.proofs.Common.{◌≡◌, ◌+◌, ◌++◌, drop}
use Rattle.ap_defs.specs.Goals.{program_of}
use Rattle.ap_report.specs.Queries.{limited_from, limited_report}
use Rattle.ap_report.proofs.queries.report_program.Given as goal

abbrev pub invariant-loop-place : goal.invariant-loop-place
invariant-loop-place g l =
    l.bytes.items ++ limited_from (program_of l.program) l.depth l.limit (1 + l.place) (drop l.place (program_of l.program).queries)
    ≡ limited_report (program_of l.program) l.depth l.limit
