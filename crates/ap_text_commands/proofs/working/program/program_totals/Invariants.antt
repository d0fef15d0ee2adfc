-- The totals so far, with those of the queries that are left, are all; and no query has more than 2 ^ 64 of any.
use Rattle.std.proofs.Common.{◌≡◌, ◌+◌, ◌*◌, ◌^◌, drop}
use Rattle.ap_defs.specs.Goals.{program_of}
use Rattle.ap_totals.specs.Sums.{IsSumAtMost, sum_of_both}
use Rattle.ap_text_commands.specs.WorkReports.{totals_of, work_depth}
use Rattle.ap_text_commands.proofs.SumLemmas.{totals_from}
use Rattle.ap_text_commands.proofs.working.program.program_totals.Given as goal

abbrev pub invariant-loop-place : goal.invariant-loop-place
invariant-loop-place g l = record {
  sums : sum_of_both l.totals (totals_from (program_of l.program) work_depth (1 + l.place) (drop l.place (program_of l.program).queries))
      ≡ totals_of (program_of l.program) work_depth;
  few : IsSumAtMost (l.place * 2 ^ 64) l.totals;
}
