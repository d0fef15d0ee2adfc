-- Those counted, with the outputs that are left, are all; each is one of those that were passed.
use Rattle.std.proofs.Common.{◌≡◌, drop}
use Rattle.ap_defs.specs.Answers.{outs_of}
use Rattle.ap_totals.specs.Sums.{IsSumAtMost, output_totals, sum_of_both}
use Rattle.ap_totals.proofs.totals.Totals.of_outputs.Given as goal

abbrev pub invariant-loop-out : goal.invariant-loop-out
invariant-loop-out l = record {
  counts : sum_of_both l.totals (output_totals (outs_of (drop l.out-index l.outs)) 0) ≡ output_totals (outs_of l.outs) 0;
  few : IsSumAtMost l.out-index l.totals;
}
