-- The run so far, and the run from here on, are the whole run.
use Rattle.std.proofs.Common.{◌≡◌, ◌+◌, ◌≤◌, drop}
use Rattle.ap_defs.specs.Answers.{outs_of}
use Rattle.ap_defs.specs.Lines.{is_cut}
use Rattle.ap_answers.specs.Runs.{run_length}
use Rattle.ap_answers.proofs.report.leading_cuts.Given as goal

abbrev pub invariant-loop-out : goal.invariant-loop-out
invariant-loop-out l = record {
  all : l.count + run_length is_cut (outs_of (drop l.out-index l.outs)) ≡ run_length is_cut (outs_of l.outs);
  few : l.count ≤ l.out-index;
}
