use Rattle.std.proofs.Common.{◌≡◌, ◌-◌, ◌^◌, min, take}
use Rattle.ap_paths.specs.Runs.{outs_of_runs}
use Rattle.ap_paths.specs.Limits.{found_in}
use Rattle.ap_paths.proofs.limits.answers_in_runs.Given as goal

abbrev pub invariant-loop-run : goal.invariant-loop-run
invariant-loop-run l = l.count ≡ min (found_in (outs_of_runs (take l.run-index l.runs))) (2 ^ 64 - 1)
