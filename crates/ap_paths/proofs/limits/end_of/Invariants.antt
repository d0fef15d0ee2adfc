use Rattle.std.proofs.Common.{◌≡◌, ◌++◌, take, drop}
use Rattle.ap_paths.specs.Runs.{outs_of_runs}
use Rattle.ap_paths.specs.Limits.{first_part}
use Rattle.ap_paths.proofs.limits.end_of.Given as goal

abbrev pub invariant-loop-run : goal.invariant-loop-run
invariant-loop-run l =
    (outs_of_runs (take l.run-index l.runs) ++ first_part l.left (outs_of_runs (drop l.run-index l.runs)) ≡ first_part l.count (outs_of_runs l.runs)) × (l.place ≡ l.run-index)
