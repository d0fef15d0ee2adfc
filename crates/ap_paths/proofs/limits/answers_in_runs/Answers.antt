use Rattle.std.proofs.Common.{◌+◌, ◌-◌, ◌^◌, min, ap, arith}
use Rattle.ap_paths.specs.declared.runs.Run.{Run}
use Rattle.ap_paths.specs.Runs.{outs_of_run}
use Rattle.ap_paths.specs.Limits.{found_in}
use Rattle.ap_paths.proofs.Limiting.{found_next_run}
use Rattle.ap_paths.proofs.limits.answers_in_runs.Goals as goal

pub loop-run-preserved : goal.loop-run-preserved
loop-run-preserved c =
    let v = c.loop-run.invariant in
    let xs = c.args.runs.now in
    let i = c.loop-run.run-index in
    let d = c.run-item.result in
    let n = found_next_run xs i d c.loop-run-test.true in
    let e = ap (λ (r : Run). min (c.loop-run.count + found_in (outs_of_run r)) (2 ^ 64 - 1)) c.run-item.is in
    let f = c.more_by_run-count.ensures in
    omega arith
