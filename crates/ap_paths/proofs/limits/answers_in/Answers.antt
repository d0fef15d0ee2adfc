use Rattle.std.proofs.Common.{◌+◌, ◌-◌, ◌^◌, min, if◌then◌else◌, ap, arith}
use Rattle.ap_defs.specs.declared.paths.Out.{Out}
use Rattle.ap_defs.specs.Answers.{out_of}
use Rattle.ap_paths.specs.Limits.{is_answer_out}
use Rattle.ap_paths.proofs.Limiting.{found_next}
use Rattle.ap_paths.proofs.limits.answers_in.Goals as goal

pub loop-out-preserved : goal.loop-out-preserved
loop-out-preserved c =
    let v = c.loop-out.invariant in
    let xs = c.args.outs.now in
    let i = c.loop-out.out-index in
    let d = c.out-item.result in
    let n = found_next xs i d c.loop-out-test.true in
    let e = ap (λ (o : Out). min (c.loop-out.count + (if is_answer_out (out_of o) then 1 else 0)) (2 ^ 64 - 1)) c.out-item.is in
    let f = c.more_by-count.ensures in
    omega arith
