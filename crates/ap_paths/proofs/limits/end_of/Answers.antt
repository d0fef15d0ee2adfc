use Rattle.std.proofs.Common.{◌∙◌, ◌+◌, ◌++◌, take, drop, sym, ap, append-nil, ℕ, arith}
use Rattle.ap_paths.specs.declared.runs.Run.{Run}
use Rattle.ap_paths.specs.Runs.{outs_of_run, outs_of_runs}
use Rattle.ap_paths.specs.Limits.{first_part, found_in}
use Rattle.ap_paths.proofs.Limiting.{taken_next, all_taken}
use Rattle.ap_paths.proofs.limits.end_of.Goals as goal

pub returns-then-left-eq0 : goal.returns-then-left-eq0
returns-then-left-eq0 c =
    let v = c.loop-run.invariant in
    let xs = c.args.runs.now in
    let i = c.loop-run.run-index in
    ap (λ (k : ℕ). outs_of_runs (take k xs)) v.1 ∙ sym (append-nil (outs_of_runs (take i xs))) ∙ sym (ap (λ (n : ℕ). outs_of_runs (take i xs) ++ first_part n (outs_of_runs (drop i xs))) c.if-left-eq0.true) ∙ v.0

pub loop-run-preserved : goal.loop-run-preserved
loop-run-preserved c =
    let v = c.loop-run.invariant in
    let xs = c.args.runs.now in
    let i = c.loop-run.run-index in
    let d = c.run-item.result in
    let e = ap (λ (r : Run). c.less_by-left.result + found_in (outs_of_run r)) (sym c.run-item.is) ∙ c.less_by-left.ensures in
    (taken_next xs i d c.loop-run.left c.less_by-left.result c.loop-run-test.true (omega arith) e ∙ v.0, (let z = v.1 in omega arith))

pub returns : goal.returns
returns c =
    let v = c.loop-run.invariant in
    let xs = c.args.runs.now in
    let i = c.loop-run.run-index in
    ap (λ (k : ℕ). outs_of_runs (take k xs)) v.1 ∙ sym (all_taken xs i c.loop-run.left c.loop-run-test.false) ∙ v.0
