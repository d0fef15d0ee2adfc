use Rattle.std.proofs.Common.{◌≡◌, ◌-◌, List, [], ◌∷◌, ◌++◌, length, refl, sym, ap, ◌∙◌, arith}
use Rattle.ap_defs.specs.Answers.{NominalOut, out_of}
use Rattle.ap_paths.specs.Runs.{outs_of_run, outs_of_runs}
use Rattle.ap_paths.specs.declared.runs.Run.{Run}
use Rattle.ap_paths.proofs.RunLemmas.{run_added, run_joined, run_kept}
use Rattle.ap_paths.proofs.runs.push_run.Goals as goal
use Rattle.ap_paths.proofs.runs.push_run.Goals.{in-Some+in_default-joined, in_default}

-- the run at the end goes on
pub returns-in-Some-joined : goal.returns-in-Some-joined
returns-in-Some-joined c =
    run_joined c.args.runs.now.items c.args.runs.now.len c.in-Some.last.now c.in-Some-joined.both (out_of c.args.out ∷ [])
    (let l = c.args.runs.now.ok.0 in omega (arith, l)) (let l = c.args.runs.now.ok.0 in let some = c.in-Some.ensures.variant.0 refl in omega (arith, l, some)) c.in-Some.ensures.value
    (c.in-Some-joined.ensures ∙ ap (λ (os : List NominalOut). outs_of_run c.in-Some.last.now ++ os) c.run_of-run.ensures)

-- or another begins
pub returns : goal.returns
returns c =
    let same : outs_of_runs c.match-last_mut.runs.items ≡ outs_of_runs c.args.runs.now.items = elim c.match-last_mut.branch [
      | in-Some+in_default-joined w ↦ ap (λ v. outs_of_runs v.items) w.runs-is ∙ run_kept c.args.runs.now.items (c.args.runs.now.len - 1) w.in-Some.last.now w.in-Some.ensures.value
      | in_default w ↦ ap (λ v. outs_of_runs v.items) w.runs-is
    ] in
    run_added c.match-last_mut.runs.items c.push.new.self.items c.run_of-run.result (out_of c.args.out ∷ []) c.in_ok-push.ensures.items c.run_of-run.ensures
    ∙ ap (λ os. os ++ out_of c.args.out ∷ []) same
