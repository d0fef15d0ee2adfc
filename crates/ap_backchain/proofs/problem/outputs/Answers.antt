use Rattle.std.proofs.lemmas.Result.{IfOk-weaker}
use Rattle.ap_backchain.proofs.BranchLemmas.{with_paths}
use Rattle.ap_backchain.proofs.problem.outputs.Goals as goal

pub returns : goal.returns
returns c = IfOk-weaker c.outputs_with.result _ _ (with_paths c.args.p.now c.args.limit) c.outputs_with.ensures
