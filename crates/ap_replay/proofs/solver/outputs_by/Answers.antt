use Rattle.std.proofs.Common.{◌∙◌}
use Rattle.std.proofs.lemmas.Result.{IfOk-weaker}
use Rattle.ap_replay.proofs.solver.outputs_by.Goals as goal

pub returns : goal.returns
returns g c = IfOk-weaker c.outs_in_full.result _ _ (λ v is q asked. is ∙ c.in_ok-runs.ensures q asked) c.outs_in_full.ensures
