use Rattle.std.proofs.Common.{◌∙◌}
use Rattle.std.proofs.lemmas.List.{map-id}
use Rattle.std.proofs.lemmas.Result.{IfOk-weaker}
use Rattle.ap_defs.specs.Answers.{query_outs}
use Rattle.ap_backchain.specs.Problems.{clauses_in}
use Rattle.ap_paths.specs.Limits.{part}
use Rattle.ap_replay.proofs.solver.solve.Goals as goal

-- with their paths they are as they were
pub returns : goal.returns
returns g c = IfOk-weaker c.outputs_by.result _ _
    (λ v is q asked. is q asked ∙ map-id (part c.args.limit (query_outs (clauses_in c.args.problem.now) c.args.problem.now.depth q)))
    c.outputs_by.ensures
