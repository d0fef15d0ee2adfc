use Rattle.std.proofs.Common.{◌∙◌}
use Rattle.std.proofs.lemmas.Result.{IfOk-weaker}
use Rattle.ap_defs.specs.Answers.{outs_of}
use Rattle.ap_replay.proofs.ReplayLemmas.{whole_outs}
use Rattle.ap_replay.proofs.problem_tree.visit_whole.Goals as goal

pub returns : goal.returns
returns c =
    IfOk-weaker c.visit_with.result _ _
    (λ v is. is ∙ whole_outs c.args.paths c.args.problem.now c.args.branch c.args.path.now c.requires.query c.requires.path (outs_of c.in_ok-outs.outs.items) c.in_ok-outs.ensures)
    c.visit_with.ensures
