use Rattle.std.proofs.Common.{ap, ◌∙◌}
use Rattle.std.proofs.lemmas.Result.{IfOk-weaker}
use Rattle.ap_defs.specs.Answers.{outs_of}
use Rattle.ap_paths.specs.Entries as entries
use Rattle.ap_replay.proofs.ReplayLemmas.{planned_end, planned_few, planned_many}
use Rattle.ap_replay.proofs.problem_tree.visit_branch.Goals as goal

-- it is at no choice
pub returns-in_default : goal.returns-in_default
returns-in_default c =
    IfOk-weaker c.visit_with.result _ _
    (λ v is. is ∙ planned_end c.args.most c.args.paths c.args.problem.now c.args.branch c.node.result.now c.args.path.now c.requires.query c.requires.of c.requires.path c.node.ensures.exact
    c.in_ok-kids.field-0 (outs_of c.in_ok-outs.outs.items) c.in_default.is c.in_ok-kids.ensures c.in_ok-outs.ensures)
    c.visit_with.ensures

-- few choices are made
pub returns-in-Some-2 : goal.returns-in-Some-2
returns-in-Some-2 c =
    IfOk-weaker c.visit_with-in-Some-2.result _ _
    (λ v is. is ∙ planned_few c.args.most c.args.paths c.args.problem.now c.args.branch c.node.result.now c.args.path.now c.requires.query c.requires.of c.requires.path c.node.ensures.exact
    (outs_of c.in-Some-2.outs.items) (rw c.in-Some-2.is at c.in_ok-outs-2.ensures.outs) (rw c.in-Some-2.is at c.in_ok-outs-2.ensures.few))
    c.visit_with-in-Some-2.ensures

-- and more
pub returns-in-None : goal.returns-in-None
returns-in-None c =
    ap entries.kids c.of.ensures
    ∙ planned_many c.args.most c.args.paths c.args.problem.now c.args.branch c.node.result.now c.args.path.now c.requires.query c.requires.of c.requires.path c.node.ensures.exact
    c.in_ok-kids.field-0 c.in-Some.kids c.in-Some.is c.in_ok-kids.ensures (c.in_ok-outs-2.ensures.many c.in-None.is)
