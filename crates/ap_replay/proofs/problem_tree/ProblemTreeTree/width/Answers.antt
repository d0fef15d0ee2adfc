use Rattle.std.proofs.Common.{subst}
use Rattle.ap_defs.specs.declared.paths.Node.{Node}
use Rattle.ap_replay.proofs.ReplayLemmas.{ExactNode, width_there}
use Rattle.ap_replay.proofs.problem_tree.ProblemTreeTree.width.Goals as goal

pub returns-in-Choice : goal.returns-in-Choice
returns-in-Choice c =
    let b = c.in_ok-branch.branch in
    width_there c.args.self.now.problem b c.args.path.now c.in-Choice.width c.in-Choice.field-1 c.args.self.now.query c.in_ok-branch.ensures.of c.in_ok-branch.ensures.path
    (subst (λ (n : Node). ExactNode b n) c.in-Choice.is c.node.ensures.exact)
