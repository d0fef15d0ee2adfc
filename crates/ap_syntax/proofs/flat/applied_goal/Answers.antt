use Rattle.ap_trees.proofs.Lists.{gives_as}
use Rattle.ap_syntax.proofs.Applied.{with_parts}
use Rattle.ap_syntax.proofs.flat.applied_goal.Goals as goal

pub returns : goal.returns
returns c = gives_as _ c.goal_with.result _ _ c.goal_with.ensures (with_parts c.args.word.now _ _ _ c.in_ok-parts.ensures)
