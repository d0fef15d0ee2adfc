use Rattle.ap_trees.proofs.Lists.{gives_ok}
use Rattle.ap_syntax.proofs.GoalLaws.{goal_shorter}
use Rattle.ap_syntax.proofs.goals.goal.Goals as goal

pub returns-clause-shorter : goal.returns-clause-shorter
returns-clause-shorter c = gives_ok _ _ c.any_goal.result _ c.any_goal.ensures (λ x e. goal_shorter c.args.levels c.args.symbols.now _ _ e)
