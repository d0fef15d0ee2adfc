use Rattle.ap_trees.proofs.Lists.{gives_ok}
use Rattle.ap_trees.proofs.TypeLaws.{type_shorter}
use Rattle.ap_trees.proofs.types.type_tree.Goals as goal

pub returns-clause-shorter : goal.returns-clause-shorter
returns-clause-shorter c = gives_ok _ _ c.any_type.result _ c.any_type.ensures (λ x e. type_shorter c.args.levels c.args.symbols.now _ _ e)
