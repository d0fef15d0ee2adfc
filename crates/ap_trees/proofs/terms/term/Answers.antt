use Rattle.ap_trees.proofs.Lists.{gives_ok}
use Rattle.ap_trees.proofs.TermLaws.{term_shorter}
use Rattle.ap_trees.proofs.terms.term.Goals as goal

pub returns-clause-shorter : goal.returns-clause-shorter
returns-clause-shorter c = gives_ok _ _ c.any_term.result _ c.any_term.ensures (λ x e. term_shorter c.args.levels c.args.symbols.now _ _ e)
