use Rattle.ap_types.proofs.LeastLemmas.{holding_least}
use Rattle.ap_types.proofs.LeastRuleLemmas.{holding_closed}
use Rattle.ap_types.proofs.inhabited_laws.holding_is_least.Goals as goal

pub returns-clause-closed : goal.returns-clause-closed
returns-clause-closed c = holding_closed

pub returns-clause-least : goal.returns-clause-least
returns-clause-least c = holding_least
