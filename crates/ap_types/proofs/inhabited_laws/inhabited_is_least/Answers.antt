use Rattle.ap_types.proofs.LeastLemmas.{inhabited_least}
use Rattle.ap_types.proofs.LeastRuleLemmas.{inhabited_closed}
use Rattle.ap_types.proofs.inhabited_laws.inhabited_is_least.Goals as goal

pub returns-clause-closed : goal.returns-clause-closed
returns-clause-closed c = inhabited_closed

pub returns-clause-least : goal.returns-clause-least
returns-clause-least c = inhabited_least
