use Rattle.ap_complete.proofs.CompletenessLemmas.{outputs_stand_alone}
use Rattle.ap_complete.proofs.CoveringLemmas.{proofs_covered}
use Rattle.ap_complete.proofs.ExchangeLemmas.{each_exchange_covers}
use Rattle.ap_complete.proofs.completeness.proofs_are_covered.Goals as goal

pub returns-clause-covered : goal.returns-clause-covered
returns-clause-covered c = proofs_covered

pub returns-clause-each : goal.returns-clause-each
returns-clause-each c = each_exchange_covers

pub returns-clause-alone : goal.returns-clause-alone
returns-clause-alone c = outputs_stand_alone
