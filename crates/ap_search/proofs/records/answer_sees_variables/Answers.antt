use Rattle.ap_search.proofs.RecordLemmas.{answer_by_set, answer_by_vars}
use Rattle.ap_search.proofs.records.answer_sees_variables.Goals as goal

pub returns-clause-derivation : goal.returns-clause-derivation
returns-clause-derivation c = answer_by_vars

pub returns-clause-set : goal.returns-clause-set
returns-clause-set c = answer_by_set
