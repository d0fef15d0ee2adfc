use Rattle.ap_types.proofs.TermLemmas.{free_names_held, having_names, may_be_empty}
use Rattle.ap_types.proofs.inhabited_laws.holding_has_names.Goals as goal

pub returns-clause-free : goal.returns-clause-free
returns-clause-free c = free_names_held

pub returns-clause-exact : goal.returns-clause-exact
returns-clause-exact c = having_names

pub returns-clause-premise : goal.returns-clause-premise
returns-clause-premise c = may_be_empty
