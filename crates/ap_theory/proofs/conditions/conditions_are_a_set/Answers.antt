use Rattle.ap_theory.proofs.ConditionSetLemmas.{add_conds_same, has_cond_add_all}
use Rattle.ap_theory.proofs.conditions.conditions_are_a_set.Goals as goal

pub returns-clause-added : goal.returns-clause-added
returns-clause-added c = has_cond_add_all

pub returns-clause-set : goal.returns-clause-set
returns-clause-set c = add_conds_same
