use Rattle.ap_theory.proofs.UnderLemmas.{alpha_under_act, fresh_under_act, fresh_under_alpha}
use Rattle.ap_theory.proofs.tests_under_conditions.alpha_under_is_equivariant.Goals as goal

pub returns-clause-equal : goal.returns-clause-equal
returns-clause-equal c = alpha_under_act

pub returns-clause-fresh : goal.returns-clause-fresh
returns-clause-fresh c = fresh_under_act

pub returns-clause-kept : goal.returns-clause-kept
returns-clause-kept c = fresh_under_alpha
