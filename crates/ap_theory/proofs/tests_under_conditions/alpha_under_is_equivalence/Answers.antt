use Rattle.ap_theory.proofs.UnderLemmas.{alpha_under_itself, alpha_under_same, alpha_under_sym, alpha_under_trans}
use Rattle.ap_theory.proofs.tests_under_conditions.alpha_under_is_equivalence.Goals as goal

pub returns-clause-reflexive : goal.returns-clause-reflexive
returns-clause-reflexive c = alpha_under_itself

pub returns-clause-symmetric : goal.returns-clause-symmetric
returns-clause-symmetric c = alpha_under_sym

pub returns-clause-transitive : goal.returns-clause-transitive
returns-clause-transitive c = alpha_under_trans

pub returns-clause-same : goal.returns-clause-same
returns-clause-same c = alpha_under_same
