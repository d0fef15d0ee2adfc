use Rattle.ap_theory.proofs.GroundLemmas.{alpha_itself, alpha_sym, alpha_trans}
use Rattle.ap_theory.proofs.ground_terms.alpha_is_equivalence.Goals as goal

pub returns-clause-reflexive : goal.returns-clause-reflexive
returns-clause-reflexive c = alpha_itself

pub returns-clause-symmetric : goal.returns-clause-symmetric
returns-clause-symmetric c = alpha_sym

pub returns-clause-transitive : goal.returns-clause-transitive
returns-clause-transitive c = alpha_trans
