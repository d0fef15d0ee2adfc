use Rattle.ap_theory.proofs.GroundLemmas.{alpha_act, fresh_act, fresh_alpha}
use Rattle.ap_theory.proofs.ground_terms.alpha_is_equivariant.Goals as goal

pub returns-clause-equal : goal.returns-clause-equal
returns-clause-equal c = alpha_act

pub returns-clause-fresh : goal.returns-clause-fresh
returns-clause-fresh c = fresh_act

pub returns-clause-kept : goal.returns-clause-kept
returns-clause-kept c = fresh_alpha
