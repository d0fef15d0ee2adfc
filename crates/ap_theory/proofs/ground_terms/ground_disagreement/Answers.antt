use Rattle.ap_theory.proofs.GroundLemmas.{alpha_act_act, alpha_swap_fresh}
use Rattle.ap_theory.proofs.ground_terms.ground_disagreement.Goals as goal

pub returns-clause-differ : goal.returns-clause-differ
returns-clause-differ c = alpha_act_act

pub returns-clause-swap : goal.returns-clause-swap
returns-clause-swap c = alpha_swap_fresh
