use Rattle.ap_theory.proofs.UnderLemmas.{alpha_under_disagreement, alpha_under_swap_fresh}
use Rattle.ap_theory.proofs.tests_under_conditions.disagreement_under_conditions.Goals as goal

pub returns-clause-differ : goal.returns-clause-differ
returns-clause-differ c = alpha_under_disagreement

pub returns-clause-swap : goal.returns-clause-swap
returns-clause-swap c = alpha_under_swap_fresh
