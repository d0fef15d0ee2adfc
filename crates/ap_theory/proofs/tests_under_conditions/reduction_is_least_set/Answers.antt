use Rattle.ap_theory.proofs.UnderLemmas.{fresh_under_reduce}
use Rattle.ap_theory.proofs.tests_under_conditions.reduction_is_least_set.Goals as goal

pub returns : goal.returns
returns c = fresh_under_reduce
