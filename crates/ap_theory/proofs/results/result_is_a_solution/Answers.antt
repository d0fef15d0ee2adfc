use Rattle.ap_theory.proofs.OpenSoundnessLemmas.{unify_equal_all, unify_fresh_all}
use Rattle.ap_theory.proofs.RefusalLemmas.{unify_set}
use Rattle.ap_theory.proofs.results.result_is_a_solution.Goals as goal

pub returns-clause-equates : goal.returns-clause-equates
returns-clause-equates c = unify_equal_all

pub returns-clause-meets : goal.returns-clause-meets
returns-clause-meets c = unify_fresh_all

pub returns-clause-set : goal.returns-clause-set
returns-clause-set c = unify_set
