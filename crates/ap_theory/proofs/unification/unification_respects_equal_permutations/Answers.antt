use Rattle.ap_theory.proofs.SameUnificationLemmas.{unify_alike, unify_same}
use Rattle.ap_theory.proofs.unification.unification_respects_equal_permutations.Goals as goal

pub returns-clause-same : goal.returns-clause-same
returns-clause-same c = λ r s ds ts us vs ws b h k. unify_same b ds h k

pub returns-clause-order : goal.returns-clause-order
returns-clause-order c = unify_alike
