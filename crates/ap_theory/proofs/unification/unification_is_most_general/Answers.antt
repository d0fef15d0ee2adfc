use Rattle.ap_theory.proofs.GroundingLemmas.{unify_instances}
use Rattle.ap_theory.proofs.unification.unification_is_most_general.Goals as goal

pub returns : goal.returns
returns c = unify_instances
