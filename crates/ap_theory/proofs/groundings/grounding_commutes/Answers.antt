use Rattle.ap_theory.proofs.GroundingLemmas.{grounded_act, under_alpha}
use Rattle.ap_theory.proofs.groundings.grounding_commutes.Goals as goal

pub returns-clause-permutations : goal.returns-clause-permutations
returns-clause-permutations c = grounded_act

pub returns-clause-bindings : goal.returns-clause-bindings
returns-clause-bindings c = under_alpha
