use Rattle.ap_ground.proofs.InstanceTypingLemmas.{grounded_each_typed, grounded_typed}
use Rattle.ap_ground.proofs.typed_terms.instances_have_types.Goals as goal

pub returns-clause-term : goal.returns-clause-term
returns-clause-term c = grounded_typed

pub returns-clause-terms : goal.returns-clause-terms
returns-clause-terms c = grounded_each_typed
