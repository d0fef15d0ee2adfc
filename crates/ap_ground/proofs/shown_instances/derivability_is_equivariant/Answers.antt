use Rattle.ap_ground.proofs.DerivabilityLemmas.{derivable_act}
use Rattle.ap_ground.proofs.shown_instances.derivability_is_equivariant.Goals as goal

pub returns : goal.returns
returns c = derivable_act
