use Rattle.ap_ground.proofs.GroundTypingLemmas.{of_type_act}
use Rattle.ap_ground.proofs.typed_terms.types_are_equivariant.Goals as goal

pub returns : goal.returns
returns c = of_type_act
