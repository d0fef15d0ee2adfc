use Rattle.ap_ground.proofs.ProofActionLemmas.{height_act, proofs_equivariant}
use Rattle.ap_ground.proofs.ground_proofs.proofs_are_equivariant.Goals as goal

pub returns-clause-proofs : goal.returns-clause-proofs
returns-clause-proofs c = proofs_equivariant

pub returns-clause-height : goal.returns-clause-height
returns-clause-height c = height_act
