use Rattle.ap_ground.proofs.EnvironmentLemmas.{instance_agrees}
use Rattle.ap_ground.proofs.FreeIdentifierLemmas.{proofs_see_free}
use Rattle.ap_ground.proofs.ground_proofs.proofs_see_free_identifiers.Goals as goal

pub returns-clause-instances : goal.returns-clause-instances
returns-clause-instances c = instance_agrees

pub returns-clause-proofs : goal.returns-clause-proofs
returns-clause-proofs c = proofs_see_free
