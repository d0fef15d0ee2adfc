use Rattle.ap_ground.proofs.InstanceTypingLemmas.{inhabited_avoids}
use Rattle.ap_ground.proofs.typed_terms.inhabited_avoids_names.Goals as goal

pub returns : goal.returns
returns c = inhabited_avoids
