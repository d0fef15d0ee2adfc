use Rattle.ap_complete.proofs.RenamedProofLemmas.{proofs_renamed}
use Rattle.ap_complete.proofs.renaming.proofs_are_renamed.Goals as goal

pub returns : goal.returns
returns c = proofs_renamed
