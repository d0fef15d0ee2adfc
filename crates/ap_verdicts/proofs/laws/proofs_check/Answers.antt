use Rattle.ap_verdicts.proofs.SoundnessLemmas.{proofs_check}
use Rattle.ap_verdicts.proofs.laws.proofs_check.Goals as goal

pub returns : goal.returns
returns c = proofs_check
