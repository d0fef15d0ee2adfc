use Rattle.ap_verdicts.proofs.SoundnessLemmas.{none_refused}
use Rattle.ap_verdicts.proofs.laws.none_is_refused.Goals as goal

pub returns : goal.returns
returns c = none_refused
