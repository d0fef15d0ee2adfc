use Rattle.ap_verdicts.proofs.SoundnessLemmas.{checked_sound}
use Rattle.ap_verdicts.proofs.laws.what_checks_is_sound.Goals as goal

pub returns : goal.returns
returns c = checked_sound
