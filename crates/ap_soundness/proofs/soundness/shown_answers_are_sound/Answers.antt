use Rattle.ap_soundness.proofs.AnswerLemmas.{shown_sound}
use Rattle.ap_soundness.proofs.soundness.shown_answers_are_sound.Goals as goal

pub returns : goal.returns
returns c = shown_sound
