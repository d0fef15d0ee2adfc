use Rattle.ap_soundness.proofs.AnswerLemmas.{answers_sound, answers_typed_sound}
use Rattle.ap_soundness.proofs.soundness.answers_are_sound.Goals as goal

pub returns-clause-derivable : goal.returns-clause-derivable
returns-clause-derivable c = answers_sound

pub returns-clause-typed : goal.returns-clause-typed
returns-clause-typed c = answers_typed_sound
