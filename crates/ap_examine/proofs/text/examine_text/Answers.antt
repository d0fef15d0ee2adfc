use Rattle.ap_examine.proofs.RefutingLemmas.{text_sound}
use Rattle.ap_examine.proofs.text.examine_text.Goals as goal

pub returns-clause-sound : goal.returns-clause-sound
returns-clause-sound g c = text_sound c.args.depth c.args.text.now
