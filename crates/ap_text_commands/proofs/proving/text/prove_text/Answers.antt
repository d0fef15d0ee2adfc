use Rattle.ap_text_commands.proofs.SoundProofs.{sound_proofs}
use Rattle.ap_text_commands.proofs.proving.text.prove_text.Goals as goal

pub returns-clause-sound : goal.returns-clause-sound
returns-clause-sound g c = sound_proofs c.args.depth c.args.limit c.args.text.now
