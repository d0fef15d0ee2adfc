use Rattle.std.proofs.Common.{rules}
use Rattle.ap_turns.proofs.kept.kept_of_frame.Goals as goal

pub returns-in-Atom : goal.returns-in-Atom
returns-in-Atom c = search rules
