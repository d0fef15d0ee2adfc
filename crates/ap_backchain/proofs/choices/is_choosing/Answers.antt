use Rattle.std.proofs.Common.{refl}
use Rattle.ap_backchain.proofs.RunLemmas.{atom_chooses}
use Rattle.ap_backchain.proofs.choices.is_choosing.Goals as goal

pub returns-in-Atom-clause-choosing : goal.returns-in-Atom-clause-choosing
returns-in-Atom-clause-choosing c = λ t program. rw c.in-Atom.is (atom_chooses program c.args.frame.now.depth c.in-Atom.field-0 t)

pub returns-in-Either-clause-choosing : goal.returns-in-Either-clause-choosing
returns-in-Either-clause-choosing c = λ t program. rw c.in-Either.is (2, refl)
