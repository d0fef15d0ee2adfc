use Rattle.std.proofs.Common.{sym}
use Rattle.ap_syntax.proofs.Applied.{atom_gives}
use Rattle.ap_syntax.proofs.GoalLaws.{atom_shorter}
use Rattle.ap_syntax.proofs.flat.atom.Goals as goal

pub returns-clause-value : goal.returns-clause-value
returns-clause-value c = atom_gives _ _ _ _ _ (sym c.in-Some.ensures.value) c.in_ok-args.ensures

pub returns-clause-shorter : goal.returns-clause-shorter
returns-clause-shorter c = atom_shorter c.args.symbols.now _ _ (atom_gives _ _ _ _ _ (sym c.in-Some.ensures.value) c.in_ok-args.ensures)
