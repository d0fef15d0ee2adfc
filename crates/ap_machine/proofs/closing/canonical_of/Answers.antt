use Rattle.std.proofs.Common.{rules}
use Rattle.ap_machine.proofs.ClosedLemmas.{canonical_empty}
use Rattle.ap_machine.proofs.closing.canonical_of.Goals as goal

pub returns-then-is_empty : goal.returns-then-is_empty
returns-then-is_empty c = canonical_empty c.args.swaps.items (search rules)
