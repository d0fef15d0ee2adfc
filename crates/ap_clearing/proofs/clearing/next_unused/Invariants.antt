-- The names that were looked at are used.
use Rattle.ap_clearing.specs.Clearing.{AreUsedBelow}
use Rattle.ap_clearing.proofs.clearing.next_unused.Given as goal

abbrev pub invariant-looking : goal.invariant-looking
invariant-looking l = AreUsedBelow l.names.keys l.sort l.num
