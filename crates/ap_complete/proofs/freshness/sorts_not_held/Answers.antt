use Rattle.ap_complete.proofs.HeldSortLemmas.{sorts_not_held_fresh}
use Rattle.ap_complete.proofs.freshness.sorts_not_held.Goals as goal

pub returns : goal.returns
returns c = sorts_not_held_fresh
