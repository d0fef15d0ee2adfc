use Rattle.ap_machine.proofs.SetLemmas.{sorted_set}
use Rattle.ap_machine.proofs.vars.make_ascending.Goals as goal

pub returns : goal.returns
returns c = sorted_set _ _ _ c.sort_unstable.ensures.permutation c.sort_unstable.ensures.sorted c.dedup.ensures.filtered
