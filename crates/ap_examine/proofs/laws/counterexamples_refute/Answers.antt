use Rattle.ap_examine.proofs.RefutingLemmas.{counters_refute}
use Rattle.ap_examine.proofs.laws.counterexamples_refute.Goals as goal

pub returns : goal.returns
returns c = counters_refute
