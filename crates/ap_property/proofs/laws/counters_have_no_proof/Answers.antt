use Rattle.ap_property.proofs.CounterLemmas.{counters_refuted}
use Rattle.ap_property.proofs.laws.counters_have_no_proof.Goals as goal

pub returns : goal.returns
returns c = counters_refuted
