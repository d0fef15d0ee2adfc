use Rattle.ap_top.proofs.RunLemmas.{runs_same}
use Rattle.ap_top.proofs.laws.runs_are_the_same.Goals as goal

pub returns : goal.returns
returns c = runs_same
