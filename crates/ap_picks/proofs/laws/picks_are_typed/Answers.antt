use Rattle.ap_picks.proofs.PickLemmas.{picks_typed}
use Rattle.ap_picks.proofs.laws.picks_are_typed.Goals as goal

pub returns : goal.returns
returns c = picks_typed
