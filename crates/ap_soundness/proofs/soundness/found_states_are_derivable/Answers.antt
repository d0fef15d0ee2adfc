use Rattle.ap_soundness.proofs.QueryLemmas.{found_derivable}
use Rattle.ap_soundness.proofs.soundness.found_states_are_derivable.Goals as goal

pub returns : goal.returns
returns c = found_derivable
