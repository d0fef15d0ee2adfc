use Rattle.ap_examine.proofs.HeldLemmas.{held_derivable}
use Rattle.ap_examine.proofs.laws.held_is_derivable.Goals as goal

pub returns : goal.returns
returns c = held_derivable
