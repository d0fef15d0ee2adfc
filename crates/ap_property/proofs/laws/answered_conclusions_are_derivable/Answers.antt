use Rattle.ap_property.proofs.HeldLemmas.{answered_derivable}
use Rattle.ap_property.proofs.laws.answered_conclusions_are_derivable.Goals as goal

pub returns : goal.returns
returns c = answered_derivable
