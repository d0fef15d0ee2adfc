use Rattle.ap_ground.proofs.ShownLemmas.{shown_derivable, shown_typed}
use Rattle.ap_ground.proofs.shown_instances.shown_instances_are_derivable.Goals as goal

pub returns-clause-derivable : goal.returns-clause-derivable
returns-clause-derivable c = shown_derivable

pub returns-clause-typed : goal.returns-clause-typed
returns-clause-typed c = shown_typed
