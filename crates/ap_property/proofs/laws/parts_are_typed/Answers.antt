use Rattle.ap_property.proofs.CounterLemmas.{conclusions_typed}
use Rattle.ap_property.proofs.SpineLemmas.{parts_typed}
use Rattle.ap_property.proofs.laws.parts_are_typed.Goals as goal

pub returns-clause-parts : goal.returns-clause-parts
returns-clause-parts c = parts_typed

pub returns-clause-put_in : goal.returns-clause-put_in
returns-clause-put_in c = conclusions_typed
