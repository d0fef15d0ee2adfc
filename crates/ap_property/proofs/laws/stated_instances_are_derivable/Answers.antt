use Rattle.ap_property.proofs.StatedLemmas.{answers_have_types, stated_instances_derivable, stated_instances_fit}
use Rattle.ap_property.proofs.laws.stated_instances_are_derivable.Goals as goal

pub returns-clause-exist : goal.returns-clause-exist
returns-clause-exist c = answers_have_types

pub returns-clause-fit : goal.returns-clause-fit
returns-clause-fit c = stated_instances_fit

pub returns-clause-derivable : goal.returns-clause-derivable
returns-clause-derivable c = stated_instances_derivable
