use Rattle.ap_theory.proofs.GroundingLemmas.{alpha_under_sound, fresh_reduce, fresh_under_sound, meets_add_all}
use Rattle.ap_theory.proofs.groundings.grounding_meets_conditions.Goals as goal

pub returns-clause-reduced : goal.returns-clause-reduced
returns-clause-reduced c = fresh_reduce

pub returns-clause-added : goal.returns-clause-added
returns-clause-added c = meets_add_all

pub returns-clause-fresh : goal.returns-clause-fresh
returns-clause-fresh c = fresh_under_sound

pub returns-clause-equal : goal.returns-clause-equal
returns-clause-equal c = alpha_under_sound
