use Rattle.ap_theory.proofs.ReductionLemmas.{Fresh_reduce, Fresh_reduce_variables}
use Rattle.ap_theory.proofs.conditions.reduction_is_least.Goals as goal

pub returns-clause-under : goal.returns-clause-under
returns-clause-under g c = Fresh_reduce g.D.Conditions.holds

pub returns-clause-least : goal.returns-clause-least
returns-clause-least g c = Fresh_reduce_variables g.D.Conditions.holds
