use Rattle.ap_theory.proofs.EqualityLemmas.{Equal_weaken, Fresh_weaken}
use Rattle.ap_theory.proofs.equality.more_conditions.Goals as goal

pub returns-clause-fresh : goal.returns-clause-fresh
returns-clause-fresh g c = Fresh_weaken g.D.Conditions.holds g.E.Conditions.holds

pub returns-clause-equal : goal.returns-clause-equal
returns-clause-equal g c = Equal_weaken g.D.Conditions.holds g.E.Conditions.holds
