use Rattle.ap_theory.proofs.DecisionLemmas.{Equal_decided, Fresh_decided}
use Rattle.ap_theory.proofs.equality.decided_conditions.Goals as goal

pub returns-clause-fresh : goal.returns-clause-fresh
returns-clause-fresh g c = Fresh_decided g.D.Conditions.holds

pub returns-clause-equal : goal.returns-clause-equal
returns-clause-equal g c = Equal_decided g.D.Conditions.holds
