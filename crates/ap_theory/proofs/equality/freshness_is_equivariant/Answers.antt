use Rattle.ap_theory.proofs.EqualityLemmas.{Fresh_equivariant, Fresh_moved, Fresh_same_both}
use Rattle.ap_theory.proofs.equality.freshness_is_equivariant.Goals as goal

pub returns-clause-both : goal.returns-clause-both
returns-clause-both g c = Fresh_equivariant g.D.Conditions.holds

pub returns-clause-moved : goal.returns-clause-moved
returns-clause-moved g c = Fresh_moved g.D.Conditions.holds

pub returns-clause-same : goal.returns-clause-same
returns-clause-same g c = Fresh_same_both g.D.Conditions.holds
