use Rattle.ap_theory.proofs.EqualityLemmas.{Equal_equivariant, Equal_move, Equal_same_both, Fresh_both}
use Rattle.ap_theory.proofs.equality.equality_is_equivariant.Goals as goal

pub returns-clause-both : goal.returns-clause-both
returns-clause-both g c = Equal_equivariant g.D.Conditions.holds

pub returns-clause-across : goal.returns-clause-across
returns-clause-across g c = Equal_move g.D.Conditions.holds

pub returns-clause-same : goal.returns-clause-same
returns-clause-same g c = Equal_same_both g.D.Conditions.holds

pub returns-clause-fresh : goal.returns-clause-fresh
returns-clause-fresh g c = Fresh_both g.D.Conditions.holds
