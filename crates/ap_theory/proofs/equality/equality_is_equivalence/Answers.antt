use Rattle.ap_theory.proofs.EqualityLemmas.{Equal_itself, Equal_sym, Equal_trans}
use Rattle.ap_theory.proofs.equality.equality_is_equivalence.Goals as goal

pub returns-clause-reflexive : goal.returns-clause-reflexive
returns-clause-reflexive g c = Equal_itself g.D.Conditions.holds

pub returns-clause-symmetric : goal.returns-clause-symmetric
returns-clause-symmetric g c = Equal_sym g.D.Conditions.holds

pub returns-clause-transitive : goal.returns-clause-transitive
returns-clause-transitive g c = Equal_trans g.D.Conditions.holds
