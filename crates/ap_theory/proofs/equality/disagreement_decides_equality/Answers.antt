use Rattle.ap_theory.proofs.EqualityLemmas.{Equal_act_act, Equal_swap_fresh}
use Rattle.ap_theory.proofs.equality.disagreement_decides_equality.Goals as goal

pub returns-clause-differ : goal.returns-clause-differ
returns-clause-differ g c = Equal_act_act g.D.Conditions.holds

pub returns-clause-swap : goal.returns-clause-swap
returns-clause-swap g c = Equal_swap_fresh g.D.Conditions.holds
