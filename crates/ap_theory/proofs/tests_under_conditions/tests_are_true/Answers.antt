use Rattle.ap_theory.proofs.TestLemmas.{alpha_under_iff, fresh_under_iff}
use Rattle.ap_theory.proofs.tests_under_conditions.tests_are_true.Goals as goal

pub returns-clause-fresh : goal.returns-clause-fresh
returns-clause-fresh c = fresh_under_iff

pub returns-clause-equal : goal.returns-clause-equal
returns-clause-equal c = alpha_under_iff
