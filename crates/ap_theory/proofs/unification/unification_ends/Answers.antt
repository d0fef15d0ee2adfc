use Rattle.ap_theory.proofs.TerminationLemmas.{ending_any, ending_bound, ending_finished}
use Rattle.ap_theory.proofs.unification.unification_ends.Goals as goal

pub returns-clause-ends : goal.returns-clause-ends
returns-clause-ends c = ending_finished

pub returns-clause-more : goal.returns-clause-more
returns-clause-more c = ending_bound

pub returns-clause-any : goal.returns-clause-any
returns-clause-any c = ending_any
