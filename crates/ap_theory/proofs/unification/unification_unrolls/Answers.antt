use Rattle.ap_theory.proofs.TerminationLemmas.{ending_done, ending_failed, ending_next}
use Rattle.ap_theory.proofs.unification.unification_unrolls.Goals as goal

pub returns-clause-after : goal.returns-clause-after
returns-clause-after c = ending_next

pub returns-clause-failure : goal.returns-clause-failure
returns-clause-failure c = ending_failed

pub returns-clause-finished : goal.returns-clause-finished
returns-clause-finished c = ending_done
