use Rattle.ap_search.proofs.MarkLemmas.{marks_stack, stack_begins}
use Rattle.ap_search.proofs.TreeLemmas.{marked_stack_begins}
use Rattle.ap_search.proofs.paths.stacks_go_on.Goals as goal

pub returns-clause-outputs : goal.returns-clause-outputs
returns-clause-outputs c = stack_begins

pub returns-clause-marks : goal.returns-clause-marks
returns-clause-marks c = marked_stack_begins

pub returns-clause-among : goal.returns-clause-among
returns-clause-among c = marks_stack
