use Rattle.ap_typecheck.proofs.Uniqueness.{program_one, first_one, never_both}
use Rattle.ap_typecheck.proofs.laws.check_has_one_answer.Goals as goal

pub returns-clause-program : goal.returns-clause-program
returns-clause-program c = program_one

pub returns-clause-fault : goal.returns-clause-fault
returns-clause-fault c = first_one

pub returns-clause-either : goal.returns-clause-either
returns-clause-either c = never_both
