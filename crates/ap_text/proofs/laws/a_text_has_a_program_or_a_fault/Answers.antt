use Rattle.ap_text.proofs.Texts.{program_one, fault_one, program_or_fault}
use Rattle.ap_text.proofs.laws.a_text_has_a_program_or_a_fault.Goals as goal

pub returns-clause-program : goal.returns-clause-program
returns-clause-program c = program_one

pub returns-clause-fault : goal.returns-clause-fault
returns-clause-fault c = fault_one

pub returns-clause-either : goal.returns-clause-either
returns-clause-either c = program_or_fault
