use Rattle.ap_typecheck.proofs.TypedPrograms.{program_typed}
use Rattle.ap_typecheck.proofs.Counting.{program_count}
use Rattle.ap_typecheck.proofs.laws.programs_are_typed.Goals as goal

pub returns-clause-typed : goal.returns-clause-typed
returns-clause-typed c = program_typed

pub returns-clause-small : goal.returns-clause-small
returns-clause-small c = program_count
