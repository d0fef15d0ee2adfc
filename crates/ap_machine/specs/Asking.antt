-- What is answered in a state that was found: all that there is to be seen, or bindings and conditions alone.
use Rattle.std.specs.Prelude.{if◌then◌else◌, List, []}
use Rattle.ap_defs.specs.Answers.{binds_in}
use Rattle.ap_defs.specs.Types.{NominalLocal, locals_of}
use Rattle.ap_search.specs.Records.{Answering}
use Rattle.ap_machine.specs.Unbound.{answer_by_unbound}
use Rattle.ap_machine.specs.declared.asked.Asked.{Asked}

-- whatever was brought
abbrev pub answer_alone : List NominalLocal → Answering
answer_alone locals s xs = record { binds = binds_in locals s; conds = s.conditions; vars = [] }

abbrev pub answering_of : Asked → Answering
answering_of a = if a.is_alone then answer_alone (locals_of a.locals.now) else answer_by_unbound (locals_of a.locals.now)
