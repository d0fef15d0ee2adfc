use Rattle.ap_search.proofs.TypedAnswerLemmas.{answers_typed}
use Rattle.ap_search.proofs.TypedBelowLemmas.{query_binds}
use Rattle.ap_search.proofs.TypedStateLemmas.{query_states_typed}
use Rattle.ap_search.proofs.types.answers_are_typed.Goals as goal

pub returns-clause-states : goal.returns-clause-states
returns-clause-states c = query_states_typed

pub returns-clause-answers : goal.returns-clause-answers
returns-clause-answers c = answers_typed

pub returns-clause-bindings : goal.returns-clause-bindings
returns-clause-bindings c = query_binds
