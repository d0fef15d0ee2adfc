use Rattle.ap_search.proofs.SameStateLemmas.{calls_respect, outputs_same, solve_same}
use Rattle.ap_search.proofs.equal_states.search_respects_equal_states.Goals as goal

pub returns-clause-outputs : goal.returns-clause-outputs
returns-clause-outputs c = λ call respects g h s r i e. outputs_same call respects i s r e

pub returns-clause-calls : goal.returns-clause-calls
returns-clause-calls c = calls_respect

pub returns-clause-search : goal.returns-clause-search
returns-clause-search c = solve_same
