use Rattle.ap_search.proofs.SameStateLemmas.{answer_same, answer_with_same, outs_same}
use Rattle.ap_search.proofs.equal_states.equal_states_have_one_answer.Goals as goal

pub returns-clause-one : goal.returns-clause-one
returns-clause-one c = answer_same

pub returns-clause-with : goal.returns-clause-with
returns-clause-with c = answer_with_same

pub returns-clause-lists : goal.returns-clause-lists
returns-clause-lists c = outs_same
