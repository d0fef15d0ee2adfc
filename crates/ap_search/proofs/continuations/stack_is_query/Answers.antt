use Rattle.ap_search.proofs.ContinuationLemmas as lemmas
use Rattle.ap_search.proofs.continuations.stack_is_query.Goals as goal

pub returns : goal.returns
returns c = lemmas.stack_is_query
