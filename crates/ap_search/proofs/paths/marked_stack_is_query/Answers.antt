use Rattle.ap_search.proofs.ContinuationLemmas as lemmas
use Rattle.ap_search.proofs.paths.marked_stack_is_query.Goals as goal

pub returns : goal.returns
returns c = lemmas.marked_stack_is_query
