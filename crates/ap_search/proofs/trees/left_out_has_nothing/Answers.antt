use Rattle.ap_search.proofs.QueryTreeLemmas.{query_kids, query_left_out}
use Rattle.ap_search.proofs.trees.left_out_has_nothing.Goals as goal

pub returns-clause-nothing : goal.returns-clause-nothing
returns-clause-nothing c = query_left_out

pub returns-clause-kids : goal.returns-clause-kids
returns-clause-kids c = query_kids
