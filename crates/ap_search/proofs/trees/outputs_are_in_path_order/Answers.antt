use Rattle.ap_search.proofs.QueryTreeLemmas.{query_in_order, query_one_mark}
use Rattle.ap_search.proofs.trees.outputs_are_in_path_order.Goals as goal

pub returns-clause-order : goal.returns-clause-order
returns-clause-order c = query_in_order

pub returns-clause-one : goal.returns-clause-one
returns-clause-one c = query_one_mark
