use Rattle.ap_search.proofs.DepthLemmas.{query_deeper, solve_deeper}
use Rattle.ap_search.proofs.depths.deeper_is_the_same.Goals as goal

pub returns-clause-goals : goal.returns-clause-goals
returns-clause-goals c = solve_deeper

pub returns-clause-queries : goal.returns-clause-queries
returns-clause-queries c = query_deeper
