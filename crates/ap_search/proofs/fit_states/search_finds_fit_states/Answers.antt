use Rattle.ap_search.proofs.FitStateLemmas.{query_fits, solve_fits}
use Rattle.ap_search.proofs.fit_states.search_finds_fit_states.Goals as goal

pub returns-clause-search : goal.returns-clause-search
returns-clause-search c = solve_fits

pub returns-clause-query : goal.returns-clause-query
returns-clause-query c = query_fits
