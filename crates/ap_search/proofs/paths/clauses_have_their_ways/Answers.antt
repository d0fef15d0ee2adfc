use Rattle.ap_search.proofs.ChoiceLemmas.{clause_at}
use Rattle.ap_search.proofs.paths.clauses_have_their_ways.Goals as goal

pub returns : goal.returns
returns c = clause_at
