use Rattle.ap_complete.proofs.RestrictionLemmas.{clause_names_fresh}
use Rattle.ap_complete.proofs.freshness.clause_names_are_fresh.Goals as goal

pub returns : goal.returns
returns c = clause_names_fresh
