use Rattle.ap_types.proofs.TermLemmas.{having_terms}
use Rattle.ap_types.proofs.inhabited_laws.inhabited_has_terms.Goals as goal

pub returns : goal.returns
returns c = having_terms
