use Rattle.ap_types.proofs.WitnessLemmas.{inhabited_has_terms}
use Rattle.ap_types.proofs.answers.inhabited_has_terms.Goals as goal

pub returns : goal.returns
returns c = inhabited_has_terms
