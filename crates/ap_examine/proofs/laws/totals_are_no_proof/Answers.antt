use Rattle.ap_examine.proofs.ClearanceLemmas.{clear_no_proof}
use Rattle.ap_examine.proofs.SayingLemmas.{clear_says}
use Rattle.ap_examine.proofs.laws.totals_are_no_proof.Goals as goal

pub returns-clause-says : goal.returns-clause-says
returns-clause-says c = clear_says

pub returns-clause-no_proof : goal.returns-clause-no_proof
returns-clause-no_proof c = clear_no_proof
