use Rattle.ap_checks.proofs.TraceLemmas.{paths_lead}
use Rattle.ap_checks.proofs.paths.paths_lead_to_found_states.Goals as goal

pub returns : goal.returns
returns c = paths_lead
