use Rattle.ap_checks.proofs.FoundCheckLemmas.{found_check}
use Rattle.ap_checks.proofs.checked.found_derivations_check.Goals as goal

pub returns : goal.returns
returns c = found_check
