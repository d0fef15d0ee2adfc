use Rattle.ap_checks.proofs.TypeTestLemmas.{types_tested}
use Rattle.ap_checks.proofs.checked.types_are_tested.Goals as goal

pub returns : goal.returns
returns c = types_tested
