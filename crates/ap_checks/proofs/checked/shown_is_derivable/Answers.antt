use Rattle.ap_checks.proofs.ShownCheckedLemmas.{derivable_shown}
use Rattle.ap_checks.proofs.checked.shown_is_derivable.Goals as goal

pub returns : goal.returns
returns c = derivable_shown
