use Rattle.ap_checks.proofs.CheckedLemmas.{checked_derivable}
use Rattle.ap_checks.proofs.ShownCheckedLemmas.{checked_shown}
use Rattle.ap_checks.proofs.checked.checked_is_derivable.Goals as goal

pub returns-clause-derivable : goal.returns-clause-derivable
returns-clause-derivable c = checked_derivable

pub returns-clause-shown : goal.returns-clause-shown
returns-clause-shown c = checked_shown
