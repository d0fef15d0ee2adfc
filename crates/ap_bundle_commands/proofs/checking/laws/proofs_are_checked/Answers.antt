use Rattle.ap_bundle_commands.proofs.AgainLemmas.{alike, proofs_again}
use Rattle.ap_bundle_commands.proofs.checking.laws.proofs_are_checked.Goals as goal

pub returns-clause-whole : goal.returns-clause-whole
returns-clause-whole c = proofs_again

pub returns-clause-alike : goal.returns-clause-alike
returns-clause-alike c = alike
