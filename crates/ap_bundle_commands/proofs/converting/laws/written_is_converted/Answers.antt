use Rattle.ap_bundle_commands.proofs.ConvertLemmas.{back, checked, kept, there}
use Rattle.ap_bundle_commands.proofs.converting.laws.written_is_converted.Goals as goal

pub returns-clause-there : goal.returns-clause-there
returns-clause-there c = there

pub returns-clause-back : goal.returns-clause-back
returns-clause-back c = back

pub returns-clause-read : goal.returns-clause-read
returns-clause-read c = kept

pub returns-clause-checked : goal.returns-clause-checked
returns-clause-checked c = checked
