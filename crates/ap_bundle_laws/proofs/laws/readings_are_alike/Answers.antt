use Rattle.ap_bundle_laws.proofs.CitedLemmas.{read_alike}
use Rattle.ap_bundle_laws.proofs.laws.readings_are_alike.Goals as goal

pub returns : goal.returns
returns c = read_alike
