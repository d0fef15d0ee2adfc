use Rattle.ap_cover.proofs.CoverLemmas.{ground_covered}
use Rattle.ap_cover.proofs.laws.ground_proofs_are_covered.Goals as goal

pub returns : goal.returns
returns c = ground_covered
