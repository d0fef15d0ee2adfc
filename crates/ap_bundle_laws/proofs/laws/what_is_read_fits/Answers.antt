use Rattle.ap_bundle_laws.proofs.RangedLemmas.{reading_fits}
use Rattle.ap_bundle_laws.proofs.laws.what_is_read_fits.Goals as goal

pub returns : goal.returns
returns c = reading_fits
