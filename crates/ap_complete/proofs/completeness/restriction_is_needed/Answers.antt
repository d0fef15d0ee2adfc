use Rattle.ap_complete.proofs.LostProofs.{restriction_needed}
use Rattle.ap_complete.proofs.completeness.restriction_is_needed.Goals as goal

pub returns : goal.returns
returns c = restriction_needed
