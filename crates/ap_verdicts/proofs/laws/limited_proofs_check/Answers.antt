use Rattle.ap_verdicts.proofs.LimitedLemmas.{limited_check}
use Rattle.ap_verdicts.proofs.laws.limited_proofs_check.Goals as goal

pub returns : goal.returns
returns c = limited_check
