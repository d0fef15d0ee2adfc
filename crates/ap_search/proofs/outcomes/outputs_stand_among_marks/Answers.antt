use Rattle.ap_search.proofs.OutcomeLemmas.{outputs_among}
use Rattle.ap_search.proofs.outcomes.outputs_stand_among_marks.Goals as goal

pub returns : goal.returns
returns c = outputs_among
