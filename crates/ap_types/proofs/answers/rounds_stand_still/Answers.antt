use Rattle.ap_types.proofs.StillLemmas.{inhabited_stands_still, holding_stands_still}
use Rattle.ap_types.proofs.answers.rounds_stand_still.Goals as goal

pub returns-clause-inhabited : goal.returns-clause-inhabited
returns-clause-inhabited c = inhabited_stands_still

pub returns-clause-holding : goal.returns-clause-holding
returns-clause-holding c = holding_stands_still
