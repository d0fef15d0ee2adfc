use Rattle.ap_machine.proofs.TrackLemmas.{goes_trans}
use Rattle.ap_turns.proofs.turns.turn_of_exists.Goals as goal

pub returns-clause-goes : goal.returns-clause-goes
returns-clause-goes c = goes_trans _ _ _ c.in_ok-push_var.ensures.goes c.in_ok-push_goal.ensures.goes
