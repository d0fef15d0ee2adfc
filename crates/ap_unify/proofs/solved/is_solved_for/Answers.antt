use Rattle.ap_unify.proofs.solved.is_solved_for.Goals as goal

pub returns-in_ok-note-clause-solved : goal.returns-in_ok-note-clause-solved
returns-in_ok-note-clause-solved c = λ r k b. c.in_ok-note.ensures r (c.is_turn.ensures.solved r k) b

pub returns-else-is_turn-clause-solved : goal.returns-else-is_turn-clause-solved
returns-else-is_turn-clause-solved c = λ r k b. c.is_turn.ensures.solved r k
