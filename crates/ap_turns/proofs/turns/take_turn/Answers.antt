use Rattle.std.proofs.Common.{◌≡◌, List, ap, ◌∙◌, sym, subst}
use Rattle.std.specs.Prelude.{IfOk, OnOk}
use Rattle.ap_defs.specs.Answers.{found}
use Rattle.ap_defs.specs.Goals.{program_in}
use Rattle.ap_defs.specs.Types.{locals_of}
use Rattle.ap_search.specs.Continuations.{Waiting}
use Rattle.ap_search.specs.Records.{Answering}
use Rattle.ap_turns.specs.Marks.{choice_of}
use Rattle.ap_machine.specs.Machines.{position_of, track_of}
use Rattle.ap_turns.specs.Turned.{turned_of}
use Rattle.ap_machine.specs.Positions.{Position, Turned, ends, turned, turned_by}
use Rattle.ap_machine.specs.Tracks.{GoesFrom, Track}
use Rattle.ap_machine.specs.Unbound.{answer_by_unbound}
use Rattle.ap_machine.proofs.TrackLemmas.{goes_same}
use Rattle.ap_turns.proofs.turns.take_turn.Goals as goal

pub turn_of_goal-requires-clause-goal : goal.turn_of_goal-requires-clause-goal
turn_of_goal-requires-clause-goal c = c.in-Some.ensures.some.1

pub turn_of_goal-requires-clause-settled : goal.turn_of_goal-requires-clause-settled
turn_of_goal-requires-clause-settled c =
    let program = program_in c.args.clauses.now in
    sym (ap (λ (p : Position). choice_of program p.waiting) c.in-Some.ensures.some.0) ∙ c.requires.settled

pub returns-in-Some-clause-turned : goal.returns-in-Some-clause-turned
returns-in-Some-clause-turned c =
    let program = program_in c.args.clauses.now in let answering = answer_by_unbound (locals_of c.args.locals.now) in
    let q = position_of c.turn_of_goal.new.machine in
    subst (λ (t : Turned). IfOk c.turn_of_goal.result (λ r. turned_of r q ≡ t)) (sym (ap (turned program answering) c.in-Some.ensures.some.0)) c.turn_of_goal.ensures.turned

pub returns-in-Some-clause-goes : goal.returns-in-Some-clause-goes
returns-in-Some-clause-goes c =
    let u = track_of c.turn_of_goal.new.machine in
    subst (λ (t : Track). OnOk c.turn_of_goal.result (GoesFrom t u)) c.pop_goal.ensures.track c.turn_of_goal.ensures.goes

pub returns-in_ok-end-in-None-clause-turned : goal.returns-in_ok-end-in-None-clause-turned
returns-in_ok-end-in-None-clause-turned c =
    let program = program_in c.args.clauses.now in let answering = answer_by_unbound (locals_of c.args.locals.now) in
    let p = position_of c.args.machine.now in
    ap ends c.in_ok-end-in-None.ensures
    ∙ ap (λ (f : Answering). ends (found (position_of c.pop_goal.new.self).path (f (position_of c.pop_goal.new.self).state (position_of c.pop_goal.new.self).brought))) c.in_ok-asked-in-None.ensures
    ∙ ap (λ (r : Position). ends (found r.path (answering r.state r.brought))) c.in-None.ensures.none.1
    ∙ sym (ap (λ (ws : List Waiting). turned_by program answering ws p) c.in-None.ensures.none.0)

pub returns-in_ok-end-in-None-clause-goes : goal.returns-in_ok-end-in-None-clause-goes
returns-in_ok-end-in-None-clause-goes c = goes_same (track_of c.args.machine.now) (track_of c.pop_goal.new.self) c.pop_goal.ensures.track
