use Rattle.std.proofs.Common.{◌≡◌, List, [], ◌∷◌, ◌++◌, map, ap, ◌∙◌, sym, subst}
use Rattle.std.specs.Prelude.{OnOk}
use Rattle.std.proofs.lemmas.Result.{IfOk-weaker}
use Rattle.ap_defs.specs.Answers.{NominalOut, found, outs_of}
use Rattle.ap_defs.specs.Goals.{goal_of, program_in}
use Rattle.ap_defs.specs.Renaming.{rename_goal}
use Rattle.ap_search.specs.Continuations.{Waiting}
use Rattle.ap_backchain.specs.Ends.{kept_out}
use Rattle.ap_machine.specs.Machines.{position_of}
use Rattle.ap_machine.specs.Positions.{Position, Turned, turned, turned_by, turned_goal}
use Rattle.ap_backchain.specs.Searches.{ended_outs, positions_followed, pending_positions, positions_with}
use Rattle.ap_backchain.proofs.RunLemmas.{pending_same, points_same}
use Rattle.ap_machine.specs.Asking.{answering_of}
use Rattle.ap_backchain.proofs.run.turn_on.Goals as goal

pub turn_by-requires-clause-goal : goal.turn_by-requires-clause-goal
turn_by-requires-clause-goal c = c.in-Some.ensures.some.1

pub turn_by-requires-clause-points : goal.turn_by-requires-clause-points
turn_by-requires-clause-points c = points_same c.args.machine.now c.pop_goal.new.self c.args.points.now c.pop_goal.ensures.track c.requires.points

pub returns-in-Some-clause-left : goal.returns-in-Some-clause-left
returns-in-Some-clause-left c =
    let program = program_in c.args.clauses.now in let answering = answering_of c.args.asked.now in let f = c.in-Some.frame in
    let b = c.args.machine.now in let d = c.pop_goal.new.self in let us = c.args.points.now in
    let q = turned_goal program f.depth (rename_goal f.base (goal_of f.goal.now)) (position_of d) in
    IfOk-weaker c.turn_by.result (λ x. positions_with x c.turn_by.new.machine c.turn_by.new.points ≡ positions_followed q (pending_positions d us))
    (λ x. positions_with x c.turn_by.new.machine c.turn_by.new.points ≡ positions_followed (turned program answering (position_of b)) (pending_positions b us))
    (λ x h.
    h ∙ ap (positions_followed q) (pending_same b d us c.pop_goal.ensures.track)
    ∙ ap (λ (p : Position). positions_followed (turned program answering p) (pending_positions b us)) (sym c.in-Some.ensures.some.0))
    c.turn_by.ensures.left

pub returns-in-Some-clause-outs : goal.returns-in-Some-clause-outs
returns-in-Some-clause-outs c =
    let outs = outs_of c.args.outs.now.items in
    subst (λ (t : Turned). OnOk c.turn_by.result (outs_of c.turn_by.new.outs.items ≡ outs ++ map (kept_out c.args.paths) (ended_outs t)))
    (sym (ap (turned (program_in c.args.clauses.now) (answering_of c.args.asked.now)) c.in-Some.ensures.some.0)) c.turn_by.ensures.outs

pub returns-in_ok-add_end-in-None-clause-left : goal.returns-in_ok-add_end-in-None-clause-left
returns-in_ok-add_end-in-None-clause-left c =
    let program = program_in c.args.clauses.now in let answering = answering_of c.args.asked.now in
    let b = c.args.machine.now in let us = c.args.points.now in
    pending_same b c.pop_goal.new.self us c.pop_goal.ensures.track
    ∙ sym (ap (λ (ws : List Waiting). positions_followed (turned_by program answering ws (position_of b)) (pending_positions b us)) c.in-None.ensures.none.0)

pub returns-in_ok-add_end-in-None-clause-outs : goal.returns-in_ok-add_end-in-None-clause-outs
returns-in_ok-add_end-in-None-clause-outs c =
    let program = program_in c.args.clauses.now in let answering = answering_of c.args.asked.now in
    let outs = outs_of c.args.outs.now.items in let kept = kept_out c.args.paths in let p = position_of c.args.machine.now in
    c.in_ok-add_end-in-None.ensures
    ∙ ap (λ (o : NominalOut). outs ++ kept o ∷ [])
    (c.in_ok-end-in-None.ensures ∙ ap (λ (r : Position). found r.path (answering r.state r.brought)) c.in-None.ensures.none.1)
    ∙ sym (ap (λ (ws : List Waiting). outs ++ map kept (ended_outs (turned_by program answering ws p))) c.in-None.ensures.none.0)

pub returns-in_ok-add_end-in-None-clause-points : goal.returns-in_ok-add_end-in-None-clause-points
returns-in_ok-add_end-in-None-clause-points c =
    points_same c.args.machine.now c.pop_goal.new.self c.args.points.now c.pop_goal.ensures.track c.requires.points
