use Rattle.std.proofs.Common.{List, ◌∷◌, ◌++◌, map, refl, ap, ◌∙◌, sym}
use Rattle.std.proofs.lemmas.List.{append-nil}
use Rattle.ap_defs.specs.Answers.{NominalOut, outs_of}
use Rattle.ap_defs.specs.Goals.{goal_of, program_in}
use Rattle.ap_defs.specs.Renaming.{rename_goal}
use Rattle.ap_backchain.specs.Ends.{kept_out}
use Rattle.ap_machine.specs.Machines.{position_of}
use Rattle.ap_machine.specs.Positions.{Position, Turned}
use Rattle.ap_backchain.specs.Searches.{ended_outs, positions_followed, pending_positions}
use Rattle.ap_backchain.proofs.RunLemmas.{ended_goal, on_ok, pending_goes, points_goes}
use Rattle.ap_backchain.proofs.run.turn_by.Goals as goal

pub choose_by-requires-clause-choosing : goal.choose_by-requires-clause-choosing
choose_by-requires-clause-choosing c = c.is_choosing.ensures.choosing c.if-is_choosing.true (program_in c.args.clauses.now)

pub turn_of_goal-requires-clause-settled : goal.turn_of_goal-requires-clause-settled
turn_of_goal-requires-clause-settled c = c.is_choosing.ensures.settled c.if-is_choosing.false (program_in c.args.clauses.now)

pub returns-then-is_choosing-clause-outs : goal.returns-then-is_choosing-clause-outs
returns-then-is_choosing-clause-outs c =
    let outs = outs_of c.args.outs.now.items in let f = c.args.frame in
    let choosing = c.is_choosing.ensures.choosing c.if-is_choosing.true (program_in c.args.clauses.now) in
    on_ok c.choose_by.result
    (sym (append-nil outs)
    ∙ ap (λ (os : List NominalOut). outs ++ map (kept_out c.args.paths) os)
    (sym (ended_goal (program_in c.args.clauses.now) f.depth (rename_goal f.base (goal_of f.goal.now)) (position_of c.args.machine.now) choosing.0 choosing.1)))

pub returns-in-Goes-clause-left : goal.returns-in-Goes-clause-left
returns-in-Goes-clause-left c =
    let b = c.args.machine.now in let d = c.turn_of_goal.new.machine in let us = c.args.points.now in
    let turn = rw c.in-Goes.is at c.in_ok-turn_of_goal.ensures.turned in
    ap (λ (ps : List Position). position_of d ∷ ps) (pending_goes b d us us refl c.requires.points c.in_ok-turn_of_goal.ensures.goes)
    ∙ ap (λ (t : Turned). positions_followed t (pending_positions b us)) turn

pub returns-in-Goes-clause-outs : goal.returns-in-Goes-clause-outs
returns-in-Goes-clause-outs c =
    let outs = outs_of c.args.outs.now.items in
    let turn = rw c.in-Goes.is at c.in_ok-turn_of_goal.ensures.turned in
    sym (append-nil outs) ∙ ap (λ (t : Turned). outs ++ map (kept_out c.args.paths) (ended_outs t)) turn

pub returns-in-Goes-clause-points : goal.returns-in-Goes-clause-points
returns-in-Goes-clause-points c =
    points_goes c.args.machine.now c.turn_of_goal.new.machine c.args.points.now c.args.points.now refl c.requires.points c.in_ok-turn_of_goal.ensures.goes

pub returns-in-Fails-clause-left : goal.returns-in-Fails-clause-left
returns-in-Fails-clause-left c =
    let b = c.args.machine.now in let d = c.turn_of_goal.new.machine in let us = c.args.points.now in
    let turn = rw c.in-Fails.is at c.in_ok-turn_of_goal.ensures.turned in
    pending_goes b d us us refl c.requires.points c.in_ok-turn_of_goal.ensures.goes ∙ ap (λ (t : Turned). positions_followed t (pending_positions b us)) turn

pub returns-in-Fails-clause-outs : goal.returns-in-Fails-clause-outs
returns-in-Fails-clause-outs c =
    let outs = outs_of c.args.outs.now.items in
    let turn = rw c.in-Fails.is at c.in_ok-turn_of_goal.ensures.turned in
    sym (append-nil outs) ∙ ap (λ (t : Turned). outs ++ map (kept_out c.args.paths) (ended_outs t)) turn

pub returns-in-Fails-clause-points : goal.returns-in-Fails-clause-points
returns-in-Fails-clause-points c =
    points_goes c.args.machine.now c.turn_of_goal.new.machine c.args.points.now c.args.points.now refl c.requires.points c.in_ok-turn_of_goal.ensures.goes

pub returns-in_ok-add_end-in-Ends-clause-left : goal.returns-in_ok-add_end-in-Ends-clause-left
returns-in_ok-add_end-in-Ends-clause-left c =
    let b = c.args.machine.now in let d = c.turn_of_goal.new.machine in let us = c.args.points.now in
    let turn = rw c.in-Ends.is at c.in_ok-turn_of_goal.ensures.turned in
    pending_goes b d us us refl c.requires.points c.in_ok-turn_of_goal.ensures.goes ∙ ap (λ (t : Turned). positions_followed t (pending_positions b us)) turn

pub returns-in_ok-add_end-in-Ends-clause-outs : goal.returns-in_ok-add_end-in-Ends-clause-outs
returns-in_ok-add_end-in-Ends-clause-outs c =
    let outs = outs_of c.args.outs.now.items in
    let turn = rw c.in-Ends.is at c.in_ok-turn_of_goal.ensures.turned in
    c.in_ok-add_end-in-Ends.ensures ∙ ap (λ (t : Turned). outs ++ map (kept_out c.args.paths) (ended_outs t)) turn

pub returns-in_ok-add_end-in-Ends-clause-points : goal.returns-in_ok-add_end-in-Ends-clause-points
returns-in_ok-add_end-in-Ends-clause-points c =
    points_goes c.args.machine.now c.turn_of_goal.new.machine c.args.points.now c.args.points.now refl c.requires.points c.in_ok-turn_of_goal.ensures.goes
