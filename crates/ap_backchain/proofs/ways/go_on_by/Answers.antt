use Rattle.std.proofs.Common.{ℕ, List, ◌∷◌, ap, ap₂, ◌∙◌, refl, sym, subst}
use Rattle.ap_defs.specs.Goals.{goal_of}
use Rattle.ap_defs.specs.Renaming.{IsGoalBelow, rename_goal}
use Rattle.ap_machine.specs.Machines.{track_of}
use Rattle.ap_machine.specs.Positions.{Position, with_goal}
use Rattle.ap_machine.specs.Tracks.{GoesFrom}
use Rattle.ap_backchain.proofs.RunLemmas.{pending_goes, points_goes}
use Rattle.ap_machine.proofs.TrackLemmas.{goes_trans}
use Rattle.ap_backchain.proofs.ways.go_on_by.Goals as goal
use Rattle.ap_backchain.proofs.ways.go_on_by.Goals.{In_ok-push_goal-in-Right}

pub push_goal-requires : goal.push_goal-requires
push_goal-requires c =
    let fit = rw c.in-Right.is at c.requires.rest in
    subst (λ (n : ℕ). IsGoalBelow n (rename_goal c.in-Right.frame.base (goal_of c.in-Right.frame.goal.now))) (sym c.in_ok-push_choice-in-Right.ensures.next) fit

goes : (c : In_ok-push_goal-in-Right) → GoesFrom (track_of c.args.machine.now) (track_of c.push_goal.new.self)
goes c = goes_trans _ _ _ c.in_ok-push_choice-in-Right.ensures.goes c.in_ok-push_goal-in-Right.ensures.goes

pub returns-in_ok-push_goal-in-Right-clause-left : goal.returns-in_ok-push_goal-in-Right-clause-left
returns-in_ok-push_goal-in-Right-clause-left c =
    rw c.in-Right.is
    (ap₂ (λ (p : Position) (ps : List Position). p ∷ ps)
    (c.in_ok-push_goal-in-Right.ensures.position
    ∙ ap (with_goal c.in-Right.frame.depth (rename_goal c.in-Right.frame.base (goal_of c.in-Right.frame.goal.now))) c.in_ok-push_choice-in-Right.ensures.position)
    (pending_goes c.args.machine.now c.push_goal.new.self c.args.points.now c.args.points.now refl c.requires.points (goes c)))

pub returns-in_ok-push_goal-in-Right-clause-points : goal.returns-in_ok-push_goal-in-Right-clause-points
returns-in_ok-push_goal-in-Right-clause-points c = points_goes c.args.machine.now c.push_goal.new.self c.args.points.now c.args.points.now refl c.requires.points (goes c)

pub returns-in-Clauses-clause-left : goal.returns-in-Clauses-clause-left
returns-in-Clauses-clause-left c = rw c.in-Clauses.is c.try_clauses.ensures.left
