use Rattle.std.proofs.Common.{ℕ, List, ◌∷◌, ap, ap₂, ◌∙◌, sym, subst}
use Rattle.ap_defs.specs.Goals.{goal_of}
use Rattle.ap_defs.specs.Renaming.{IsGoalBelow, rename_goal}
use Rattle.ap_machine.specs.Machines.{track_of}
use Rattle.ap_machine.specs.Positions.{Position, with_goal}
use Rattle.ap_machine.specs.Tracks.{GoesFrom}
use Rattle.ap_backchain.specs.declared.points.Rest.{Rest}
use Rattle.ap_backchain.specs.declared.points.Rest.TheVariants as rests
use Rattle.ap_backchain.proofs.RunLemmas.{pending_with, points_with}
use Rattle.ap_machine.proofs.TrackLemmas.{goes_trans}
use Rattle.ap_backchain.proofs.ways.take_left.Goals as goal

pub push_goal-requires : goal.push_goal-requires
push_goal-requires c =
    subst (λ (n : ℕ). IsGoalBelow n (rename_goal c.args.frame.base (goal_of c.args.left.now))) (sym c.in_ok-push_choice.ensures.next) c.requires.left

goes : (c : goal.In_ok-push) → GoesFrom (track_of c.args.machine.now) (track_of c.push_goal.new.self)
goes c = goes_trans _ _ _ c.in_ok-push_choice.ensures.goes c.in_ok-push_goal.ensures.goes

abbrev right_side : (c : goal.In_ok-push) → Rest
right_side c = rests.Right (record { goal = c.args.right; base = c.args.frame.base; depth = c.args.frame.depth })

pub returns-clause-left : goal.returns-clause-left
returns-clause-left c =
    ap₂ (λ (p : Position) (ps : List Position). p ∷ ps)
    (c.in_ok-push_goal.ensures.position ∙ ap (with_goal c.args.frame.depth (rename_goal c.args.frame.base (goal_of c.args.left.now))) c.in_ok-push_choice.ensures.position)
    (pending_with c.save-save.result c.args.machine.now c.push_goal.new.self c.save-save.ensures.within c.save-save.ensures.track c.save-save.ensures.position (goes c)
    (right_side c) c.args.points.now c.push.new.self c.in_ok-push.ensures.items)

pub returns-clause-points : goal.returns-clause-points
returns-clause-points c =
    points_with c.save-save.result c.args.machine.now c.push_goal.new.self c.save-save.ensures.within c.save-save.ensures.track c.save-save.ensures.position (goes c)
    (right_side c) c.args.points.now c.push.new.self c.in_ok-push.ensures.items c.requires.right c.requires.points
