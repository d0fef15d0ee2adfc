use Rattle.std.proofs.Common.{ℕ, ap, sym, ◌∙◌, subst}
use Rattle.ap_defs.specs.Goals.{goal_of, program_in}
use Rattle.ap_defs.specs.Renaming.{IsGoalBelow, rename_goal}
use Rattle.ap_defs.specs.Types.{locals_of}
use Rattle.ap_turns.specs.Marks.{marks_from}
use Rattle.ap_machine.specs.Positions.{Position, with_goal}
use Rattle.ap_machine.specs.Unbound.{answer_by_unbound}
use Rattle.ap_backchain.proofs.step.choose_side.Goals as goal

pub push_goal-requires : goal.push_goal-requires
push_goal-requires c = subst (λ (n : ℕ). IsGoalBelow n (rename_goal c.args.frame.base (goal_of c.args.side.now))) (sym c.in_ok-push_choice.ensures.next) c.requires.below

pub returns-clause-marks : goal.returns-clause-marks
returns-clause-marks c =
    let program = program_in c.args.clauses.now in let answering = answer_by_unbound (locals_of c.args.locals.now) in
    let g = rename_goal c.args.frame.base (goal_of c.args.side.now) in
    c.in_ok-standing.ensures.marks
    ∙ ap (λ (p : Position). marks_from program answering p) (c.in_ok-push_goal.ensures.position ∙ ap (with_goal c.args.frame.depth g) c.in_ok-push_choice.ensures.position)

pub returns-clause-path : goal.returns-clause-path
returns-clause-path c =
    let g = rename_goal c.args.frame.base (goal_of c.args.side.now) in
    c.in_ok-standing.ensures.path
    ∙ ap (λ (p : Position). p.path) (c.in_ok-push_goal.ensures.position ∙ ap (with_goal c.args.frame.depth g) c.in_ok-push_choice.ensures.position)
