use Rattle.std.proofs.Common.{ℕ, length, sym, ◌∙◌, subst}
use Rattle.ap_defs.specs.Goals.{goal_of}
use Rattle.ap_defs.specs.Renaming.{IsGoalBelow, rename_goal}
use Rattle.ap_defs.specs.Types.{locals_of}
use Rattle.ap_program.proofs.RenamingLemmas.{goal_renamed_below}
use Rattle.ap_machine.proofs.TrackLemmas.{goes_trans}
use Rattle.ap_turns.proofs.clauses.enter_clause.Goals as goal

pub push_goal-requires : goal.push_goal-requires
push_goal-requires c =
    let n = c.in-Some.start in
    let had = rw c.in-Some.is at c.in_ok-unify_head.ensures.state in
    subst (λ (m : ℕ). IsGoalBelow m (rename_goal n (goal_of c.args.clause.now.body))) (sym (c.in_ok-push_locals-in-Some.ensures.next ∙ c.in_ok-push_choice-in-Some.ensures.next ∙ had.1))
    (goal_renamed_below n (length (locals_of c.args.clause.now.locals)) (goal_of c.args.clause.now.body) c.requires.clause.1)

pub returns-in_ok-push_goal-in-Some-clause-goes : goal.returns-in_ok-push_goal-in-Some-clause-goes
returns-in_ok-push_goal-in-Some-clause-goes c =
    goes_trans _ _ _ c.in_ok-unify_head.ensures.goes
    (goes_trans _ _ _ c.in_ok-push_choice-in-Some.ensures.goes (goes_trans _ _ _ c.in_ok-push_locals-in-Some.ensures.goes c.in_ok-push_goal-in-Some.ensures.goes))
