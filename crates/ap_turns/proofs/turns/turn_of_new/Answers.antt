use Rattle.std.proofs.Common.{ℕ, List, subst, sym, ap, ◌∙◌}
use Rattle.ap_defs.specs.Goals.{goal_of}
use Rattle.ap_defs.specs.Renaming.{IsGoalBelow, rename_goal, rename_name}
use Rattle.ap_defs.specs.Resolution.{fresh_for_each}
use Rattle.ap_defs.specs.Unification.{reduce_all}
use Rattle.ap_defs.specs.declared.terms.Var.{Var}
use Rattle.ap_program.proofs.RenamingLemmas.{free_vars_below, goal_below_more}
use Rattle.ap_store.specs.Views.{bindings_of, kinds, present, versions}
use Rattle.ap_unify.specs.Unified.{AreVarsBelow}
use Rattle.ap_machine.specs.Machines.{position_of}
use Rattle.ap_machine.specs.Positions.{goes_with, reduced_state, with_goal}
use Rattle.ap_machine.specs.Stacks.{cells_of, waiting_in}
use Rattle.ap_machine.specs.Views.{state_in}
use Rattle.ap_machine.proofs.LookLemmas.{look_on}
use Rattle.ap_machine.proofs.TrackLemmas.{goes_trans, longer_same}
use Rattle.ap_turns.proofs.StoreTurnLemmas.{few_numbers, same_next, store_goes, turned_reduced, waiting_kept}
use Rattle.ap_turns.proofs.turns.turn_of_new.Goals as goal

pub free_vars_of-requires : goal.free_vars_of-requires
free_vars_of-requires c =
    let s = c.args.machine.now.store in
    goal_below_more _ (present s).next (few_numbers s) (rename_goal c.args.base (goal_of c.args.goal.now)) c.requires.1

pub make_fresh_for_each-requires-clause-name : goal.make_fresh_for_each-requires-clause-name
make_fresh_for_each-requires-clause-name c = c.requires.0

pub make_fresh_for_each-requires-clause-vars : goal.make_fresh_for_each-requires-clause-vars
make_fresh_for_each-requires-clause-vars c =
    let n = (present c.args.machine.now.store).next in
    subst (AreVarsBelow n) (sym (c.deref.ensures.value ∙ c.in_ok-vars.ensures)) (free_vars_below n (rename_goal c.args.base (goal_of c.args.goal.now)) c.requires.1)

pub invariant_of-machine : goal.invariant_of-machine
invariant_of-machine c = record {
  below = waiting_kept c.args.machine.now.store c.make_fresh_for_each.new.store (waiting_in c.args.machine.now.goals) c.make_fresh_for_each.ensures.kinds c.args.machine.now.below;
  seen = look_on (versions c.args.machine.now.store) (versions c.make_fresh_for_each.new.store) c.args.machine.now.brought.items c.args.machine.now.look c.make_fresh_for_each.ensures.past c.args.machine.now.seen;
}

pub push_goal-requires : goal.push_goal-requires
push_goal-requires c =
    let g = rename_goal c.args.base (goal_of c.args.goal.now) in
    subst (λ (n : ℕ). IsGoalBelow n g) (sym (same_next c.args.machine.now.store c.make_fresh_for_each.new.store c.make_fresh_for_each.ensures.kinds)) c.requires.1

pub returns-clause-turned : goal.returns-clause-turned
returns-clause-turned c =
    let s = c.args.machine.now.store in
    let a = rename_name c.args.base c.args.a in
    let p = with_goal c.args.depth (rename_goal c.args.base (goal_of c.args.goal.now)) (position_of c.args.machine.now) in
    turned_reduced s c.make_fresh_for_each.new.store p _ c.make_fresh_for_each.ensures.kinds c.in_ok-push_goal.ensures.position _ c.goes_where.result c.in_ok-solved.solved
    c.in_ok-solved.ensures.defined c.goes_where.ensures
    ∙ ap (λ (xs : List Var). goes_with p (reduced_state (state_in s) (reduce_all (bindings_of s) (fresh_for_each a xs)))) (c.deref.ensures.value ∙ c.in_ok-vars.ensures)

pub returns-clause-goes : goal.returns-clause-goes
returns-clause-goes c =
    let b = c.args.machine.now in
    let r = c.make_fresh_for_each.new.store in
    goes_trans _ _ _
    (store_goes b.store r (cells_of b.goals) b.path.items b.brought.items c.make_fresh_for_each.ensures.past (longer_same (kinds b.store) (kinds r) c.make_fresh_for_each.ensures.kinds))
    c.in_ok-push_goal.ensures.goes
