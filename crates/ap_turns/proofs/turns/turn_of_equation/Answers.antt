use Rattle.std.proofs.Common.{List, [], ◌∷◌, map, refl, sym, ap, ◌∙◌}
use Rattle.ap_defs.specs.Renaming.{rename_term}
use Rattle.ap_defs.specs.Terms.{term_of}
use Rattle.ap_defs.specs.Unification.{unify}
use Rattle.ap_defs.specs.declared.terms.Term.{Term}
use Rattle.ap_store.specs.Views.{kinds, present, versions}
use Rattle.ap_machine.specs.Machines.{next_of, position_of}
use Rattle.ap_machine.specs.Positions.{goes_with, unified_state}
use Rattle.ap_machine.specs.Stacks.{cells_of, waiting_in}
use Rattle.ap_machine.specs.Views.{state_in}
use Rattle.ap_turns.proofs.HeadLemmas.{one_below}
use Rattle.ap_turns.proofs.StoreTurnLemmas.{store_goes, turned_unified, waiting_kept}
use Rattle.ap_machine.proofs.LookLemmas.{look_on}
use Rattle.ap_machine.proofs.TrackLemmas.{longer_same}
use Rattle.ap_turns.proofs.turns.turn_of_equation.Goals as goal

pub unify-requires-clause-lengths : goal.unify-requires-clause-lengths
unify-requires-clause-lengths c = c.from_ref.ensures.len ∙ sym c.from_ref-2.ensures.len

pub unify-requires-clause-left : goal.unify-requires-clause-left
unify-requires-clause-left c = one_below c.next-end.result (next_of c.args.machine.now) c.args.base c.from_ref.result.now c.args.t.now c.from_ref.ensures.value c.next-end.ensures c.requires.left

pub unify-requires-clause-right : goal.unify-requires-clause-right
unify-requires-clause-right c = one_below c.next-end.result (next_of c.args.machine.now) c.args.base c.from_ref-2.result.now c.args.u.now c.from_ref-2.ensures.value c.next-end.ensures c.requires.right

pub unify-requires-clause-left_made : goal.unify-requires-clause-left_made
unify-requires-clause-left_made c = one_below (next_of c.args.machine.now) (next_of c.args.machine.now) c.args.base c.from_ref.result.now c.args.t.now c.from_ref.ensures.value refl c.requires.left

pub unify-requires-clause-right_made : goal.unify-requires-clause-right_made
unify-requires-clause-right_made c = one_below (next_of c.args.machine.now) (next_of c.args.machine.now) c.args.base c.from_ref-2.result.now c.args.u.now c.from_ref-2.ensures.value refl c.requires.right

pub invariant_of-machine : goal.invariant_of-machine
invariant_of-machine c = record {
  below = waiting_kept c.args.machine.now.store c.unify.new.store (waiting_in c.args.machine.now.goals) c.unify.ensures.kinds c.args.machine.now.below;
  seen = look_on (versions c.args.machine.now.store) (versions c.unify.new.store) c.args.machine.now.brought.items c.args.machine.now.look c.unify.ensures.past c.args.machine.now.seen;
}

pub returns-clause-turned : goal.returns-clause-turned
returns-clause-turned c =
    let s = c.args.machine.now.store in
    let r = c.unify.new.store in
    let p = position_of c.args.machine.now in
    let a = present s in
    let n = c.args.base in
    let us = c.from_ref-2.result.now in
    turned_unified s r p _ c.unify.ensures.kinds refl _ c.goes_where.result c.in_ok-solved.solved c.in_ok-solved.ensures.defined c.goes_where.ensures
    ∙ ap (λ (vs : List Term). goes_with p (unified_state (state_in s) (unify a.bindings a.conditions (map (rename_term n) (map term_of vs)) (map (rename_term n) (map term_of us))))) c.from_ref.ensures.value
    ∙ ap (λ (vs : List Term). goes_with p (unified_state (state_in s) (unify a.bindings a.conditions (rename_term n (term_of c.args.t.now) ∷ []) (map (rename_term n) (map term_of vs))))) c.from_ref-2.ensures.value

pub returns-clause-goes : goal.returns-clause-goes
returns-clause-goes c =
    let b = c.args.machine.now in
    let r = c.unify.new.store in
    store_goes b.store r (cells_of b.goals) b.path.items b.brought.items c.unify.ensures.past (longer_same (kinds b.store) (kinds r) c.unify.ensures.kinds)
