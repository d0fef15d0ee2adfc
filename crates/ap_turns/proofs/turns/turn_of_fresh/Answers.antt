use Rattle.std.proofs.Common.{refl, sym, ap, ◌∙◌, subst, rules}
use Rattle.ap_defs.specs.Freshness.{reduce}
use Rattle.ap_defs.specs.Renaming.{IsBelow, rename_term}
use Rattle.ap_defs.specs.Substitution.{under}
use Rattle.ap_defs.specs.Terms.{NominalTerm, term_of}
use Rattle.ap_perm.specs.Closures.{closure_term, opened_term}
use Rattle.ap_store.specs.Views.{bindings_of, present, versions}
use Rattle.ap_machine.proofs.LookLemmas.{look_on}
use Rattle.ap_machine.specs.Machines.{position_of}
use Rattle.ap_machine.specs.Positions.{goes_with, reduced_state}
use Rattle.ap_machine.specs.Stacks.{waiting_in}
use Rattle.ap_machine.specs.Views.{state_in}
use Rattle.ap_turns.proofs.StoreTurnLemmas.{turned_name, turned_other, turned_reduced, turned_stuck, waiting_kept}
use Rattle.ap_turns.proofs.turns.turn_of_fresh.Goals as goal

pub of-requires : goal.of-requires
of-requires c = rw c.next-end.ensures c.requires.left

pub make_fresh-requires-clause-name : goal.make_fresh-requires-clause-name
make_fresh-requires-clause-name c =
    let n = (present c.args.machine.now.store).next in
    let k = c.in_ok-left.ensures.below (rw c.of.ensures c.requires.left) in
    subst (λ (t : NominalTerm). IsBelow n t) (sym c.in_ok-a.ensures ∙ ap opened_term c.in-Name.is) k

pub invariant_of-machine : goal.invariant_of-machine
invariant_of-machine c = record {
  below = waiting_kept c.args.machine.now.store c.make_fresh.new.store (waiting_in c.args.machine.now.goals) c.make_fresh.ensures.kinds c.args.machine.now.below;
  seen = look_on (versions c.args.machine.now.store) (versions c.make_fresh.new.store) c.args.machine.now.brought.items c.args.machine.now.look c.make_fresh.ensures.past c.args.machine.now.seen;
}

pub returns-in-Name-clause-turned : goal.returns-in-Name-clause-turned
returns-in-Name-clause-turned c =
    let s = c.args.machine.now.store in
    let r = c.make_fresh.new.store in
    let p = position_of c.args.machine.now in
    let a = c.in-Name.a in
    let bs = (bindings_of s) in
    let t = rename_term c.args.base (term_of c.args.t.now) in
    let u = rename_term c.args.base (term_of c.args.u.now) in
    turned_reduced s r p _ c.make_fresh.ensures.kinds refl _ c.goes_where.result c.in_ok-solved-in-Name.solved c.in_ok-solved-in-Name.ensures.defined c.goes_where.ensures
    ∙ ap (λ (v : NominalTerm). goes_with p (reduced_state (state_in s) (reduce a (under bs v)))) c.of-right.ensures
    ∙ turned_name s p t u (closure_term c.in_ok-left.left) (opened_term c.in_ok-a.field-0) (c.in_ok-left.ensures.term ∙ ap (under bs) c.of.ensures) a (ap opened_term c.in-Name.is) c.in_ok-a.ensures

pub returns-in-Susp-clause-turned : goal.returns-in-Susp-clause-turned
returns-in-Susp-clause-turned c =
    let s = c.args.machine.now.store in
    let p = position_of c.args.machine.now in
    let bs = (bindings_of s) in
    let t = rename_term c.args.base (term_of c.args.t.now) in
    let u = rename_term c.args.base (term_of c.args.u.now) in
    turned_stuck s p t u (closure_term c.in_ok-left.left) (opened_term c.in_ok-a.field-0) (c.in_ok-left.ensures.term ∙ ap (under bs) c.of.ensures)
    c.in-Susp.field-0.items c.in-Susp.field-1 _ (search rules) (ap opened_term c.in-Susp.is) c.in_ok-a.ensures c.in_ok-left.ensures.head

pub returns-clause-turned : goal.returns-clause-turned
returns-clause-turned c =
    let s = c.args.machine.now.store in
    let p = position_of c.args.machine.now in
    let bs = (bindings_of s) in
    let t = rename_term c.args.base (term_of c.args.t.now) in
    let u = rename_term c.args.base (term_of c.args.u.now) in
    turned_other s p t u (closure_term c.in_ok-left.left) (opened_term c.in_ok-a.field-0) (c.in_ok-left.ensures.term ∙ ap (under bs) c.of.ensures) c.in_ok-a.field-0 refl c.in_ok-a.ensures
    (λ a e. c.in_default.not-Name a e) (λ q x e. c.in_default.not-Susp q x e)
