use Rattle.std.proofs.Common.{◌≡◌, Some, subst, sym, ap, ◌∙◌}
use Rattle.ap_defs.specs.Freshness.{reduce}
use Rattle.ap_defs.specs.Substitution.{under}
use Rattle.ap_fresh.proofs.SetLemmas.{collected_set}
use Rattle.ap_fresh.specs.Reduction.{added}
use Rattle.ap_perm.specs.Closures.{closure_term}
use Rattle.ap_store.specs.Triples.{AreOnUnbound, with_conditions}
use Rattle.ap_store.specs.Views.{present}
use Rattle.ap_theory.specs.StatementsOnConditions.{collected}
use Rattle.ap_unify.proofs.FreshLemmas.{is_reduced, one_on_unbound}
use Rattle.ap_unify.proofs.WellLemmas.{well}
use Rattle.ap_unify.proofs.fresh.make_fresh.Goals as goal
use Rattle.ap_unify.specs.Finishing.{some_if}

pub add-requires : goal.add-requires
add-requires c =
    let a = present c.args.store.now in
    let o = reduce c.args.a (under a.bindings (closure_term c.args.t.now)) in
    let e : collected o ≡ Some c.make_set.new.conds.items =
    collected_set o c.reduce_closure.new.conds.items
    (ap (added o) (sym c.new-conds.ensures.items) ∙ c.in_ok-reduce_closure.ensures ∙ ap (λ v. collected (some_if v c.reduce_closure.new.conds.items)) c.if-not-branch.false)
    ∙ ap Some (sym c.make_set.ensures) in
    subst (AreOnUnbound a) (sym c.deref.ensures.value)
    (one_on_unbound a (well c.args.store.now) c.args.a (closure_term c.args.t.now) c.requires.name c.requires.term c.make_set.new.conds.items e)

pub returns-clause-defined : goal.returns-clause-defined
returns-clause-defined c =
    let a = present c.args.store.now in
    let o = reduce c.args.a (under a.bindings (closure_term c.args.t.now)) in
    let e : collected o ≡ Some c.make_set.new.conds.items =
    collected_set o c.reduce_closure.new.conds.items
    (ap (added o) (sym c.new-conds.ensures.items) ∙ c.in_ok-reduce_closure.ensures ∙ ap (λ v. collected (some_if v c.reduce_closure.new.conds.items)) c.if-not-branch.false)
    ∙ ap Some (sym c.make_set.ensures) in
    is_reduced a (present c.add.new.self) (well c.args.store.now) o c.make_set.new.conds.items e (c.in_ok-add.ensures.present ∙ ap (λ cs. with_conditions cs a) c.deref.ensures.value)
