use Rattle.std.proofs.Common.{◌≡◌, [], IfOk, List, ap, ◌∙◌, subst, sym}
use Rattle.std.specs.Global.{Global}
use Rattle.std.specs.Prelude.{Vec}
use Rattle.ap_defs.specs.Freshness.{add_conds}
use Rattle.ap_defs.specs.declared.terms.Cond.{Cond}
use Rattle.ap_store.specs.Slots.{IsHeldByVariable, all_held}
use Rattle.ap_store.specs.Views.{changes}
use Rattle.ap_store.proofs.HeldLemmas.{all_set, held_by_variable}
use Rattle.ap_store.proofs.store.Store.conds.Goals as goal

pub set_of-requires : goal.set_of-requires
set_of-requires c =
    let s = c.args.self.now in
    subst IsHeldByVariable (sym c.deref.ensures.value) (held_by_variable s.held.items (changes s) s.holds)

pub returns : goal.returns
returns c =
    let s = c.args.self.now in
    subst (λ (cs : List Cond). IfOk c.set_of.result (λ v. v.items ≡ cs))
    (ap (λ (vs : List (Vec Cond Global)). add_conds (all_held vs) []) c.deref.ensures.value ∙ all_set s.held.items (changes s) s.holds s.stored.0) c.set_of.ensures
