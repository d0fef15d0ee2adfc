use Rattle.std.proofs.Common.{◌≡◌, [], List, length, sym, ap, ◌∙◌, arith}
use Rattle.std.proofs.lemmas.List.{nil_from_length}
use Rattle.std.specs.Global.{Global}
use Rattle.std.specs.Prelude.{Vec}
use Rattle.ap_defs.specs.Freshness.{add_conds}
use Rattle.ap_defs.specs.declared.terms.Cond.{Cond}
use Rattle.ap_theory.proofs.TermLemmas.{number_same}
use Rattle.ap_store.specs.Changes.{empty, present_after}
use Rattle.ap_store.specs.Slots.{changes_in, held_in}
use Rattle.ap_store.specs.Views.{changes, present}
use Rattle.ap_store.specs.declared.changes.Entry.{Entry}
use Rattle.ap_store.proofs.HeldLemmas.{held_within, on_var_set, some_more}
use Rattle.ap_store.proofs.StoreLemmas.{none_taken}
use Rattle.ap_store.proofs.store.Store.take_conditions.Goals as goal

pub returns-then-is_empty-clause-taken : goal.returns-then-is_empty-clause-taken
returns-then-is_empty-clause-taken c =
    let s = c.args.self.now in
    let x = c.args.x in
    let n = number_same _ 0 (sym c.is_empty.ensures ∙ c.if-is_empty.true) in
    let e : c.held_of-conds.result.now ≡ [] = nil_from_length c.held_of-conds.result.now (omega (arith, n)) in
    let f : c.held_of-conds.result.now ≡ held_in s.held.items x.num = c.held_of-conds.ensures ∙ ap (λ (vs : List (Vec Cond Global)). held_in vs x.num) c.deref.ensures.value in
    c.new.ensures.items ∙ ap (λ cs. add_conds cs []) (sym e ∙ f) ∙ on_var_set s.held.items (changes s) x s.holds s.stored.0

pub returns-then-is_empty-clause-present : goal.returns-then-is_empty-clause-present
returns-then-is_empty-clause-present c =
    let s = c.args.self.now in
    let x = c.args.x in
    let n = number_same _ 0 (sym c.is_empty.ensures ∙ c.if-is_empty.true) in
    let e : c.held_of-conds.result.now ≡ [] = nil_from_length c.held_of-conds.result.now (omega (arith, n)) in
    let f : c.held_of-conds.result.now ≡ held_in s.held.items x.num = c.held_of-conds.ensures ∙ ap (λ (vs : List (Vec Cond Global)). held_in vs x.num) c.deref.ensures.value in
    none_taken (present s) (present_after (changes_in s.table.items c.reserve.new.self.items s.noted.items) empty) x
    (ap (λ (es : List Entry). present_after (changes_in s.table.items es s.noted.items) empty) c.reserve.ensures.items)
    (sym (on_var_set s.held.items (changes s) x s.holds s.stored.0) ∙ ap (λ cs. add_conds cs []) (sym f ∙ e))

pub note_taken-requires-clause-held : goal.note_taken-requires-clause-held
note_taken-requires-clause-held c =
    let s = c.args.self.now in
    let x = c.args.x in
    let f : c.held_of-conds.result.now ≡ held_in s.held.items x.num = c.held_of-conds.ensures ∙ ap (λ (vs : List (Vec Cond Global)). held_in vs x.num) c.deref.ensures.value in
    held_within s.held.items x.num c.held_of-conds.result.now (sym f) (some_more (length c.held_of-conds.result.now) (sym c.is_empty.ensures ∙ c.if-is_empty.false))

pub returns-clause-taken : goal.returns-clause-taken
returns-clause-taken c =
    let s = c.args.self.now in
    let x = c.args.x in
    let f : c.held_of-conds.result.now ≡ held_in s.held.items x.num = c.held_of-conds.ensures ∙ ap (λ (vs : List (Vec Cond Global)). held_in vs x.num) c.deref.ensures.value in
    c.make_set.ensures ∙ ap (λ cs. add_conds cs []) (c.in_ok-taken.ensures.items_if_clones_equal (λ x y e. e) ∙ f) ∙ on_var_set s.held.items (changes s) x s.holds s.stored.0
