use Rattle.std.proofs.Common.{◌≡◌, List, length, ap, ◌∙◌}
use Rattle.std.specs.Global.{Global}
use Rattle.std.specs.Prelude.{◌==◌, Vec, not}
use Rattle.ap_defs.specs.declared.terms.Cond.{Cond}
use Rattle.ap_store.specs.Slots.{held_in}
use Rattle.ap_store.specs.Views.{changes}
use Rattle.ap_store.proofs.HeldLemmas.{on_var_held}
use Rattle.ap_store.proofs.store.Store.has_conditions.Goals as goal

pub returns : goal.returns
returns c =
    let s = c.args.self.now in
    let x = c.args.x in
    let f : c.held_of.result.now ≡ held_in s.held.items x.num = c.held_of.ensures ∙ ap (λ (vs : List (Vec Cond Global)). held_in vs x.num) c.deref.ensures.value in
    ap not (c.is_empty.ensures ∙ ap (λ (cs : List Cond). length cs == 0) f) ∙ on_var_held s.held.items (changes s) x s.holds s.stored.0
