use Rattle.std.proofs.Common.{List, ap, sym, subst, ◌∙◌}
use Rattle.std.specs.Prelude.{Option}
use Rattle.ap_defs.specs.Terms.{NominalTerm}
use Rattle.ap_store.specs.Founds.{IsWhatIsFound}
use Rattle.ap_store.specs.Marks.{ground_in}
use Rattle.ap_store.specs.Slots.{AreKeptBelow, bound_in}
use Rattle.ap_store.specs.declared.slots.Slot.{Slot}
use Rattle.ap_store.proofs.MarkLemmas.{marked_stands}
use Rattle.ap_store.proofs.StoredLemmas.{looked_up}
use Rattle.ap_store.proofs.store.Store.found.Goals as goal

pub found_at-requires : goal.found_at-requires
found_at-requires c =
    let s = c.args.self.now in
    subst (λ (ss : List Slot). AreKeptBelow s.reach ss) (sym c.deref.ensures.value) s.stored.4

pub returns-clause-found : goal.returns-clause-found
returns-clause-found c =
    let s = c.args.self.now in
    let x = c.args.x in
    subst (λ (o : Option NominalTerm). IsWhatIsFound o c.found_at.result)
    (ap (λ (ss : List Slot). bound_in ss x.num) c.deref.ensures.value ∙ sym (looked_up s.table.items s.trail.items s.noted.items s.reach s.stored x)) c.found_at.ensures.found

pub returns-clause-no_vars : goal.returns-clause-no_vars
returns-clause-no_vars c =
    let s = c.args.self.now in
    let x = c.args.x in
    let e = c.found_at.ensures.mark ∙ ap (λ (ss : List Slot). ground_in ss x.num) c.deref.ensures.value in
    λ h. marked_stands s x (sym e ∙ h)
