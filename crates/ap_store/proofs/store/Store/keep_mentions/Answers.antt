use Rattle.std.proofs.Common.{List, sym, subst}
use Rattle.ap_store.specs.Mentions.{AreMentioned}
use Rattle.ap_store.specs.Slots.{AreKeptBelow}
use Rattle.ap_store.specs.declared.slots.Slot.{Slot}
use Rattle.ap_store.proofs.store.Store.keep_mentions.Goals as goal

pub mentions_in-requires : goal.mentions_in-requires
mentions_in-requires c =
    let s = c.args.self.now in
    subst (λ (ss : List Slot). AreKeptBelow s.reach ss) (sym c.deref.ensures.value) s.stored.4

pub invariant_of-self : goal.invariant_of-self
invariant_of-self c =
    let s = c.args.self.now in
    let more = subst (λ (ss : List Slot). AreMentioned c.mentions_in.result ss) c.deref.ensures.value c.mentions_in.ensures in
    record { stored = s.stored; holds = s.holds; marked = s.marked; likened = s.likened; mentioned = more; ranked = s.ranked }
