use Rattle.std.proofs.Common.{List, refl, sym, subst, ◌∙◌, arith}
use Rattle.ap_store.specs.Slots.{AreKeptBelow}
use Rattle.ap_store.specs.declared.slots.Slot.{Slot}
use Rattle.ap_store.proofs.ReachLemmas.{kept_append}
use Rattle.ap_store.proofs.StoredLemmas.{kinds_further}
use Rattle.ap_store.proofs.TableLemmas.{bound_in_more, ground_in_more}
use Rattle.ap_store.proofs.tables.add_slots.Goals as goal

pub adding-preserved : goal.adding-preserved
adding-preserved c = record {
  kinds = kinds_further _ c.args.table.now.items c.adding.table.items c.push_reserved.new.self.items c.args.locals.now c.adding.local-index c.local-item.result (omega (arith, c.adding-test.true)) c.local-item.is
      c.push_reserved.ensures.items refl c.adding.invariant.kinds;
  bound = λ i. bound_in_more _ c.adding.table.items c.push_reserved.new.self.items i c.push_reserved.ensures.items refl ∙ c.adding.invariant.bound i;
  marks = λ i. ground_in_more _ c.adding.table.items c.push_reserved.new.self.items i c.push_reserved.ensures.items refl ∙ c.adding.invariant.marks i;
  counted = omega (arith, c.push_reserved.ensures.len, c.adding.invariant.counted);
  below = λ n h. subst (λ (ss : List Slot). AreKeptBelow n ss) (sym c.push_reserved.ensures.items) (kept_append n c.adding.table.items _ (c.adding.invariant.below n h) (tt, tt));
  room = omega (arith, c.push_reserved.ensures.len, c.push_reserved.ensures.capacity, c.adding.invariant.room);
}
