use Rattle.std.proofs.Common.{◌∙◌, arith}
use Rattle.ap_store.proofs.HeldLemmas.{held_in_more}
use Rattle.ap_store.proofs.held.make_place.Goals as goal

pub adding-preserved : goal.adding-preserved
adding-preserved c = record {
  same = λ i. held_in_more _ c.adding.held.items c.push.new.self.items i c.in_ok-push.ensures.items c.new.ensures.items ∙ c.adding.invariant.same i;
  longer = omega (arith, c.in_ok-push.ensures.len, c.adding.invariant.longer);
}
