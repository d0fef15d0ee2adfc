use Rattle.std.proofs.Common.{◌-◌, get_or, arith}
use Rattle.std.proofs.lemmas.List.{get_or_default}
use Rattle.ap_text_commands.specs.declared.counting.counts.ClauseCount.{ClauseCount}
use Rattle.ap_text_commands.proofs.OrderLemmas.{kept_next}
use Rattle.ap_text_commands.proofs.counting.order.in_order_of_items.Goals as goal

pub loop-i-preserved : goal.loop-i-preserved
loop-i-preserved c =
    let d : ClauseCount = get_or c.args.counts.now (c.loop-i.i - 1) (record { item = 0; line = 0; uses = 0 }) in
    let next =
    kept_next c.args.counts.now d c.loop-i.i (c.loop-i.i - 1) c.loop-i.placed.entries c.insert.new.self.entries (omega arith) (omega arith)
    (get_or_default c.args.counts.now (c.loop-i.i - 1) _ _ (omega arith)) c.loop-i.invariant.ordered c.loop-i.invariant.keyed c.in_ok-insert.ensures.entries
    in
    record { ordered = next.0; keyed = next.1 }
