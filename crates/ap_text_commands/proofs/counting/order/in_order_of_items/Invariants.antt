-- The clauses at the back are in order, under their items and places.
use Rattle.std.proofs.Common.{◌≡◌, drop}
use Rattle.ap_text_commands.specs.Counts.{in_order_of_items}
use Rattle.ap_text_commands.proofs.OrderLemmas.{Keyed, kept}
use Rattle.ap_text_commands.proofs.counting.order.in_order_of_items.Given as goal

abbrev pub invariant-loop-i : goal.invariant-loop-i
invariant-loop-i l = record {
  ordered : kept l.placed.entries ≡ in_order_of_items (drop l.i l.counts);
  keyed : Keyed l.i l.placed.entries;
}
