use Rattle.std.proofs.Common.{◌≡◌, ◌<◌, length, map}
use Rattle.std.specs.Prelude.{All}
use Rattle.ap_machine.specs.Chains.{IsRight}
use Rattle.ap_machine.specs.Views.{state_in}
use Rattle.ap_machine.proofs.chains.close_along.Given as goal

abbrev pub invariant-closing : goal.invariant-closing
invariant-closing l = record {
  inside : All (λ i. i < length l.slots.items) l.way.items;
  right : All (IsRight (state_in l.store)) l.slots.items;
  vars : map (λ e. e.var) l.slots.items ≡ map (λ e. e.var) l.fn.slots.items;
}

abbrev pub decreases-closing : goal.decreases-closing
decreases-closing l = length l.way.items
