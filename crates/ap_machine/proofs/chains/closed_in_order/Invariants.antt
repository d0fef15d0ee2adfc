use Rattle.std.proofs.Common.{◌≡◌, map}
use Rattle.std.specs.Prelude.{All}
use Rattle.ap_machine.specs.Chains.{IsRight}
use Rattle.ap_machine.specs.Views.{state_in}
use Rattle.ap_machine.proofs.chains.closed_in_order.Given as goal

abbrev pub invariant-closing : goal.invariant-closing
invariant-closing l = record {
  right : All (IsRight (state_in l.store)) l.slots.items;
  vars : map (λ e. e.var) l.slots.items ≡ l.vars;
}
