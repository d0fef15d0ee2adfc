use Rattle.std.proofs.Common.{◌≡◌, map, take}
use Rattle.std.specs.Prelude.{All}
use Rattle.ap_defs.specs.Resolution.{State}
use Rattle.ap_machine.specs.Chains.{IsRight}
use Rattle.ap_machine.proofs.chains.slots_of.Given as goal

abbrev pub invariant-listing : goal.invariant-listing
invariant-listing l = record {
  vars : map (λ e. e.var) l.slots.items ≡ take l.x-index l.vars;
  right : (s : State) → All (IsRight s) l.slots.items;
}
