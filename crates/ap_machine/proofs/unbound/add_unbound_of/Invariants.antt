use Rattle.std.proofs.Common.{◌≡◌, ◌++◌, drop}
use Rattle.ap_machine.specs.Brought.{vars_of_brought}
use Rattle.ap_machine.specs.Unbound.{unbound_vars}
use Rattle.ap_machine.specs.Views.{state_in}
use Rattle.ap_machine.proofs.unbound.add_unbound_of.Given as goal

-- the variables so far and those of the rest are all
abbrev pub invariant-choosing : goal.invariant-choosing
invariant-choosing l =
    l.all.items ++ unbound_vars (state_in l.store) (vars_of_brought (drop l.range-index l.brought))
    ≡ l.initial.all.items ++ unbound_vars (state_in l.store) (vars_of_brought l.brought)
