use Rattle.std.proofs.Common.{◌≡◌, ◌++◌, drop}
use Rattle.ap_machine.specs.Unbound.{unbound_vars}
use Rattle.ap_machine.specs.Views.{state_in}
use Rattle.ap_machine.proofs.unbound.add_unbound_vars.Given as goal

-- the variables so far and those of the rest are all
abbrev pub invariant-choosing : goal.invariant-choosing
invariant-choosing l = l.all.items ++ unbound_vars (state_in l.store) (drop l.x-index l.vars) ≡ l.initial.all.items ++ unbound_vars (state_in l.store) l.vars
