use Rattle.std.proofs.Common.{◌≡◌, ◌++◌, ◌+◌, drop}
use Rattle.ap_defs.specs.Renaming.{local_vars}
use Rattle.ap_defs.specs.Types.{locals_of}
use Rattle.ap_machine.specs.Unbound.{unbound_vars}
use Rattle.ap_machine.specs.Views.{state_in}
use Rattle.ap_machine.proofs.unbound.add_unbound_locals.Given as goal

-- the variables so far and those of the rest are all
abbrev pub invariant-choosing : goal.invariant-choosing
invariant-choosing l =
    l.all.items ++ unbound_vars (state_in l.store) (local_vars (l.base + l.i) (locals_of (drop l.i l.locals)))
    ≡ l.initial.all.items ++ unbound_vars (state_in l.store) (local_vars l.base (locals_of l.locals))
