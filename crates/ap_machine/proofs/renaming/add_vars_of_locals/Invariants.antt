use Rattle.std.proofs.Common.{◌≡◌, ◌++◌, ◌+◌, drop}
use Rattle.ap_defs.specs.Renaming.{local_vars}
use Rattle.ap_defs.specs.Types.{locals_of}
use Rattle.ap_machine.proofs.renaming.add_vars_of_locals.Given as goal

-- the variables so far and those of the rest are all
abbrev pub invariant-choosing : goal.invariant-choosing
invariant-choosing l = l.vars.items ++ local_vars (l.base + l.i) (locals_of (drop l.i l.locals)) ≡ l.initial.vars.items ++ local_vars l.base (locals_of l.locals)
