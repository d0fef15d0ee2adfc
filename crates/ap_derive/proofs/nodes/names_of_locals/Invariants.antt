use Rattle.std.proofs.Common.{◌≡◌, ◌++◌, ◌+◌, drop}
use Rattle.ap_defs.specs.Renaming.{local_names}
use Rattle.ap_defs.specs.Types.{locals_of}
use Rattle.ap_derive.proofs.nodes.names_of_locals.Given as goal

-- the names so far and those of the rest are all
abbrev pub invariant-choosing : goal.invariant-choosing
invariant-choosing l = l.all.items ++ local_names (l.base + l.i) (locals_of (drop l.i l.locals)) ≡ local_names l.base (locals_of l.locals)
