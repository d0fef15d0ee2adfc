-- The copies so far, and the identifiers that are left, are all.
use Rattle.std.proofs.Common.{◌≡◌, ◌++◌, drop}
use Rattle.ap_defs.specs.Types.{locals_of}
use Rattle.ap_instance.proofs.parts.copy_locals.Given as goal

abbrev pub invariant-loop-local : goal.invariant-loop-local
invariant-loop-local l = locals_of l.copied.items ++ locals_of (drop l.local-index l.locals) ≡ locals_of l.locals
