-- The variables so far, and those of the identifiers that are left, are all.
use Rattle.std.proofs.Common.{◌≡◌, ◌++◌, drop, filter}
use Rattle.ap_defs.specs.Types.{locals_of}
use Rattle.ap_program.specs.FreeLocals.{is_free_var}
use Rattle.ap_stream.proofs.shown.free_vars.Given as goal

abbrev pub invariant-choosing : goal.invariant-choosing
invariant-choosing l = locals_of l.vars.items ++ filter is_free_var (locals_of (drop l.local-index l.locals)) ≡ filter is_free_var (locals_of l.locals)
