-- The copies so far, and those of the identifiers that are left, are all.
use Rattle.std.proofs.Common.{◌≡◌, ◌++◌, drop}
use Rattle.ap_defs.specs.Types.{locals_of}
use Rattle.ap_stream.specs.Shown.{shown_locals}
use Rattle.ap_stream.proofs.shown.shown_locals.Given as goal

abbrev pub invariant-copying : goal.invariant-copying
invariant-copying l = locals_of l.shown.items ++ shown_locals (locals_of (drop l.local-index l.locals)) ≡ shown_locals (locals_of l.locals)
