-- All stay as they are if those that are left do.
use Rattle.std.proofs.Common.{◌≡◌, drop}
use Rattle.ap_defs.specs.Types.{locals_of}
use Rattle.ap_stream.specs.Shown.{shown_locals}
use Rattle.ap_stream.proofs.shown.has_unshown.Given as goal

abbrev pub invariant-looking : goal.invariant-looking
invariant-looking l =
    shown_locals (locals_of (drop l.local-index l.locals)) ≡ locals_of (drop l.local-index l.locals) → shown_locals (locals_of l.locals) ≡ locals_of l.locals
