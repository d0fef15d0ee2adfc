-- The bound so far, and that of the names that are left.
use Rattle.std.proofs.Common.{◌≡◌, drop}
use Rattle.std.specs.Prelude.{max}
use Rattle.ap_types.specs.Equations.{names_bound}
use Rattle.ap_types.proofs.equations.bound_in_names.Given as goal

abbrev pub invariant-loop-x : goal.invariant-loop-x
invariant-loop-x l = max l.bound (names_bound (drop l.x-index l.names)) ≡ names_bound l.names
