-- The bound so far, and that of the equations that are left.
use Rattle.std.proofs.Common.{◌≡◌, map, drop}
use Rattle.std.specs.Prelude.{max}
use Rattle.ap_types.specs.Equations.{equation_of, equations_bound}
use Rattle.ap_types.proofs.equations.bound_in_equations.Given as goal

abbrev pub invariant-loop-e : goal.invariant-loop-e
invariant-loop-e l = max l.bound (equations_bound (map equation_of (drop l.e-index l.equations))) ≡ equations_bound (map equation_of l.equations)
