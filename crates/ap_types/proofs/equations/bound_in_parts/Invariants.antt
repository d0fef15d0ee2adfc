-- The bound so far, and those of the part in hand and of the parts that wait, give the whole.
use Rattle.std.proofs.Common.{◌≡◌, ◌+◌, max}
use Rattle.ap_defs.specs.Types.{shape_of}
use Rattle.ap_types.specs.Equations.{bound_of}
use Rattle.ap_types.specs.Loading.{lent_shapes}
use Rattle.ap_types.specs.Solving.{size}
use Rattle.ap_types.proofs.PartLemmas.{bounds, sizes}
use Rattle.ap_types.proofs.equations.bound_in_parts.Given as goal

abbrev pub invariant-parts : goal.invariant-parts
invariant-parts l = max l.bound (max (bounds (lent_shapes l.waiting.items)) (bound_of (shape_of l.part))) ≡ bound_of (shape_of l.t)

abbrev pub decreases-parts : goal.decreases-parts
decreases-parts l = sizes (lent_shapes l.waiting.items) + size (shape_of l.part)
