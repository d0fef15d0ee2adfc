-- What is left weighs no more than what is dropped.
use Rattle.std.proofs.Common.{◌≤◌}
use Rattle.ap_defs.specs.Types.{shape_of}
use Rattle.ap_defs.specs.Weights.{shape_weight}
use Rattle.ap_defs.proofs.terms.Shape.+drop.Given as goal

abbrev pub invariant-loop-self : goal.invariant-loop-self
invariant-loop-self l = shape_weight (shape_of l.self) ≤ shape_weight (shape_of l.fn.self)

abbrev pub decreases-loop-self : goal.decreases-loop-self
decreases-loop-self l = shape_weight (shape_of l.self)
