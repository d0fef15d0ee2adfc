-- The left parts of what is left have fewer levels than what is dropped.
use Rattle.ap_defs.specs.Types.{type_of}
use Rattle.ap_defs.specs.Lefts.{LeftsBelow}
use Rattle.ap_defs.specs.Weights.{type_weight}
use Rattle.ap_defs.specs.declared.terms.Ty.TheViews.{size-Ty}
use Rattle.ap_defs.proofs.terms.Ty.+drop.Given as goal

abbrev pub invariant-loop-self : goal.invariant-loop-self
invariant-loop-self l = LeftsBelow (size-Ty l.fn.self) l.self

abbrev pub decreases-loop-self : goal.decreases-loop-self
decreases-loop-self l = type_weight (type_of l.self)
