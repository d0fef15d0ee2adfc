-- What is left is no larger than what is dropped.
use Rattle.std.proofs.Common.{◌≤◌}
use Rattle.ap_defs.specs.declared.terms.Raw.TheViews.{size-Raw}
use Rattle.ap_defs.proofs.terms.Raw.+drop.Given as goal

abbrev pub invariant-loop-self : goal.invariant-loop-self
invariant-loop-self l = size-Raw l.self ≤ size-Raw l.fn.self
