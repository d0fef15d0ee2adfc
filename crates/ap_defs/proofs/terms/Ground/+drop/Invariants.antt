-- What is left is no larger than what is dropped.
use Rattle.std.proofs.Common.{◌≤◌}
use Rattle.ap_defs.specs.declared.terms.Ground.TheViews.{size-Ground}
use Rattle.ap_defs.proofs.terms.Ground.+drop.Given as goal

abbrev pub invariant-loop-self : goal.invariant-loop-self
invariant-loop-self l = size-Ground l.self ≤ size-Ground l.fn.self
