-- What is left is no larger than what is dropped.
use Rattle.std.proofs.Common.{◌≤◌}
use Rattle.ap_defs.specs.declared.goals.Goal.TheViews.{size-Goal}
use Rattle.ap_defs.proofs.goals.Goal.+drop.Given as goal

abbrev pub invariant-loop-self : goal.invariant-loop-self
invariant-loop-self g l = size-Goal _ l.self ≤ size-Goal _ l.fn.self
