-- What is left weighs no more than what is dropped.
use Rattle.std.proofs.Common.{◌≤◌}
use Rattle.ap_defs.specs.Derivations.{derivation_of, derivation_weight}
use Rattle.ap_defs.proofs.outcomes.Derivation.+drop.Given as goal

abbrev pub invariant-loop-self : goal.invariant-loop-self
invariant-loop-self l = derivation_weight (derivation_of l.self) ≤ derivation_weight (derivation_of l.fn.self)

abbrev pub decreases-loop-self : goal.decreases-loop-self
decreases-loop-self l = derivation_weight (derivation_of l.self)
