-- What is left weighs no more than what is dropped.
use Rattle.std.proofs.Common.{◌≤◌}
use Rattle.ap_defs.specs.Derivations.{derivation_weight}
use Rattle.ap_shared.specs.LineDerivations.{derivation_lines}
use Rattle.ap_shared.proofs.derivations.SharedDerivation.+drop.Given as goal

abbrev pub invariant-loop-self : goal.invariant-loop-self
invariant-loop-self l = derivation_weight (derivation_lines l.self) ≤ derivation_weight (derivation_lines l.fn.self)

abbrev pub decreases-loop-self : goal.decreases-loop-self
decreases-loop-self l = derivation_weight (derivation_lines l.self)
