-- What is left of the derivation decides.
use Rattle.std.proofs.Common.{◌≡◌, ◌≤◌}
use Rattle.ap_defs.specs.Derivations.{derivation_of, derivation_weight}
use Rattle.ap_cover.specs.Ground as spec
use Rattle.ap_cover.proofs.ground.+is_ground_derivation.Given as goal

abbrev pub decreases-is_ground_derivation : goal.decreases-is_ground_derivation
decreases-is_ground_derivation l = derivation_weight (derivation_of l.derivation.now)

abbrev pub invariant-loop-rest : goal.invariant-loop-rest
invariant-loop-rest l = record {
  all : spec.is_ground_derivation (derivation_of l.rest) ≡ spec.is_ground_derivation (derivation_of l.fn.derivation);
  smaller : derivation_weight (derivation_of l.rest) ≤ derivation_weight (derivation_of l.fn.derivation);
}

abbrev pub decreases-loop-rest : goal.decreases-loop-rest
decreases-loop-rest l = derivation_weight (derivation_of l.rest)
