-- What is left of the derivation is to be no higher than what is left of the depth.
use Rattle.std.proofs.Common.{◌≡◌, ◌≤◌, nat_le}
use Rattle.ap_defs.specs.Derivations.{derivation_of, height, derivation_weight}
use Rattle.ap_cover.proofs.within.+within.Given as goal

abbrev pub decreases-within : goal.decreases-within
decreases-within l = derivation_weight (derivation_of l.derivation.now)

abbrev pub invariant-loop-rest : goal.invariant-loop-rest
invariant-loop-rest l = record {
  all : nat_le (height (derivation_of l.rest)) l.left ≡ nat_le (height (derivation_of l.fn.derivation)) l.fn.depth;
  smaller : derivation_weight (derivation_of l.rest) ≤ derivation_weight (derivation_of l.fn.derivation);
}

abbrev pub decreases-loop-rest : goal.decreases-loop-rest
decreases-loop-rest l = derivation_weight (derivation_of l.rest)
