-- What is left of the term decides.
use Rattle.std.proofs.Common.{◌≡◌, ◌≤◌}
use Rattle.ap_defs.specs.Terms.{term_of}
use Rattle.ap_defs.specs.Unification.{size}
use Rattle.ap_cover.specs.Ground as spec
use Rattle.ap_cover.proofs.ground.+is_ground_term.Given as goal

abbrev pub decreases-is_ground_term : goal.decreases-is_ground_term
decreases-is_ground_term l = size (term_of l.t.now)

abbrev pub invariant-loop-rest : goal.invariant-loop-rest
invariant-loop-rest l = record {
  all : spec.is_ground_term (term_of l.rest) ≡ spec.is_ground_term (term_of l.fn.t);
  smaller : size (term_of l.rest) ≤ size (term_of l.fn.t);
}

abbrev pub decreases-loop-rest : goal.decreases-loop-rest
decreases-loop-rest l = size (term_of l.rest)
