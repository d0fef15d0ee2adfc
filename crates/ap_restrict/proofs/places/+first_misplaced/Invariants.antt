-- What is left of the term has the first one.
use Rattle.std.proofs.Common.{◌≡◌, ◌≤◌}
use Rattle.ap_defs.specs.RawTerms.{raw_of}
use Rattle.ap_restrict.specs.Places.{first_var, misplaced}
use Rattle.ap_restrict.proofs.CarryingLemmas.{raw_size}
use Rattle.ap_restrict.proofs.places.+first_misplaced.Given as goal

abbrev pub decreases-first_misplaced : goal.decreases-first_misplaced
decreases-first_misplaced l = raw_size (raw_of l.t.now)

abbrev pub invariant-loop-rest : goal.invariant-loop-rest
invariant-loop-rest l = record {
  all : first_var (misplaced (raw_of l.rest)) ≡ first_var (misplaced (raw_of l.fn.t));
  smaller : raw_size (raw_of l.rest) ≤ raw_size (raw_of l.fn.t);
}

abbrev pub decreases-loop-rest : goal.decreases-loop-rest
decreases-loop-rest l = raw_size (raw_of l.rest)
