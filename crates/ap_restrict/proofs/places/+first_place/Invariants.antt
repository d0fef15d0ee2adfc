-- What is left of the term has the first one.
use Rattle.std.proofs.Common.{◌≡◌, ◌≤◌}
use Rattle.ap_defs.specs.RawTerms.{raw_of}
use Rattle.ap_program.specs.NameRestriction.{variable_places}
use Rattle.ap_restrict.specs.Places.{first_var}
use Rattle.ap_restrict.proofs.CarryingLemmas.{raw_size}
use Rattle.ap_restrict.proofs.places.+first_place.Given as goal

abbrev pub decreases-first_place : goal.decreases-first_place
decreases-first_place l = raw_size (raw_of l.t.now)

abbrev pub invariant-loop-rest : goal.invariant-loop-rest
invariant-loop-rest l = record {
  all : first_var (variable_places (raw_of l.rest)) ≡ first_var (variable_places (raw_of l.fn.t));
  smaller : raw_size (raw_of l.rest) ≤ raw_size (raw_of l.fn.t);
}

abbrev pub decreases-loop-rest : goal.decreases-loop-rest
decreases-loop-rest l = raw_size (raw_of l.rest)
