-- What is left, below what is above it, is all.
use Rattle.std.proofs.Common.{◌≡◌}
use Rattle.ap_defs.specs.RawTerms.{raw_of}
use Rattle.ap_defs.specs.Terms.{term_of}
use Rattle.ap_program.specs.CarryingOut.{carried_out}
use Rattle.ap_restrict.specs.Owned.{brought_back}
use Rattle.ap_restrict.proofs.CarryingLemmas.{raw_size}
use Rattle.ap_restrict.proofs.owned.carry_owned.Given as goal

abbrev pub invariant-loop-head : goal.invariant-loop-head
invariant-loop-head l = brought_back (term_of l.above) (carried_out (raw_of l.rest)) ≡ carried_out (raw_of l.fn.t)

abbrev pub decreases-loop-head : goal.decreases-loop-head
decreases-loop-head l = raw_size (raw_of l.rest)
