-- The terms so far are carried out.
use Rattle.std.proofs.Common.{◌≡◌, map}
use Rattle.ap_defs.specs.RawTerms.{raw_of}
use Rattle.ap_defs.specs.Terms.{term_of}
use Rattle.ap_program.specs.CarryingOut.{carried_out}
use Rattle.ap_restrict.proofs.owned.carry_own_terms.Given as goal

abbrev pub invariant-loop-t : goal.invariant-loop-t
invariant-loop-t l = map term_of l.carried.items ≡ map carried_out (map raw_of l.yielded)
