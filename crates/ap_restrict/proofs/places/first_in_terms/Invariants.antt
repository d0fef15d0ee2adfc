-- The first variable of all is that of those that are left.
use Rattle.std.proofs.Common.{◌≡◌, map, drop}
use Rattle.ap_defs.specs.RawTerms.{raw_of}
use Rattle.ap_program.specs.NameRestriction.{in_each}
use Rattle.ap_restrict.specs.Places.{first_var, variables_at}
use Rattle.ap_restrict.proofs.places.first_in_terms.Given as goal

abbrev pub invariant-loop-t : goal.invariant-loop-t
invariant-loop-t l = first_var (in_each (variables_at l.place) (map raw_of (drop l.t-index l.ts))) ≡ first_var (in_each (variables_at l.place) (map raw_of l.ts))
