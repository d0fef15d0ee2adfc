-- The clauses so far are carried out.
use Rattle.std.proofs.Common.{◌≡◌, map}
use Rattle.ap_defs.specs.RawTerms.{raw_of}
use Rattle.ap_defs.specs.Goals.{clause_of, clause_over}
use Rattle.ap_program.specs.CarryingOut.{carried_out, map_clause}
use Rattle.ap_restrict.proofs.programs.carry_clauses.Given as goal

abbrev pub invariant-loop-clause : goal.invariant-loop-clause
invariant-loop-clause l = map clause_of l.carried.items ≡ map (map_clause carried_out) (map (clause_over raw_of) l.yielded)
