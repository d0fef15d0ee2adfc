-- The lists so far are carried out.
use Rattle.std.proofs.Common.{◌≡◌, map}
use Rattle.ap_defs.specs.RawTerms.{raw_of}
use Rattle.ap_defs.specs.Goals.{clause_of, clause_over}
use Rattle.ap_program.specs.CarryingOut.{carried_out, map_clause}
use Rattle.ap_restrict.proofs.programs.carry_lists.Given as goal

abbrev pub invariant-loop-clauses : goal.invariant-loop-clauses
invariant-loop-clauses l = map (map clause_of) l.carried.items ≡ map (map (map_clause carried_out)) (map (map (clause_over raw_of)) l.yielded)
