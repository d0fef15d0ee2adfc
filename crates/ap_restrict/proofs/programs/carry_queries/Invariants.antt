-- The queries so far are carried out.
use Rattle.std.proofs.Common.{◌≡◌, map}
use Rattle.ap_defs.specs.RawTerms.{raw_of}
use Rattle.ap_defs.specs.Goals.{query_of, query_over}
use Rattle.ap_program.specs.CarryingOut.{carried_out, map_query}
use Rattle.ap_restrict.proofs.programs.carry_queries.Given as goal

abbrev pub invariant-loop-query : goal.invariant-loop-query
invariant-loop-query l = map query_of l.carried.items ≡ map (map_query carried_out) (map (query_over raw_of) l.yielded)
