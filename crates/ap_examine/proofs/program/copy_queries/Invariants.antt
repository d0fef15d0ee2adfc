-- The copies so far, and the queries that are left, are all.
use Rattle.std.proofs.Common.{◌≡◌, ◌++◌, drop, map}
use Rattle.ap_defs.specs.Goals.{query_of}
use Rattle.ap_examine.proofs.program.copy_queries.Given as goal

abbrev pub invariant-loop-query : goal.invariant-loop-query
invariant-loop-query l = map query_of l.copied.items ++ map query_of (drop l.query-index l.queries) ≡ map query_of l.queries
