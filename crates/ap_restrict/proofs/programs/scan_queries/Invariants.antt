-- The first fault of the items before and of the queries so far.
use Rattle.std.proofs.Common.{List, map, take, ◌++◌}
use Rattle.ap_defs.specs.RawTerms.{raw_of}
use Rattle.ap_defs.specs.Types.{constructor_of}
use Rattle.ap_defs.specs.Goals.{query_over}
use Rattle.ap_program.specs.NameRestriction.{RawItem, query}
use Rattle.ap_restrict.specs.Scans.{IsScan}
use Rattle.ap_restrict.proofs.programs.scan_queries.Given as goal

abbrev pub invariant-loop-query : goal.invariant-loop-query
invariant-loop-query l =
    (items : List RawItem) → IsScan (map constructor_of l.sig.constructors) items l.fn.before
    → IsScan (map constructor_of l.sig.constructors) (items ++ map query (map (query_over raw_of) (take l.query-index l.queries))) l.best
