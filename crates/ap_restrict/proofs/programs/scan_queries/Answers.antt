use Rattle.std.proofs.Common.{map, arith}
use Rattle.ap_defs.specs.RawTerms.{raw_of}
use Rattle.ap_defs.specs.Types.{constructor_of}
use Rattle.ap_defs.specs.Goals.{query_over}
use Rattle.ap_program.specs.NameRestriction.{query}
use Rattle.ap_restrict.proofs.ScanLemmas.{scan_next, scan_whole}
use Rattle.ap_restrict.proofs.programs.scan_queries.Goals as goal

pub loop-query-preserved : goal.loop-query-preserved
loop-query-preserved c items s =
    scan_next (map constructor_of c.args.sig.now.constructors) query (query_over raw_of) c.args.queries.now c.loop-query.query-index c.query-item.result
    c.query-item.result items c.loop-query.best c.in_ok-new.new c.earlier-best.result c.loop-query-test.true c.query-item.is c.earlier-best.ensures c.in_ok-new.ensures (c.loop-query.invariant items s)

pub returns : goal.returns
returns c items s =
    scan_whole (map constructor_of c.args.sig.now.constructors) query (query_over raw_of) c.args.queries.now c.loop-query.query-index items c.loop-query.best
    (omega arith) (c.loop-query.invariant items s)
