use Rattle.std.proofs.Common.{map, arith}
use Rattle.ap_defs.specs.RawTerms.{raw_of}
use Rattle.ap_defs.specs.Types.{constructor_of}
use Rattle.ap_defs.specs.Goals.{clause_over}
use Rattle.ap_program.specs.NameRestriction.{clause}
use Rattle.ap_restrict.proofs.ScanLemmas.{scan_next, scan_whole}
use Rattle.ap_restrict.proofs.programs.scan_clauses.Goals as goal

pub loop-clause-preserved : goal.loop-clause-preserved
loop-clause-preserved c items s =
    scan_next (map constructor_of c.args.setting.now.sig.now.constructors) clause (clause_over raw_of) c.args.clauses.now c.loop-clause.clause-index c.clause-item.result
    c.clause-item.result items c.loop-clause.best c.in_ok-new.new c.earlier-best.result c.loop-clause-test.true c.clause-item.is c.earlier-best.ensures c.in_ok-new.ensures (c.loop-clause.invariant items s)

pub returns : goal.returns
returns c items s =
    scan_whole (map constructor_of c.args.setting.now.sig.now.constructors) clause (clause_over raw_of) c.args.clauses.now c.loop-clause.clause-index items c.loop-clause.best
    (omega arith) (c.loop-clause.invariant items s)
