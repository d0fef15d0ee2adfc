use Rattle.std.proofs.Common.{map}
use Rattle.ap_defs.specs.RawTerms.{raw_of}
use Rattle.ap_defs.specs.Types.{constructor_of}
use Rattle.ap_defs.specs.Goals.{clause_over}
use Rattle.ap_restrict.proofs.ScanLemmas.{lists_next}
use Rattle.ap_restrict.proofs.programs.scan_lists.Goals as goal

pub loop-clauses-preserved : goal.loop-clauses-preserved
loop-clauses-preserved c =
    lists_next (map constructor_of c.args.setting.now.sig.now.constructors) (clause_over raw_of) c.args.lists.now c.loop-clauses.clauses-index c.clauses-item.result c.clauses-item.result
    c.items.result.now c.loop-clauses.best c.in_ok-with.with c.loop-clauses-test.true c.clauses-item.is c.items.ensures c.in_ok-with.ensures c.loop-clauses.invariant
