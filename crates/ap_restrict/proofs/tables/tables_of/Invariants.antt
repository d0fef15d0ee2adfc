-- Each table so far is that of its sort.
use Rattle.ap_defs.specs.Types.{signature_of}
use Rattle.ap_restrict.specs.Heads.{AreTables}
use Rattle.ap_restrict.proofs.tables.tables_of.Given as goal

abbrev pub invariant-loop-sort : goal.invariant-loop-sort
invariant-loop-sort l = AreTables (signature_of l.sig).constructors l.tables.items
