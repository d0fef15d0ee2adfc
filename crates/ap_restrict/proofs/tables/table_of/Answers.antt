use Rattle.std.proofs.Common.{arith}
use Rattle.ap_defs.specs.Types.{constructor_of}
use Rattle.std.proofs.Common.{map}
use Rattle.ap_restrict.proofs.TableLemmas.{table_at}
use Rattle.ap_restrict.proofs.tables.table_of.Goals as goal

pub returns-then-table-sort : goal.returns-then-table-sort
returns-then-table-sort c =
    table_at (map constructor_of c.args.sig.now.constructors) c.args.tables.now c.place_of-place.result c.index-tables-place.result c.args.sort
    (omega arith) c.index-tables-place.is c.if-table-sort.true c.requires
