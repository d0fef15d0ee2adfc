use Rattle.std.proofs.Common.{arith}
use Rattle.ap_derive.proofs.TableLemmas.{use_none, use_there}
use Rattle.ap_derive.proofs.counting.tables.add_use.Goals as goal

pub returns-then-place-len : goal.returns-then-place-len
returns-then-place-len c =
    use_there c.args.table.now.items c.args.pred c.args.number c.index_mut.result.now c.add_to_row.new.row (omega arith)
    c.index_mut.ensures.value c.add_to_row.ensures

pub returns-else-place-len : goal.returns-else-place-len
returns-else-place-len c = use_none c.args.table.now.items c.args.pred c.args.number (omega arith)
