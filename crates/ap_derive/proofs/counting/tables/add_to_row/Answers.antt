use Rattle.std.proofs.Common.{arith}
use Rattle.ap_derive.proofs.TableLemmas.{more_at, more_past}
use Rattle.ap_derive.proofs.counting.tables.add_to_row.Goals as goal

pub returns-then-number-len : goal.returns-then-number-len
returns-then-number-len c = more_past c.args.row.now.items c.args.number (omega arith)

pub returns : goal.returns
returns c =
    more_at c.args.row.now.items c.args.number c.index.result.now c.saturating_add.result (omega arith) (omega arith)
    c.index.ensures c.saturating_add.ensures
