use Rattle.ap_derive.specs.Tables.{counts_of}
use Rattle.ap_derive.proofs.TableLemmas.{unused_whole}
use Rattle.ap_derive.proofs.counting.tables.unused_table.Goals as goal

pub returns : goal.returns
returns c = unused_whole (counts_of c.filling.table) c.filling.rest.now c.args.program.now c.in_default.ensures.cases c.filling.invariant
