use Rattle.std.proofs.Common.{◌≡◌, ◌++◌, length}
use Rattle.ap_derive.specs.Tables.{counts_of}
use Rattle.ap_derive.proofs.TableLemmas.{noughts_of}
use Rattle.ap_derive.proofs.counting.tables.unused_table.Given as goal

-- the rows of the predicates that are left come behind those that are there
abbrev pub invariant-filling : goal.invariant-filling
invariant-filling l = counts_of l.table ++ noughts_of l.rest ≡ noughts_of l.fn.program

abbrev pub decreases-filling : goal.decreases-filling
decreases-filling l = length l.rest
