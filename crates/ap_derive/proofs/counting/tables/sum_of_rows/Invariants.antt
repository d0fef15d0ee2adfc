use Rattle.std.proofs.Common.{◌≡◌, ◌++◌, length}
use Rattle.ap_derive.specs.Tables.{added_row}
use Rattle.ap_derive.proofs.counting.tables.sum_of_rows.Given as goal

-- the sums of what is left come behind those that are there
abbrev pub invariant-adding : goal.invariant-adding
invariant-adding l = l.sums.items ++ added_row l.left l.right ≡ added_row l.fn.first l.fn.second

abbrev pub decreases-adding : goal.decreases-adding
decreases-adding l = length l.left
