use Rattle.std.proofs.Common.{◌≡◌, ◌++◌, length, map}
use Rattle.ap_derive.specs.Tables.{added_rows, counts_of}
use Rattle.ap_derive.proofs.counting.tables.sum_of_tables.Given as goal

-- the sums of what is left come behind those that are there
abbrev pub invariant-adding : goal.invariant-adding
invariant-adding l = counts_of l.sums ++ added_rows (map (λ r. r.items) l.left) (map (λ r. r.items) l.right) ≡ added_rows (map (λ r. r.items) l.fn.first) (map (λ r. r.items) l.fn.second)

abbrev pub decreases-adding : goal.decreases-adding
decreases-adding l = length l.left
