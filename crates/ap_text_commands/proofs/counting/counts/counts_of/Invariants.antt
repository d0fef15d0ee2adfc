-- The clauses of the predicates that are left come behind those that are there.
use Rattle.std.proofs.Common.{◌≡◌, ◌++◌, length, map}
use Rattle.ap_defs.specs.Goals.{program_in}
use Rattle.ap_text_commands.specs.Rows.{counts_in_rows}
use Rattle.ap_text_commands.proofs.counting.counts.counts_of.Given as goal

abbrev pub invariant-adding : goal.invariant-adding
invariant-adding l =
    l.counts.items ++ counts_in_rows (program_in l.rest) (map (λ r. r.items) l.rows) ≡ counts_in_rows (program_in l.fn.program) (map (λ r. r.items) l.fn.table)

abbrev pub decreases-adding : goal.decreases-adding
decreases-adding l = length l.rest
