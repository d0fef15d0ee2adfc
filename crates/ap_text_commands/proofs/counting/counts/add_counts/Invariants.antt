-- The clauses that are left come behind those that are there.
use Rattle.std.proofs.Common.{◌≡◌, ◌++◌, length, map}
use Rattle.ap_defs.specs.Goals.{clause_of}
use Rattle.ap_text_commands.specs.Rows.{counts_in_row}
use Rattle.ap_text_commands.proofs.counting.counts.add_counts.Given as goal

abbrev pub invariant-adding : goal.invariant-adding
invariant-adding l =
    l.counts.items ++ counts_in_row (map clause_of l.rest) l.numbers ≡ l.fn.counts.items ++ counts_in_row (map clause_of l.fn.clauses) l.fn.row

abbrev pub decreases-adding : goal.decreases-adding
decreases-adding l = length l.rest
