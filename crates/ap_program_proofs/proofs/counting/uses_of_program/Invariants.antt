-- The table has the uses in the answers of the queries so far.
use Rattle.std.proofs.Common.{◌≡◌, take}
use Rattle.ap_defs.specs.Goals.{program_of}
use Rattle.ap_derive.specs.Tables.{counts_of}
use Rattle.ap_derive.specs.Uses.{use_table}
use Rattle.ap_program_proofs.specs.ProgramUses.{uses_of_queries}
use Rattle.ap_program_proofs.proofs.counting.uses_of_program.Given as goal

abbrev pub invariant-loop-place : goal.invariant-loop-place
invariant-loop-place g l =
    counts_of l.table ≡ use_table (program_of l.program).clauses (uses_of_queries (program_of l.program).clauses l.depth (take l.place (program_of l.program).queries))
