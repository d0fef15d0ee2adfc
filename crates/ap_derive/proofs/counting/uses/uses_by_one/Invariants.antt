use Rattle.std.proofs.Common.{◌≡◌, length, map}
use Rattle.std.specs.List.{AllByRecursion}
use Rattle.ap_defs.specs.Goals.{goal_of, program_in}
use Rattle.ap_derive.specs.Tables.{counts_of, with_uses}
use Rattle.ap_derive.specs.Uses.{use_table, uses_in_each}
use Rattle.ap_derive.proofs.counting.uses.uses_by_one.Given as goal

-- with the uses at the paths that are left the table has all of them; and each of these leads to an answer
abbrev pub invariant-counting : goal.invariant-counting
invariant-counting g l =
    (with_uses (uses_in_each (program_in l.fn.question.program.now) (goal_of l.fn.question.goal.now) (map (g.D.Derive.at l.from) l.rest)) (counts_of l.table)
    ≡ use_table (program_in l.fn.question.program.now)
    (uses_in_each (program_in l.fn.question.program.now) (goal_of l.fn.question.goal.now) (map (g.D.Derive.at l.fn.from) l.fn.paths)))
    × AllByRecursion (g.D.Derive.leads l.from) l.rest

abbrev pub decreases-counting : goal.decreases-counting
decreases-counting g l = length l.rest
