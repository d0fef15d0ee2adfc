use Rattle.std.proofs.Common.{map, ◌≡◌}
use Rattle.ap_defs.specs.Goals.{program_in}
use Rattle.ap_machine.specs.Machines.{position_of}
use Rattle.ap_derive.specs.Nodes.{selected_node}
use Rattle.ap_derive.specs.Solved.{solved_at}
use Rattle.ap_derive.proofs.SolvedLemmas.{goals_left, with_nodes}
use Rattle.ap_derive.proofs.selecting.select_along.Given as goal

-- the goals so far and those that are still to be selected are all
abbrev pub invariant-selecting : goal.invariant-selecting
invariant-selecting l =
    solved_at (program_in l.clauses) l.path (position_of l.fn.machine)
    ≡ with_nodes (map selected_node l.all.items) (solved_at (program_in l.clauses) l.path (position_of l.machine))

abbrev pub decreases-selecting : goal.decreases-selecting
decreases-selecting l = goals_left (solved_at (program_in l.clauses) l.path (position_of l.machine))
