-- What an goal_stack stands for.
use Rattle.std.specs.Prelude.{List, ℕ}
use Rattle.ap_search.specs.Continuations.{Waiting}
use Rattle.ap_machine.specs.GoalStacks.{waiting_at}
use Rattle.ap_machine.specs.declared.goal_stack.GoalStack.{GoalStack}
use Rattle.ap_machine.specs.declared.frames.Cell.{Cell}

abbrev pub cells_of : GoalStack → List Cell
cells_of a = a.cells.items

abbrev pub first_waiting : GoalStack → ℕ
first_waiting a = a.first

-- the goals that wait, the first one first
abbrev pub waiting_in : GoalStack → List Waiting
waiting_in a = waiting_at a.cells.items a.first
