-- The machines for which branches stand.
use Rattle.std.specs.Prelude.{ℕ, Bool, true, false, List, [], ◌∷◌}
use Rattle.ap_store.specs.Views.{kinds, present, versions}
use Rattle.ap_machine.specs.Brought.{vars_of_brought}
use Rattle.ap_machine.specs.Positions.{Position}
use Rattle.ap_machine.specs.Stacks.{cells_of, waiting_in}
use Rattle.ap_machine.specs.Tracks.{Track}
use Rattle.ap_machine.specs.Views.{state_in}
use Rattle.ap_machine.specs.declared.machine.Machine.{Machine}

abbrev pub position_of : Machine → Position
position_of b = record { waiting = waiting_in b.goals; path = b.path.items; state = state_in b.store; brought = vars_of_brought b.brought.items }

-- with all that it can go back to
abbrev pub track_of : Machine → Track
track_of b = record { versions = versions b.store; kinds = kinds b.store; cells = cells_of b.goals; path = b.path.items; brought = b.brought.items }

-- the next number
abbrev pub next_of : Machine → ℕ
next_of b = (present b.store).next

abbrev pub position_if : Bool → Position → List Position
position_if true p = p ∷ []
position_if false p = []
