-- Machines in which the head of a clause is unified with an atom.
use Rattle.std.specs.Prelude.{◌≡◌, ℕ, ◌+◌, List, length, Option, Some, None}
use Rattle.ap_defs.specs.Goals.{NominalClause}
use Rattle.ap_defs.specs.Terms.{NominalTerm}
use Rattle.ap_machine.specs.Machines.{next_of, position_of}
use Rattle.ap_machine.specs.Positions.{clause_state, with_state}
use Rattle.ap_machine.specs.Views.{state_in}
use Rattle.ap_machine.specs.declared.machine.Machine.{Machine}

-- none where that has no solution, and else the first number of the clause's identifiers
abbrev pub HasHead : List NominalTerm → NominalClause → Machine → Option ℕ → Machine → Type 0
HasHead ts c b None d = clause_state ts (state_in b.store) c ≡ None
HasHead ts c b (Some n) d =
    (n ≡ next_of b) × (next_of d ≡ n + length c.locals) × (clause_state ts (state_in b.store) c ≡ Some (state_in d.store))
    × (position_of d ≡ with_state (state_in d.store) (position_of b))
