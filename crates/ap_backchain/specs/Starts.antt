-- Where the search of a query begins.
use Rattle.std.specs.Prelude.{ℕ, [], ◌∷◌}
use Rattle.ap_defs.specs.Goals.{NominalQuery}
use Rattle.ap_defs.specs.Resolution.{first_state}
use Rattle.ap_machine.specs.Positions.{Position}

abbrev pub first_position : ℕ → NominalQuery → Position
first_position d q = record { waiting = record { goal = q.goal; depth = d } ∷ []; path = []; state = first_state q; brought = [] }
