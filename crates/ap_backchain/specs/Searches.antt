-- Whole searches: a machine, and choices of which some ways are still to be tried.
use Rattle.std.specs.Global.{Global}
use Rattle.std.specs.Prelude.{Bool, true, false, List, [], ◌∷◌, ◌++◌, Vec, reverse}
use Rattle.ap_defs.specs.Answers.{NominalOut}
use Rattle.ap_machine.specs.Machines.{position_of, track_of}
use Rattle.ap_backchain.specs.ChoicePoints.{ArePoints, positions_pending}
use Rattle.ap_machine.specs.Positions.{Position, Turned, ends, goes}
use Rattle.ap_machine.specs.declared.machine.Machine.{Machine}
use Rattle.ap_backchain.specs.declared.points.ChoicePoint.{ChoicePoint}

-- from where the search goes on by the ways that choices have left; the last point is the latest choice
abbrev pub pending_positions : Machine → Vec ChoicePoint Global → List Position
pending_positions b v = positions_pending (track_of b) (reverse v.items)

abbrev pub HasPoints : Machine → Vec ChoicePoint Global → Type 0
HasPoints b v = ArePoints (track_of b) (reverse v.items)

-- from the machine itself too, where the search goes on there
abbrev pub positions_with : Bool → Machine → Vec ChoicePoint Global → List Position
positions_with true b v = position_of b ∷ pending_positions b v
positions_with false b v = pending_positions b v

-- the machines that a turn makes of a machine, and those that were left before
abbrev pub positions_followed : Turned → List Position → List Position
positions_followed (ends o) ps = ps
positions_followed (goes rs) ps = rs ++ ps

-- the output with which a turn ends
abbrev pub ended_outs : Turned → List NominalOut
ended_outs (ends o) = o ∷ []
ended_outs (goes rs) = []
