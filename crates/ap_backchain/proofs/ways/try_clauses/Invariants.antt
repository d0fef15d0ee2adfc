use Rattle.std.proofs.Common.{◌≡◌, ◌-◌, length}
use Rattle.ap_machine.specs.Machines.{position_of, track_of}
use Rattle.ap_backchain.specs.ChoicePoints.{positions_left}
use Rattle.ap_backchain.specs.declared.points.Rest.TheVariants as rests
use Rattle.ap_backchain.proofs.ways.try_clauses.Given as goal

-- the clauses so far have no solution, and all is as before
abbrev pub invariant-trying : goal.invariant-trying
invariant-trying l = record {
  track : track_of l.machine ≡ track_of l.fn.machine;
  position : position_of l.machine ≡ position_of l.fn.machine;
  points : l.points.items ≡ l.fn.points.items;
  left : positions_left (rests.Clauses l.untried) (position_of l.fn.machine) ≡ positions_left (rests.Clauses (record l.untried { tried = l.i })) (position_of l.fn.machine);
}

abbrev pub decreases-trying : goal.decreases-trying
decreases-trying l = length l.clauses - l.i
