use Rattle.std.proofs.Common.{length, ◌≡◌}
use Rattle.ap_backchain.specs.Searches.{HasPoints, pending_positions}
use Rattle.ap_backchain.proofs.ways.resume.Given as goal

-- the choices so far had no way left, so that the others have all
abbrev pub invariant-resuming : goal.invariant-resuming
invariant-resuming l = record {
  points : HasPoints l.machine l.points;
  left : pending_positions l.machine l.points ≡ pending_positions l.fn.machine l.fn.points;
}

abbrev pub decreases-resuming : goal.decreases-resuming
decreases-resuming l = length l.points.items
