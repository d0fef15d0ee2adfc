use Rattle.std.proofs.Common.{◌≡◌, ◌∷◌, []}
use Rattle.ap_defs.specs.Goals.{program_in}
use Rattle.ap_machine.specs.Asking.{answering_of}
use Rattle.ap_stream.specs.Coming.{outs_coming}
use Rattle.ap_machine.specs.Machines.{position_of}
use Rattle.ap_backchain.specs.Searches.{HasPoints, pending_positions}
use Rattle.ap_backchain.specs.Turns.{turns_from_each}
use Rattle.ap_stream.proofs.search.next_output.Given as goal

-- no output came so far
abbrev pub invariant-searching : goal.invariant-searching
invariant-searching l = record {
  coming : outs_coming (program_in l.clauses) (answering_of l.asked) l.wanted l.machine l.points
      ≡ outs_coming (program_in l.clauses) (answering_of l.asked) l.fn.wanted l.fn.machine l.fn.points;
  none : l.outs.items ≡ [];
  points : HasPoints l.machine l.points;
}

abbrev pub decreases-searching : goal.decreases-searching
decreases-searching l = turns_from_each (program_in l.clauses) (position_of l.machine ∷ pending_positions l.machine l.points)
