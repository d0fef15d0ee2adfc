use Rattle.std.proofs.Common.{◌≡◌, ◌++◌, ◌∷◌, map}
use Rattle.ap_defs.specs.Answers.{outs_of}
use Rattle.ap_defs.specs.Goals.{program_in}
use Rattle.ap_paths.specs.Limits.{part}
use Rattle.ap_backchain.specs.Ends.{kept_out}
use Rattle.ap_machine.specs.Machines.{position_of}
use Rattle.ap_machine.specs.Positions.{outs_from, outs_from_each}
use Rattle.ap_backchain.specs.Searches.{HasPoints, pending_positions}
use Rattle.ap_backchain.specs.Turns.{turns_from_each}
use Rattle.ap_machine.specs.Asking.{answering_of}
use Rattle.ap_backchain.proofs.run.outputs_from.Given as goal

-- the outputs so far and those that are wanted of those to come are all
abbrev pub invariant-searching : goal.invariant-searching
invariant-searching l = record {
  all : outs_of l.outs.items ++ map (kept_out l.paths) (part l.wanted (outs_from_each (program_in l.clauses) (answering_of l.asked) (position_of l.machine ∷ pending_positions l.machine l.points)))
      ≡ map (kept_out l.paths) (part l.fn.limit (outs_from (program_in l.clauses) (answering_of l.asked) (position_of l.fn.first)));
  points : HasPoints l.machine l.points;
}

abbrev pub decreases-searching : goal.decreases-searching
decreases-searching l = turns_from_each (program_in l.clauses) (position_of l.machine ∷ pending_positions l.machine l.points)
