use Rattle.std.proofs.Common.{◌≡◌}
use Rattle.ap_defs.specs.Goals.{program_in}
use Rattle.ap_defs.specs.Types.{locals_of}
use Rattle.ap_turns.specs.Marks.{marks_from}
use Rattle.ap_machine.specs.Machines.{position_of}
use Rattle.ap_backchain.specs.Turns.{turns_from}
use Rattle.ap_machine.specs.Unbound.{answer_by_unbound}
use Rattle.ap_backchain.proofs.standing.advance.Given as goal

-- the machine has the marks and the path of the first one
abbrev pub invariant-advancing : goal.invariant-advancing
invariant-advancing l = record {
  marks : marks_from (program_in l.clauses) (answer_by_unbound (locals_of l.locals)) (position_of l.here) ≡ marks_from (program_in l.clauses) (answer_by_unbound (locals_of l.locals)) (position_of l.fn.machine);
  path : l.here.path.items ≡ l.fn.machine.path.items;
}

abbrev pub decreases-advancing : goal.decreases-advancing
decreases-advancing l = turns_from (program_in l.clauses) (position_of l.here)
