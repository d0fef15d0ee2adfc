-- All are where those that are left are.
use Rattle.std.proofs.Common.{◌↔◌, ◌≤◌, drop}
use Rattle.ap_types.specs.Equations.{names_bound}
use Rattle.ap_types.specs.Assignments.{AreNamesOrHoles}
use Rattle.ap_types.specs.Triangular.{assignment_of}
use Rattle.ap_types.proofs.solved.are_names_or_holes.Given as goal

abbrev pub invariant-loop-x : goal.invariant-loop-x
invariant-loop-x l =
    (AreNamesOrHoles l.name_types (assignment_of l.solved) (drop l.x-index l.names) ↔ AreNamesOrHoles l.name_types (assignment_of l.solved) l.names)
    × (names_bound (drop l.x-index l.names) ≤ l.solved.holes)
