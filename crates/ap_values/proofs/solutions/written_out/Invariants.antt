-- The shapes so far and those of the rest are all.
use Rattle.std.proofs.Common.{◌≡◌, ◌++◌, ◌-◌, map}
use Rattle.ap_defs.specs.Types.{shape_of}
use Rattle.ap_types.specs.Triangular.{shapes_of_nodes, values_from, assignment_of}
use Rattle.ap_values.proofs.solutions.written_out.Given as goal

abbrev pub invariant-loop-x : goal.invariant-loop-x
invariant-loop-x l = map shape_of l.shapes.items ++ values_from (shapes_of_nodes l.solved.nodes.items) l.x (l.solved.holes - l.x) ≡ assignment_of l.solved
