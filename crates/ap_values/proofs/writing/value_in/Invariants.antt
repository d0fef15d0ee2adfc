-- What comes next, within the layers, is the whole.
use Rattle.std.proofs.Common.{◌≡◌, ◌+◌}
use Rattle.ap_types.specs.Triangular.{shapes_of_nodes, value_of}
use Rattle.ap_values.specs.Writing.{shape_within, shape_next, work_within, work_next}
use Rattle.ap_values.proofs.writing.value_in.Given as goal

abbrev pub invariant-writing : goal.invariant-writing
invariant-writing l =
    shape_within (value_of (shapes_of_nodes l.nodes)) l.layers.items (shape_next (value_of (shapes_of_nodes l.nodes)) l.now) ≡ value_of (shapes_of_nodes l.nodes) l.x

abbrev pub decreases-writing : goal.decreases-writing
decreases-writing l = work_next (value_of (shapes_of_nodes l.nodes)) l.now + work_within (value_of (shapes_of_nodes l.nodes)) l.layers.items
