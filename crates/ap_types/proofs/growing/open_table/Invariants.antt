-- The places so far are a table of so many holes.
use Rattle.std.proofs.Common.{◌≡◌}
use Rattle.ap_types.specs.Triangular.{shapes_of_nodes}
use Rattle.ap_types.specs.Growing.{open_table}
use Rattle.ap_types.proofs.growing.open_table.Given as goal

abbrev pub invariant-loop-x : goal.invariant-loop-x
invariant-loop-x l = shapes_of_nodes l.nodes.items ≡ open_table l.x
