-- The table and pairs say what the first ones say; each step leaves fewer pairs or roots.
use Rattle.std.proofs.Common.{◌+◌, ◌*◌, length}
use Rattle.ap_types.specs.Triangular.{shapes_of_nodes}
use Rattle.ap_types.specs.Joining.{TablesLead, roots}
use Rattle.ap_types.proofs.joining.join_all.Given as goal

abbrev pub invariant-steps : goal.invariant-steps
invariant-steps l = TablesLead (shapes_of_nodes l.fn.first.nodes.items) l.fn.first.pairs.items (shapes_of_nodes l.loaded.nodes.items) l.loaded.pairs.items

abbrev pub decreases-steps : goal.decreases-steps
decreases-steps l = length l.loaded.pairs.items + 3 * roots (shapes_of_nodes l.loaded.nodes.items)
