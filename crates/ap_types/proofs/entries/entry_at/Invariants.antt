-- The places on the way stand for the same; each link goes to an earlier one.
use Rattle.std.proofs.Common.{◌≡◌, ◌<◌, length}
use Rattle.ap_types.specs.Solving.{shape_at}
use Rattle.ap_types.specs.Triangular.{shapes_of_nodes, value_of}
use Rattle.ap_types.specs.Joining.{link}
use Rattle.ap_types.proofs.entries.entry_at.Given as goal

abbrev pub invariant-links : goal.invariant-links
invariant-links l =
    (value_of (shapes_of_nodes l.nodes) l.x ≡ value_of (shapes_of_nodes l.nodes) l.at) × (l.at < length l.nodes) × (l.next ≡ link l.at (shape_at (shapes_of_nodes l.nodes) l.at))

abbrev pub decreases-links : goal.decreases-links
decreases-links l = l.at
