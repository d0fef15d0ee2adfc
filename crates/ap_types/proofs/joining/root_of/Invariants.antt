-- The way to the root so far; each link goes to an earlier place.
use Rattle.ap_types.specs.Triangular.{shapes_of_nodes}
use Rattle.ap_types.proofs.LinkLemmas.{Follows}
use Rattle.ap_types.proofs.joining.root_of.Given as goal

abbrev pub invariant-links : goal.invariant-links
invariant-links l = Follows (shapes_of_nodes l.fn.nodes) l.fn.x (shapes_of_nodes l.nodes) l.at l.next

abbrev pub decreases-links : goal.decreases-links
decreases-links l = l.at
