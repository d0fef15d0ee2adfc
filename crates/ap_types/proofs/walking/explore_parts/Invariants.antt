-- The steps so far; each goes back, or on to a new place.
use Rattle.std.proofs.Common.{◌+◌, ◌*◌, length}
use Rattle.ap_types.specs.Triangular.{shapes_of_nodes}
use Rattle.ap_types.specs.Walking.{new_count}
use Rattle.ap_types.proofs.WalkLemmas.{Explores}
use Rattle.ap_types.proofs.walking.explore_parts.Given as goal

abbrev pub invariant-steps : goal.invariant-steps
invariant-steps l = Explores (shapes_of_nodes l.nodes) l.fn.walk.marks.items l.start l.walk.marks.items l.walk.order.items l.walk.path.items

abbrev pub decreases-steps : goal.decreases-steps
decreases-steps l = length l.walk.path.items + 2 * new_count l.walk.marks.items
