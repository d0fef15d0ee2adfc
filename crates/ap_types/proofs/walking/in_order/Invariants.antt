-- The places so far were left, and no path is open.
use Rattle.std.proofs.Common.{◌≡◌, ◌<◌, ℕ, true, []}
use Rattle.ap_types.specs.Triangular.{shapes_of_nodes}
use Rattle.ap_types.specs.Walking.{IsWalk, is_left, walk_mark_at}
use Rattle.ap_types.proofs.walking.in_order.Given as goal

abbrev pub invariant-loop-x : goal.invariant-loop-x
invariant-loop-x l =
    IsWalk (shapes_of_nodes l.nodes) l.walk.marks.items l.walk.order.items [] × (l.walk.path.items ≡ []) × ((y : ℕ) → y < l.x → is_left (walk_mark_at l.walk.marks.items y) ≡ true)
