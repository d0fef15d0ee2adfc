-- The places are those of the table, and open ones.
use Rattle.std.proofs.Common.{◌≡◌, ℕ, length}
use Rattle.ap_types.specs.Solving.{shape_at}
use Rattle.ap_types.specs.Triangular.{shapes_of_nodes}
use Rattle.ap_types.proofs.loading.with_places.Given as goal

abbrev pub invariant-loop-x : goal.invariant-loop-x
invariant-loop-x l =
    ((y : ℕ) → shape_at (shapes_of_nodes l.wider.items) y ≡ shape_at (shapes_of_nodes l.fn.nodes.items) y) × (length l.wider.items ≡ l.x)
