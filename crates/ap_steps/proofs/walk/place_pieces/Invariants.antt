-- With the pieces that are left, the conditions so far and what waits are all.
use Rattle.std.proofs.Common.{◌≡◌, ◌+◌, ◌++◌, map, reverse, length}
use Rattle.ap_steps.specs.Steps.{DerivationWriting, premises_in, sides_in}
use Rattle.ap_steps.specs.Waits.{premise_nodes, premises_steps, steps_left, waiting_nodes}
use Rattle.ap_steps.specs.Writers.{bare, piece_of}
use Rattle.ap_steps.proofs.walk.place_pieces.Given as goal

abbrev pub invariant-pieces : goal.invariant-pieces
invariant-pieces l = record {
  sides : sides_in (map piece_of l.pieces.items) ++ reverse (map bare l.sides.items) ≡ sides_in (map piece_of l.fn.pieces.items);
  steps : (w : DerivationWriting) → premises_steps w l.depth (premises_in (map piece_of l.pieces.items)) ++ steps_left w l.waiting.items
      ≡ premises_steps w l.depth (premises_in (map piece_of l.fn.pieces.items)) ++ steps_left w l.fn.waiting.items;
  nodes : premise_nodes (premises_in (map piece_of l.pieces.items)) + waiting_nodes l.waiting.items
      ≡ premise_nodes (premises_in (map piece_of l.fn.pieces.items)) + waiting_nodes l.fn.waiting.items;
}

abbrev pub decreases-pieces : goal.decreases-pieces
decreases-pieces l = length l.pieces.items
