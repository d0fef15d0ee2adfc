use Rattle.std.proofs.Common.{arith}
use Rattle.std.proofs.lemmas.Grind.{common_steps}
use Rattle.ap_steps.proofs.WaitLemmas.{bare_turned, placed_nodes, placed_sides, placed_steps}
use Rattle.ap_steps.proofs.walk.place_pieces.Goals as goal

pub pieces-preserved : goal.pieces-preserved
pieces-preserved c =
    let ps = c.pieces.pieces.items in
    let rest = c.pop.new.self.items in
    let x = c.in-Some.piece in
    record {
      sides = placed_sides ps rest x c.in-Some.ensures.items c.pieces.sides.items c.place_piece.new.sides.items _ c.in_ok-place_piece.ensures.sides c.pieces.invariant.sides;
      steps = λ w. placed_steps ps rest x c.in-Some.ensures.items w c.args.depth c.pieces.waiting.items c.place_piece.new.waiting.items _ (c.in_ok-place_piece.ensures.steps w) (c.pieces.invariant.steps w);
      nodes = placed_nodes ps rest x c.in-Some.ensures.items _ _ _ c.in_ok-place_piece.ensures.nodes c.pieces.invariant.nodes;
    }

pub returns-clause-sides : goal.returns-clause-sides
returns-clause-sides c =
    let turned = bare_turned c.pieces.sides.items in
    grind (arith, common_steps, turned)
