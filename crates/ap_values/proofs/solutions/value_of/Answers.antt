use Rattle.std.proofs.Common.{◌∙◌, List, sym, ap, arith}
use Rattle.ap_types.specs.declared.nodes.Node.{Node}
use Rattle.ap_types.specs.Solving.{shape_at}
use Rattle.ap_types.specs.Triangular.{shapes_of_nodes, value_of, assignment_of}
use Rattle.ap_types.proofs.TableLemmas.{at_past}
use Rattle.ap_types.proofs.SettledLemmas.{length_values, value_at, value_as}
use Rattle.ap_values.proofs.solutions.value_of.Goals as goal

pub returns-then-hole-solved : goal.returns-then-hole-solved
returns-then-hole-solved c =
    let s = c.args.solved.now in
    let long = length_values (shapes_of_nodes s.nodes.items) 0 s.holes in
    sym (at_past (assignment_of s) c.args.hole (omega (arith, c.if-hole-solved.true)))

pub returns : goal.returns
returns c =
    let s = c.args.solved.now in
    value_as c.value_in.result (value_of (shapes_of_nodes c.as_slice.result.now) c.args.hole) (shape_at (assignment_of s) c.args.hole)
    (ap (λ (ms : List Node). value_of (shapes_of_nodes ms) c.args.hole) c.as_slice.ensures.value ∙ sym (value_at (shapes_of_nodes s.nodes.items) s.holes c.args.hole (omega (arith, c.if-hole-solved.false))))
    c.value_in.ensures
