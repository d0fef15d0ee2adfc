use Rattle.std.proofs.Common.{◌∷◌, [], ◌∙◌, List, map, ap}
use Rattle.std.proofs.lemmas.List.{map-append}
use Rattle.ap_defs.specs.Types.{shape_of}
use Rattle.ap_types.specs.declared.nodes.Node.{Node}
use Rattle.ap_types.specs.Triangular.{shapes_of_nodes, value_of, values_from}
use Rattle.ap_types.proofs.SettledLemmas.{values_more}
use Rattle.ap_values.proofs.solutions.written_out.Goals as goal

pub loop-x-preserved : goal.loop-x-preserved
loop-x-preserved c =
    let ts = shapes_of_nodes c.args.solved.now.nodes.items in
    let t = c.in_ok-value_in.field-0 in
    values_more ts (map shape_of c.loop-x.shapes.items) (map shape_of c.push.new.self.items) (values_from ts 0 c.args.solved.now.holes) (shape_of t) c.loop-x.x c.args.solved.now.holes c.loop-x-test.true
    (ap (map shape_of) c.in_ok-push.ensures.items ∙ map-append shape_of c.loop-x.shapes.items (t ∷ []))
    (c.in_ok-value_in.ensures ∙ ap (λ (ms : List Node). value_of (shapes_of_nodes ms) c.loop-x.x) c.as_slice.ensures.value)
    c.loop-x.invariant
