use Rattle.std.proofs.Common.{◌∙◌, sym, ap}
use Rattle.ap_values.specs.declared.writing.Next.{Next}
use Rattle.ap_types.specs.Triangular.{shapes_of_nodes, value_of}
use Rattle.ap_values.specs.Writing.{shape_within, shape_next}
use Rattle.ap_values.proofs.writing.value_in.Goals as goal

pub writing-preserved-in-Place : goal.writing-preserved-in-Place
writing-preserved-in-Place c =
    let f = value_of (shapes_of_nodes c.args.nodes.now) in
    (c.in_ok-now-in-Place.ensures f c.in-Place.at c.entry_at.ensures).same ∙ ap (λ (n : Next). shape_within f c.writing.layers.items (shape_next f n)) (sym c.in-Place.is) ∙ c.writing.invariant
