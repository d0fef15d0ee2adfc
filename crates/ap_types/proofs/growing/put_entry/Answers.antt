use Rattle.std.proofs.Common.{◌≡◌, false, List, Some, None, refl, subst}
use Rattle.ap_defs.specs.Types.{shape_of}
use Rattle.ap_types.specs.declared.nodes.Node.{Node}
use Rattle.ap_types.specs.Triangular.{layer_of, shapes_of_nodes}
use Rattle.ap_types.specs.Growing.{is_flat, so_far}
use Rattle.ap_types.proofs.PutLemmas.{no_equation_left, equation_by}
use Rattle.ap_types.proofs.growing.put_entry.Goals as goal

pub returns-in_default-clause-none : goal.returns-in_default-clause-none
returns-in_default-clause-none c = λ e.
    let t = shape_of c.args.left.now in
    no_equation_left (shapes_of_nodes c.args.nodes.now.items) t (layer_of c.args.right)
    (subst (λ (ms : List Node). is_flat (so_far (shapes_of_nodes ms) t) ≡ false) c.as_slice.ensures.value c.in_default.ensures)

pub returns-clause-put : goal.returns-clause-put
returns-clause-put c = λ e.
    let ts = shapes_of_nodes c.args.nodes.now.items in
    let t = shape_of c.args.left.now in
    let first = layer_of c.in-Some.first in
    let u = layer_of c.args.right in
    let far : first ≡ so_far ts t = subst (λ (ms : List Node). first ≡ so_far (shapes_of_nodes ms) t) c.as_slice.ensures.value c.in-Some.ensures in
    equation_by ts t first u u (Some (shapes_of_nodes c.put_same.new.nodes.items)) far refl (c.put_same.ensures.put e)

pub returns-clause-none : goal.returns-clause-none
returns-clause-none c = λ e.
    let ts = shapes_of_nodes c.args.nodes.now.items in
    let t = shape_of c.args.left.now in
    let first = layer_of c.in-Some.first in
    let u = layer_of c.args.right in
    let far : first ≡ so_far ts t = subst (λ (ms : List Node). first ≡ so_far (shapes_of_nodes ms) t) c.as_slice.ensures.value c.in-Some.ensures in
    equation_by ts t first u u None far refl (c.put_same.ensures.none e)
