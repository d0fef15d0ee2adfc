use Rattle.std.proofs.Common.{◌≡◌, ◌<◌, true, List, length, sym, ap, subst, arith}
use Rattle.ap_types.specs.declared.nodes.Node.{Node}
use Rattle.ap_types.specs.Solving.{shape_at}
use Rattle.ap_types.specs.Triangular.{layer_of, shapes_of_nodes}
use Rattle.ap_types.specs.Growing.{can_stand}
use Rattle.ap_types.proofs.PutLemmas.{entry_set}
use Rattle.ap_types.proofs.growing.put_at.Goals as goal

pub returns-clause-put : goal.returns-clause-put
returns-clause-put c = λ e.
    let ns = c.args.nodes.now.items in
    let x = c.args.x in
    let now = c.entry_or_hole-now.result in
    let value = c.as_slice-places.ensures.value in
    let is : layer_of now ≡ shape_at (shapes_of_nodes ns) x = subst (λ (ms : List Node). layer_of now ≡ shape_at (shapes_of_nodes ms) x) value c.entry_or_hole-now.ensures in
    let count : length c.as_slice-places.result.now ≡ length ns = ap length value in
    let below : x < length ns = omega (arith, count, c.if-x-count.false) in
    entry_set ns x c.args.entry now below is (sym c.if-is_same.ensures) (sym c.if-not-is_open.ensures)
    (subst (λ n. can_stand n x (layer_of c.args.entry) ≡ true) count (sym c.if-not-can_stand.ensures))
