use Rattle.std.proofs.Common.{◌≡◌, ◌-◌, ◌∙◌, length, ap, sym}
use Rattle.ap_types.specs.Solving.{shape_at}
use Rattle.ap_types.specs.Triangular.{shapes_of_nodes}
use Rattle.ap_types.specs.Growing.{near_of}
use Rattle.ap_types.proofs.TableLemmas.{length_table}
use Rattle.ap_types.proofs.growing.near_base.Goals as goal

pub returns : goal.returns
returns c =
    let ns = c.args.nodes.now in
    let ts = shapes_of_nodes ns in
    let d = c.args.base in
    let at : c.saturating_sub-place.result ≡ length ts - 2 = c.saturating_sub-place.ensures ∙ ap (λ n. n - 2) (sym (length_table ns)) in
    c.near_of.ensures ∙ ap (near_of ts d c.saturating_sub-place.result) c.entry_or_hole-entry.ensures ∙ ap (λ y. near_of ts d y (shape_at ts y)) at
