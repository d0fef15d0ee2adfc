use Rattle.std.proofs.Common.{◌≡◌, ap, ◌∙◌, map}
use Rattle.ap_values.specs.Flat.{moved_by}
use Rattle.ap_values.proofs.PermLemmas.{flat_by, listed_moved, viewed_by}
use Rattle.ap_values.proofs.perm.Perm.of.Goals as goal

pub invariant_of-result : goal.invariant_of-result
invariant_of-result c =
    let p = c.args.swaps.now in
    let ms = c.in_ok-moved.moved.items in
    let h : ms ≡ map (moved_by p) c.in_ok-names.names.items = c.in_ok-moved.ensures p c.in_ok-images.ensures ∙ ap (map (moved_by p)) c.deref.ensures.value in
    (flat_by p ms (listed_moved p c.in_ok-names.names.items ms c.in_ok-names.ensures h), tt)

pub returns : goal.returns
returns c =
    let p = c.args.swaps.now in
    let ms = c.in_ok-moved.moved.items in
    let h : ms ≡ map (moved_by p) c.in_ok-names.names.items = c.in_ok-moved.ensures p c.in_ok-images.ensures ∙ ap (map (moved_by p)) c.deref.ensures.value in
    viewed_by ms c.result-1.given.0 p (listed_moved p c.in_ok-names.names.items ms c.in_ok-names.ensures h)
