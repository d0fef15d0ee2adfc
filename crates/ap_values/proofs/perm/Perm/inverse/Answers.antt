use Rattle.std.proofs.Common.{◌≡◌, ap, sym, ◌∙◌, map}
use Rattle.ap_defs.specs.Canonical.{canonical, moved_names}
use Rattle.ap_defs.specs.Permutations.{inverse}
use Rattle.ap_values.specs.Flat.{moved_by}
use Rattle.ap_values.proofs.PermLemmas.{flat_by, inverse_moved, viewed_by}
use Rattle.ap_values.proofs.perm.Perm.inverse.Goals as goal

pub invariant_of-result : goal.invariant_of-result
invariant_of-result c =
    let p = c.self.inside.flat.0 in
    let same = c.self.inside.flat.1.1 in
    let names : c.in_ok-names.names.items ≡ moved_names p = c.in_ok-names.ensures p (same ∙ sym c.deref.ensures) in
    let ms = c.in_ok-moved.moved.items in
    let h : ms ≡ map (moved_by (inverse p)) c.in_ok-names.names.items =
    c.in_ok-moved.ensures (inverse p) (c.in_ok-origins.ensures p (same ∙ sym c.deref-2.ensures)) ∙ ap (map (moved_by (inverse p))) c.deref-3.ensures.value in
    (flat_by (inverse p) ms (inverse_moved p c.in_ok-names.names.items ms names h), tt)

pub returns : goal.returns
returns c =
    let p = c.self.inside.flat.0 in
    let same = c.self.inside.flat.1.1 in
    let names : c.in_ok-names.names.items ≡ moved_names p = c.in_ok-names.ensures p (same ∙ sym c.deref.ensures) in
    let ms = c.in_ok-moved.moved.items in
    let h : ms ≡ map (moved_by (inverse p)) c.in_ok-names.names.items =
    c.in_ok-moved.ensures (inverse p) (c.in_ok-origins.ensures p (same ∙ sym c.deref-2.ensures)) ∙ ap (map (moved_by (inverse p))) c.deref-3.ensures.value in
    viewed_by ms c.result-1.given.0 (inverse p) (inverse_moved p c.in_ok-names.names.items ms names h) ∙ ap (λ q. canonical (inverse q)) c.self.view_is
