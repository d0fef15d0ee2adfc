use Rattle.std.proofs.Common.{◌≡◌, ◌++◌, List, [], ap, ap₂, sym, ◌∙◌, map}
use Rattle.ap_defs.specs.Canonical.{canonical, moved_names}
use Rattle.ap_defs.specs.declared.terms.Swap.{Swap}
use Rattle.ap_values.specs.Flat.{kept, moved_by, united}
use Rattle.ap_values.proofs.PermLemmas.{composed_moved, flat_by, viewed_by}
use Rattle.ap_values.proofs.perm.Perm.then.Goals as goal

pub invariant_of-result : goal.invariant_of-result
invariant_of-result c =
    let p = c.self.inside.flat.0 in
    let q = c.after.inside.flat.0 in
    let first = c.self.inside.flat.1.1 in
    let after = c.after.inside.flat.1.1 in
    let all = c.in_ok-names.names.items in
    let names : all ≡ united (moved_names p) (moved_names q) = c.in_ok-names.ensures p q (first ∙ sym c.deref.ensures) (after ∙ sym c.deref-2.ensures) in
    let ms = c.in_ok-moved.moved.items in
    let h : ms ≡ map (moved_by (q ++ p)) (kept (q ++ p) [] all) =
    c.in_ok-moved.ensures p q (first ∙ sym c.deref-4.ensures) (after ∙ sym c.deref-5.ensures) ∙ ap (λ ns. map (moved_by (q ++ p)) (kept (q ++ p) [] ns)) c.deref-3.ensures.value in
    (flat_by (q ++ p) ms (composed_moved p q all ms names h), tt)

pub returns : goal.returns
returns c =
    let p = c.self.inside.flat.0 in
    let q = c.after.inside.flat.0 in
    let first = c.self.inside.flat.1.1 in
    let after = c.after.inside.flat.1.1 in
    let all = c.in_ok-names.names.items in
    let names : all ≡ united (moved_names p) (moved_names q) = c.in_ok-names.ensures p q (first ∙ sym c.deref.ensures) (after ∙ sym c.deref-2.ensures) in
    let ms = c.in_ok-moved.moved.items in
    let h : ms ≡ map (moved_by (q ++ p)) (kept (q ++ p) [] all) =
    c.in_ok-moved.ensures p q (first ∙ sym c.deref-4.ensures) (after ∙ sym c.deref-5.ensures) ∙ ap (λ ns. map (moved_by (q ++ p)) (kept (q ++ p) [] ns)) c.deref-3.ensures.value in
    viewed_by ms c.result-1.given.0 (q ++ p) (composed_moved p q all ms names h) ∙ ap₂ (λ (x y : List Swap). canonical (x ++ y)) c.after.view_is c.self.view_is
