use Rattle.std.proofs.Common.{◌≡◌, ap, ap₂, sym, ◌∙◌, map}
use Rattle.ap_defs.specs.Canonical.{moved_names}
use Rattle.ap_defs.specs.Permutations.{disagreement}
use Rattle.ap_values.specs.Differing.{differing_places}
use Rattle.ap_values.specs.Flat.{image_num, united}
use Rattle.ap_values.proofs.PermLemmas.{all_differences}
use Rattle.ap_values.proofs.UnionLemmas.{marks_long}
use Rattle.ap_values.proofs.perm.Perm.differences.Goals as goal

pub marked-requires : goal.marked-requires
marked-requires c =
    let p = c.self.inside.flat.0 in
    let q = c.other.inside.flat.0 in
    let left : c.deref-7.result.now ≡ map (image_num p) c.deref-9.result.now =
    c.deref-7.ensures.value ∙ c.in_ok-left.ensures p (c.self.inside.flat.1.1 ∙ sym c.deref-4.ensures) ∙ ap (map (image_num p)) (c.deref-3.ensures.value ∙ sym c.deref-9.ensures.value) in
    let right : c.deref-8.result.now ≡ map (image_num q) c.deref-9.result.now =
    c.deref-8.ensures.value ∙ c.in_ok-right.ensures q (c.other.inside.flat.1.1 ∙ sym c.deref-6.ensures) ∙ ap (map (image_num q)) (c.deref-5.ensures.value ∙ sym c.deref-9.ensures.value) in
    marks_long p q c.deref-9.result.now c.deref-10.result.now (c.deref-10.ensures.value ∙ c.in_ok-marks.ensures ∙ ap₂ differing_places left right)

pub returns : goal.returns
returns c =
    let p = c.self.inside.flat.0 in
    let q = c.other.inside.flat.0 in
    let left : c.deref-7.result.now ≡ map (image_num p) c.deref-9.result.now =
    c.deref-7.ensures.value ∙ c.in_ok-left.ensures p (c.self.inside.flat.1.1 ∙ sym c.deref-4.ensures) ∙ ap (map (image_num p)) (c.deref-3.ensures.value ∙ sym c.deref-9.ensures.value) in
    let right : c.deref-8.result.now ≡ map (image_num q) c.deref-9.result.now =
    c.deref-8.ensures.value ∙ c.in_ok-right.ensures q (c.other.inside.flat.1.1 ∙ sym c.deref-6.ensures) ∙ ap (map (image_num q)) (c.deref-5.ensures.value ∙ sym c.deref-9.ensures.value) in
    let names : c.deref-9.result.now ≡ united (moved_names p) (moved_names q) =
    c.deref-9.ensures.value ∙ c.in_ok-names.ensures p q (c.self.inside.flat.1.1 ∙ sym c.deref.ensures) (c.other.inside.flat.1.1 ∙ sym c.deref-2.ensures) in
    all_differences p q c.deref-9.result.now c.in_ok-differing.differing.items names
    (c.in_ok-differing.ensures p q (c.deref-10.ensures.value ∙ c.in_ok-marks.ensures ∙ ap₂ differing_places left right))
    ∙ ap₂ disagreement c.self.view_is c.other.view_is
