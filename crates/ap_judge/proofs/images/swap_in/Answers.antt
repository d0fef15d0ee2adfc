use Rattle.std.proofs.Common.{if◌then◌else◌, ap, ◌∙◌}
use Rattle.std.specs.BTreeMap.{get}
use Rattle.std.specs.Ordering.{is_eq}
use Rattle.std.specs.Prelude.{Some}
use Rattle.ap_defs.specs.declared.terms.Name.{Name}
use Rattle.ap_defs.specs.Permutations.{left_name, right_name}
use Rattle.ap_judge.specs.Indexes.{sought_name, sought_name_cmp}
use Rattle.ap_judge.proofs.ImageLemmas.{swapped_images}
use Rattle.ap_judge.proofs.images.swap_in.Goals as goal

pub returns : goal.returns
returns c = λ p inv.
    let f = get sought_name_cmp c.args.moved.now in
    let g = get sought_name_cmp c.insert.new.self in
    let s = c.args.s.now in
    swapped_images f g (get sought_name_cmp c.insert-2.new.self) p s inv
    (λ k. c.in_ok-insert.ensures.updates.0 k ∙ ap (λ (n : Name). if is_eq (sought_name_cmp (sought_name (left_name s)) k) then Some n.num else f k) c.image_in-right.ensures)
    (λ k. c.in_ok-insert-2.ensures.updates.0 k ∙ ap (λ (n : Name). if is_eq (sought_name_cmp (sought_name (right_name s)) k) then Some n.num else g k) c.image_in-left.ensures)
