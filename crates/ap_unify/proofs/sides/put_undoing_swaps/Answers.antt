use Rattle.std.proofs.Common.{◌≡◌, ◌++◌, ap, sym, ◌∙◌}
use Rattle.ap_defs.specs.Permutations.{inverse}
use Rattle.ap_unify.proofs.SideLemmas.{put_both, undone}
use Rattle.ap_unify.proofs.sides.put_undoing_swaps.Goals as goal

pub returns : goal.returns
returns c =
    let p = c.args.side.now.added.items in
    let q = c.args.side.now.swaps.items in
    let r = c.args.swaps.now.items in
    let v = c.put_inverse.new.swaps.items in
    let w = c.extend_from_slice.new.self.items in
    let first : v ≡ r ++ inverse q = c.in_ok-put_inverse.ensures ∙ ap (λ z. r ++ inverse z) c.deref.ensures.value in
    let both : w ≡ v ++ p = c.in_ok-extend_from_slice.ensures.items ∙ ap (λ z. v ++ z) c.deref-2.ensures.value in
    put_both r (inverse q) p v w first both ∙ ap (λ z. r ++ z) (sym (undone p q))
