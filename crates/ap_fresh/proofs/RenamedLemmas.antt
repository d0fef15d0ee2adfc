-- Swappings whose numbers are higher.
use Rattle.std.proofs.Common.{◌≡◌, ◌<◌, ◌+◌, ℕ, List, [], ◌∷◌, drop, length, get_or, map, ap, subst, sym, ◌∙◌, add-one}
use Rattle.std.proofs.Math.Seq.{drop-cons}
use Rattle.ap_defs.specs.Permutations.{act_name, inverse, swap_name}
use Rattle.ap_defs.specs.Renaming.{AreSwapsBelow, rename_swap}
use Rattle.ap_defs.specs.declared.terms.Name.{Name}
use Rattle.ap_defs.specs.declared.terms.Swap.{Swap}
use Rattle.ap_theory.proofs.PermutationLemmas.{act-append}

-- the first swapping is undone first
pub undo_renamed : (base : ℕ) (p : List Swap) (j : ℕ) (d : Swap) (a b : Name) → j < length p → b ≡ swap_name (rename_swap base (get_or p j d)) a
    → act_name (inverse (map (rename_swap base) (drop (j + 1) p))) b ≡ act_name (inverse (map (rename_swap base) (drop j p))) a
undo_renamed base p j d a b h k =
    let rest = inverse (map (rename_swap base) (drop (j + 1) p)) in
    ap (act_name rest) k ∙ sym (act-append rest (rename_swap base (get_or p j d) ∷ []) a)
    ∙ ap (λ q. act_name (inverse (map (rename_swap base) q)) a) (ap (λ n. get_or p j d ∷ drop n p) (add-one j) ∙ sym (drop-cons p j d h))

-- what is left fits
pub rest_fits : (end base : ℕ) (p : List Swap) (j : ℕ) (d : Swap) → j < length p → AreSwapsBelow end (map (rename_swap base) (drop j p)) → AreSwapsBelow end (map (rename_swap base) (drop (j + 1) p))
rest_fits end base p j d h k =
    let l = subst (λ q. AreSwapsBelow end (map (rename_swap base) q)) (drop-cons p j d h) k in
    subst (λ n. AreSwapsBelow end (map (rename_swap base) (drop n p))) (sym (add-one j)) l.2
