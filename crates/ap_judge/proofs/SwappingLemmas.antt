-- One more swapping acts.
use Rattle.std.proofs.Common.{◌≡◌, ◌<◌, ◌+◌, ℕ, suc, List, [], ◌∷◌, ◌++◌, length, get_or, take, drop, sym, ap, ◌∙◌, add-one}
use Rattle.std.proofs.Math.Seq.{drop-cons, take-suc}
use Rattle.ap_defs.specs.Permutations.{act_name, inverse, swap_name}
use Rattle.ap_defs.specs.declared.terms.Name.{Name}
use Rattle.ap_defs.specs.declared.terms.Swap.{Swap}
use Rattle.ap_theory.proofs.PermutationLemmas.{act-append}

pub act_last : (p : List Swap) (i j : ℕ) (d : Swap) (a b : Name) → i ≡ j + 1 → j < length p → b ≡ swap_name (get_or p j d) a
    → act_name (take j p) b ≡ act_name (take i p) a
act_last p i j d a b e h k =
    ap (act_name (take j p)) k ∙ sym (act-append (take j p) (get_or p j d ∷ []) a) ∙ ap (λ q. act_name q a) (sym (take-suc p j d h)) ∙ ap (λ n. act_name (take n p) a) (sym (e ∙ add-one j))

pub undo_first : (p : List Swap) (j : ℕ) (d : Swap) (a b : Name) → j < length p → b ≡ swap_name (get_or p j d) a
    → act_name (inverse (drop (j + 1) p)) b ≡ act_name (inverse (drop j p)) a
undo_first p j d a b h k =
    ap (act_name (inverse (drop (j + 1) p))) k ∙ sym (act-append (inverse (drop (j + 1) p)) (get_or p j d ∷ []) a)
    ∙ ap (λ q. act_name (inverse q) a) (ap (λ n. get_or p j d ∷ drop n p) (add-one j) ∙ sym (drop-cons p j d h))

-- the swappings behind a place, the last one first, and then the one at it
pub inverse_more : (p : List Swap) (i j : ℕ) (d : Swap) (qs rs : List Swap) → i ≡ j + 1 → j < length p → rs ≡ qs ++ get_or p j d ∷ [] → qs ≡ inverse (drop i p) → rs ≡ inverse (drop j p)
inverse_more p i j d qs rs e h more inv = more ∙ ap (λ zs. zs ++ get_or p j d ∷ []) (inv ∙ ap (λ n. inverse (drop n p)) (e ∙ add-one j)) ∙ sym (ap inverse (drop-cons p j d h))
