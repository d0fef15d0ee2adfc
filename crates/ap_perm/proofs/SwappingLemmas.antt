-- Steps of the loops over lists of swappings, and the canonical list of none.
use Rattle.std.proofs.Common.{◌≡◌, ◌<◌, ◌+◌, ℕ, List, [], ◌∷◌, ◌++◌, length, get_or, take, drop, refl, sym, ap, ◌∙◌, add-one}
use Rattle.std.proofs.Math.Seq.{drop-cons, take-suc}
use Rattle.ap_defs.specs.Canonical.{canonical}
use Rattle.ap_defs.specs.Permutations.{act_name, differing, disagreement, inverse, names_of, swap_name}
use Rattle.ap_defs.specs.declared.terms.Name.{Name}
use Rattle.ap_defs.specs.declared.terms.Swap.{Swap}
use Rattle.ap_theory.proofs.PermutationLemmas.{act-append}

pub act_last : (p : List Swap) (i j : ℕ) (d : Swap) (a b : Name) → i ≡ j + 1 → j < length p → b ≡ swap_name (get_or p j d) a
    → act_name (take j p) b ≡ act_name (take i p) a
act_last p i j d a b e h k =
    ap (act_name (take j p)) k ∙ sym (act-append (take j p) (get_or p j d ∷ []) a) ∙ ap (λ q. act_name q a) (sym (take-suc p j d h)) ∙ ap (λ n. act_name (take n p) a) (sym (e ∙ add-one j))

pub undo_first : (p : List Swap) (j : ℕ) (d : Swap) (a b : Name) → j < length p → b ≡ swap_name (get_or p j d) a
    → act_name (inverse (drop (j + 1) p)) b ≡ act_name (inverse (drop j p)) a
undo_first p j d a b h k =
    ap (act_name (inverse (drop (j + 1) p))) k ∙ sym (act-append (inverse (drop (j + 1) p)) (get_or p j d ∷ []) a)
    ∙ ap (λ q. act_name (inverse q) a) (ap (λ n. get_or p j d ∷ drop n p) (add-one j) ∙ sym (drop-cons p j d h))

pub names_of-append : (p q : List Swap) → names_of (p ++ q) ≡ names_of p ++ names_of q
names_of-append [] q = refl
names_of-append (s ∷ p) q = ap (λ as'. names_of (s ∷ []) ++ as') (names_of-append p q)

pub disagreement_append : (p q r : List Swap) → r ≡ p ++ q → disagreement p q ≡ differing p q (names_of r)
disagreement_append p q r h = ap (differing p q) (sym (ap names_of h ∙ names_of-append p q))

pub canonical_none : canonical [] ≡ []
unfolding canonical
canonical_none = refl
