-- Lists of the swappings that wait on a side: those that were added, turned round, and then those of a closure.
use Rattle.std.proofs.Common.{◌≡◌, ◌<◌, ◌+◌, ℕ, List, [], ◌∷◌, ◌++◌, append_assoc, length, get_or, take, refl, sym, ap, ◌∙◌, add-one}
use Rattle.std.proofs.Math.Seq.{take-suc}
use Rattle.ap_defs.specs.Permutations.{act_name, inverse}
use Rattle.ap_defs.specs.declared.terms.Name.{Name}
use Rattle.ap_defs.specs.declared.terms.Swap.{Swap}
use Rattle.ap_theory.proofs.PermutationLemmas.{act-append, inverse-append}

pub inverse_twice : (p : List Swap) → inverse (inverse p) ≡ p
inverse_twice [] = refl
inverse_twice (s ∷ p) = inverse-append (inverse p) (s ∷ []) ∙ ap (λ q. s ∷ q) (inverse_twice p)

-- one that is added acts after all others
pub added_last : (p r q : List Swap) (s : Swap) → r ≡ p ++ s ∷ [] → inverse r ++ q ≡ s ∷ (inverse p ++ q)
added_last p r q s e = ap (λ z. inverse z ++ q) e ∙ ap (λ z. z ++ q) (inverse-append p (s ∷ []))

-- what undoes them
pub undone : (p q : List Swap) → inverse (inverse p ++ q) ≡ inverse q ++ p
undone p q = inverse-append (inverse p) q ∙ ap (λ r. inverse q ++ r) (inverse_twice p)

pub image_moved : (p q : List Swap) (a b c : Name) → b ≡ act_name q a → c ≡ act_name (inverse p) b → c ≡ act_name (inverse p ++ q) a
image_moved p q a b c e f = f ∙ ap (act_name (inverse p)) e ∙ sym (act-append (inverse p) q a)

pub origin_moved : (p q : List Swap) (a b c : Name) → b ≡ act_name p a → c ≡ act_name (inverse q) b → c ≡ act_name (inverse (inverse p ++ q)) a
origin_moved p q a b c e f = f ∙ ap (act_name (inverse q)) e ∙ sym (act-append (inverse q) p a) ∙ ap (λ r. act_name r a) (sym (undone p q))

-- a list is put behind others from its end on
pub put_last : (p : List Swap) (i j : ℕ) (d : Swap) (r v : List Swap) → i ≡ j + 1 → j < length p → v ≡ r ++ get_or p j d ∷ []
    → v ++ inverse (take j p) ≡ r ++ inverse (take i p)
put_last p i j d r v e h k =
    let s = get_or p j d in
    let t : inverse (take i p) ≡ s ∷ inverse (take j p) = ap inverse (ap (λ n. take n p) (e ∙ add-one j) ∙ take-suc p j d h) ∙ inverse-append (take j p) (s ∷ []) in
    ap (λ q. q ++ inverse (take j p)) k ∙ append_assoc r (s ∷ []) (inverse (take j p)) ∙ ap (λ q. r ++ q) (sym t)

-- and then one more list
pub put_both : (r p q v w : List Swap) → v ≡ r ++ p → w ≡ v ++ q → w ≡ r ++ (p ++ q)
put_both r p q v w e f = f ∙ ap (λ z. z ++ q) e ∙ append_assoc r p q
