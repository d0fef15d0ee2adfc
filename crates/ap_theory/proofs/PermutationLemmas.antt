-- Laws of permutations.
use Rattle.std.proofs.Common.{◌≡◌, ◌≢◌, ◌⊎◌, ◌<◌, ◌≤◌, suc, true, false, ◌||◌, List, [], ◌∷◌, ◌++◌, length, refl, sym, ap, ◌∙◌, inl, inr, arith, true≢false, append_assoc, append-nil}
use Rattle.std.specs.Prelude.{if◌then◌else◌}
use Rattle.std.proofs.lemmas.Bool.Decides.{nat_tests}
use Rattle.ap_defs.specs.Occurrences.{without_name}
use Rattle.ap_defs.specs.Permutations.{IsSamePerm, act_name, has_name, inverse, left_name, name_eq, right_name, swap_name, swap_of}
use Rattle.ap_defs.specs.declared.terms.Name.{Name}
use Rattle.ap_defs.specs.declared.terms.Swap.{Swap}
use Rattle.ap_theory.proofs.BooleanLemmas.{or_right, same_test}

pub name_eq_same : (a b : Name) → name_eq a b ≡ true → a ≡ b
unfolding name_eq
name_eq_same a b h = grind (arith, nat_tests)

pub name_eq_itself : (a : Name) → name_eq a a ≡ true
unfolding name_eq
name_eq_itself a = grind (arith, nat_tests)

-- the test of two names, with what it tells
pub name_tells : (a b : Name) → ((name_eq a b ≡ true) × (a ≡ b)) ⊎ ((name_eq a b ≡ false) × (a ≢ b))
name_tells a b =
    elim (name_eq a b) as (λ v. name_eq a b ≡ v → ((name_eq a b ≡ true) × (a ≡ b)) ⊎ ((name_eq a b ≡ false) × (a ≢ b))) [
      | true ↦ λ e. inl (e, name_eq_same a b e)
      | false ↦ λ e. inr (e, λ h. true≢false (sym (name_eq_itself a) ∙ ap (name_eq a) h ∙ e))
    ] refl

pub ruleset name_tests = (name_tells, nat_tests)

pub swap_swap : (s : Swap) (a : Name) → swap_name s (swap_name s a) ≡ a
unfolding swap_name
swap_swap s a = grind (arith, name_tests)

pub swap_sort : (s : Swap) (a : Name) → (swap_name s a).sort ≡ a.sort
unfolding swap_name name_eq
swap_sort s a = grind (arith, nat_tests)

-- what a swapping does, by cases
pub swap_left : (a b : Name) → a.sort ≡ b.sort → swap_name (swap_of a b) a ≡ b
unfolding swap_name
swap_left a b h = grind (arith, name_tests)

pub swap_right : (a b : Name) → a.sort ≡ b.sort → swap_name (swap_of a b) b ≡ a
unfolding swap_name
swap_right a b h = grind (arith, name_tests)

pub swap_other : (a b c : Name) → a.sort ≡ b.sort → c ≢ a → c ≢ b → swap_name (swap_of a b) c ≡ c
unfolding swap_name
swap_other a b c h n m = grind (arith, name_tests)

pub act-append : (p q : List Swap) (a : Name) → act_name (p ++ q) a ≡ act_name p (act_name q a)
act-append [] q a = refl
act-append (s ∷ p) q a = ap (swap_name s) (act-append p q a)

pub act_sort : (p : List Swap) (a : Name) → (act_name p a).sort ≡ a.sort
act_sort [] a = refl
act_sort (s ∷ p) a = swap_sort s (act_name p a) ∙ act_sort p a

pub inverse_act : (p : List Swap) (a : Name) → act_name (inverse p) (act_name p a) ≡ a
inverse_act [] a = refl
inverse_act (s ∷ p) a = act-append (inverse p) (s ∷ []) _ ∙ ap (act_name (inverse p)) (swap_swap s _) ∙ inverse_act p a

pub act_inverse : (p : List Swap) (a : Name) → act_name p (act_name (inverse p) a) ≡ a
act_inverse [] a = refl
act_inverse (s ∷ p) a = ap (λ b. swap_name s (act_name p b)) (act-append (inverse p) (s ∷ []) a) ∙ ap (swap_name s) (act_inverse p (swap_name s a)) ∙ swap_swap s a

pub act_injective : (p : List Swap) (a b : Name) → act_name p a ≡ act_name p b → a ≡ b
act_injective p a b h = sym (inverse_act p a) ∙ ap (act_name (inverse p)) h ∙ inverse_act p b

pub name_eq_act : (p : List Swap) (a b : Name) → name_eq (act_name p a) (act_name p b) ≡ name_eq a b
name_eq_act p a b = same_test _ _
    (λ e. ap (name_eq a) (sym (act_injective p a b (name_eq_same _ _ e))) ∙ name_eq_itself a)
    (λ e. ap (name_eq (act_name p a)) (sym (ap (act_name p) (name_eq_same _ _ e))) ∙ name_eq_itself _)

-- a permutation carries a swapping over: p (a b) = (p a  p b) p
pub act_swap : (p : List Swap) (a b c : Name) → a.sort ≡ b.sort
    → act_name p (swap_name (swap_of a b) c) ≡ swap_name (swap_of (act_name p a) (act_name p b)) (act_name p c)
act_swap p a b c h =
    let sorts : (act_name p a).sort ≡ (act_name p b).sort = act_sort p a ∙ h ∙ sym (act_sort p b) in
    elim (name_tells c a) [
      | inl w ↦ ap (λ x. act_name p (swap_name (swap_of a b) x)) w.1 ∙ ap (act_name p) (swap_left a b h) ∙ sym (ap (λ x. swap_name (swap_of (act_name p a) (act_name p b)) (act_name p x)) w.1 ∙ swap_left _ _ sorts)
      | inr v ↦ elim (name_tells c b) [
        | inl w ↦ ap (λ x. act_name p (swap_name (swap_of a b) x)) w.1 ∙ ap (act_name p) (swap_right a b h) ∙ sym (ap (λ x. swap_name (swap_of (act_name p a) (act_name p b)) (act_name p x)) w.1 ∙ swap_right _ _ sorts)
        | inr w ↦ ap (act_name p) (swap_other a b c h v.1 w.1) ∙ sym (swap_other _ _ _ sorts (λ e. v.1 (act_injective p c a e)) (λ e. w.1 (act_injective p c b e)))
      ]
    ]

pub swap_flip : (a b c : Name) → a.sort ≡ b.sort → swap_name (swap_of a b) c ≡ swap_name (swap_of b a) c
swap_flip a b c h = let k : b.sort ≡ a.sort = sym h in grind (arith, name_tells c a, name_tells c b, swap_left, swap_right, swap_other)

pub swap_none : (a c : Name) → swap_name (swap_of a a) c ≡ c
swap_none a c = grind (arith, name_tells c a, swap_left, swap_other)

pub not_name : (c b : Name) → c ≢ b → name_eq c b ≡ false
not_name c b n = elim (name_tells c b) [ inl w ↦ absurd (n w.1) | inr w ↦ w.0 ]

pub swap_name_fixes : (s : Swap) (c : Name) → name_eq c (left_name s) ≡ false → name_eq c (right_name s) ≡ false → swap_name s c ≡ c
unfolding swap_name
swap_name_fixes s c e f = rw (e, f) refl

pub inverse_same : (p q : List Swap) → IsSamePerm p q → IsSamePerm (inverse p) (inverse q)
inverse_same p q h a = sym (inverse_act q (act_name (inverse p) a)) ∙ ap (act_name (inverse q)) (sym (h (act_name (inverse p) a)) ∙ act_inverse p a)

pub append_same : (p q r s : List Swap) → IsSamePerm p r → IsSamePerm q s → IsSamePerm (p ++ q) (r ++ s)
append_same p q r s h k a = act-append p q a ∙ h (act_name q a) ∙ ap (act_name r) (k a) ∙ sym (act-append r s a)

-- names of equal sorts and numbers are equal
pub same_name_parts : (a b : Name) → a.sort ≡ b.sort → a.num ≡ b.num → a ≡ b
same_name_parts a b h k = grind arith

pub name_decided : (a b : Name) → (a ≡ b) ⊎ (a ≢ b)
name_decided a b = elim (name_tells a b) [ inl w ↦ inl w.1 | inr w ↦ inr w.1 ]

-- a list of names without one of them
length_without_name_most : (a : Name) (bs : List Name) → length (without_name a bs) ≤ length bs
length_without_name_most a [] = omega arith
length_without_name_most a (b ∷ bs) =
    let h = length_without_name_most a bs in
    elim (name_eq a b) as (λ v. length (if v then without_name a bs else (b ∷ without_name a bs)) ≤ suc (length bs)) [ true ↦ omega arith | false ↦ omega arith ]

pub length_without_name : (a : Name) (bs : List Name) → has_name a bs ≡ true → length (without_name a bs) < length bs
length_without_name a [] h = cc
length_without_name a (b ∷ bs) h =
    elim (name_eq a b) as (λ v. (v || has_name a bs) ≡ true → length (if v then without_name a bs else (b ∷ without_name a bs)) < suc (length bs)) [
      | true ↦ λ k. let l = length_without_name_most a bs in omega arith
      | false ↦ λ k. let l = length_without_name a bs k in omega arith
    ] h

pub has_without_name : (a c : Name) (bs : List Name) → c ≢ a → has_name c bs ≡ true → has_name c (without_name a bs) ≡ true
has_without_name a c [] n h = h
has_without_name a c (b ∷ bs) n h =
    elim (name_eq a b) as (λ v. name_eq a b ≡ v → has_name c (if v then without_name a bs else (b ∷ without_name a bs)) ≡ true) [
      | true ↦ λ e. has_without_name a c bs n (or_right (name_eq c b) (has_name c bs) (not_name c b (λ f. n (f ∙ sym (name_eq_same a b e)))) h)
      | false ↦ λ e. elim (name_eq c b) as (λ v. (v || has_name c bs) ≡ true → (v || has_name c (without_name a bs)) ≡ true) [ true ↦ λ l. refl | false ↦ λ l. has_without_name a c bs n l ] h
    ] refl

pub act_sorts : (p q : List Swap) (a b : Name) → a.sort ≡ b.sort → (act_name p a).sort ≡ (act_name q b).sort
act_sorts p q a b h = act_sort p a ∙ h ∙ sym (act_sort q b)

pub swap_name_right : (a b c : Name) → a.sort ≡ b.sort → c ≡ b → swap_name (swap_of a b) c ≡ a
swap_name_right a b c h e = ap (swap_name (swap_of a b)) e ∙ swap_right a b h

-- (a b)(b c) is (a c) on every name but a and b
pub swaps_other : (a b c n : Name) → a.sort ≡ b.sort → b.sort ≡ c.sort → n ≢ a → n ≢ b
    → swap_name (swap_of a b) (swap_name (swap_of b c) n) ≡ swap_name (swap_of a c) n
swaps_other a b c n e f k l =
    elim (name_decided n c) [
      | inl h ↦ ap (swap_name (swap_of a b)) (swap_name_right b c n f h) ∙ swap_right a b e ∙ sym (swap_name_right a c n (e ∙ f) h)
      | inr m ↦ ap (swap_name (swap_of a b)) (swap_other b c n f l m) ∙ swap_other a b n e k l ∙ sym (swap_other a c n (e ∙ f) k m)
    ]

pub inverse-append : (p q : List Swap) → inverse (p ++ q) ≡ inverse q ++ inverse p
inverse-append [] q = sym (append-nil (inverse q))
inverse-append (s ∷ p) q = ap (λ r. r ++ s ∷ []) (inverse-append p q) ∙ append_assoc (inverse q) (inverse p) (s ∷ [])

pub name_eq_moved : (p : List Swap) (a b : Name) → name_eq a (act_name p b) ≡ name_eq (act_name (inverse p) a) b
name_eq_moved p a b = ap (λ x. name_eq x (act_name p b)) (sym (act_inverse p a)) ∙ name_eq_act p (act_name (inverse p) a) b
