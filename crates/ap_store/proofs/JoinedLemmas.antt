-- Sets of conditions of which each is on higher variables than those before, one behind the other.
use Rattle.std.proofs.Common.{◌≡◌, ◌<◌, ◌≤◌, ◌+◌, ℕ, zero, suc, true, false, List, [], ◌∷◌, ◌++◌, length, take, get_or, refl, sym, ap, ◌∙◌, arith, true≢false, inl, inr}
use Rattle.std.specs.Global.{Global}
use Rattle.std.specs.Prelude.{Vec, if◌then◌else◌}
use Rattle.std.proofs.lemmas.Bool.Decides.{nat_tests}
use Rattle.ap_defs.specs.Freshness.{Conds, add_cond, add_conds, cond_before, cond_eq, has_cond}
use Rattle.ap_defs.specs.declared.terms.Cond.{Cond}
use Rattle.ap_theory.proofs.BooleanLemmas.{or_cases, or_if_left, or_if_right, or_nothing}
use Rattle.ap_theory.proofs.ConditionSetLemmas.{has_cond-append, has_cond_add_all}
use Rattle.ap_theory.proofs.TermLemmas.{cond_eq_itself}
use Rattle.ap_store.specs.Slots.{IsHeldByVariable, all_held, held_in}
use Rattle.ap_store.proofs.HeldLemmas.{all_more, held_at}

comes_before : (c b : Cond) → c.var.num < b.var.num → cond_before c b ≡ true
comes_before c b l = grind (arith, nat_tests)

is_another : (c b : Cond) → c.var.num < b.var.num → cond_eq c b ≡ false
is_another c b l = grind (arith, nat_tests)

-- a condition on a variable below n is added to those of a set that are so, too
added_front : (n : ℕ) (c : Cond) (xs bs : Conds) → c.var.num < n → ((b : Cond) → has_cond b bs ≡ true → n ≤ b.var.num) → add_cond c (xs ++ bs) ≡ add_cond c xs ++ bs
added_front n c [] [] l h = refl
added_front n c [] (b ∷ bs) l h =
    let k : n ≤ b.var.num = h b (or_if_left (cond_eq b b) (has_cond b bs) (cond_eq_itself b)) in
    let m : c.var.num < b.var.num = omega (arith, k, l) in
    rw (is_another c b m, comes_before c b m) refl
added_front n c (x ∷ xs) bs l h =
    elim (cond_eq c x) as (λ v. (if v then (x ∷ xs ++ bs) else (if cond_before c x then (c ∷ x ∷ xs ++ bs) else (x ∷ add_cond c (xs ++ bs)))) ≡ (if v then (x ∷ xs) else (if cond_before c x then (c ∷ x ∷ xs) else (x ∷ add_cond c xs))) ++ bs) [
      | true ↦ refl
      | false ↦ elim (cond_before c x) as (λ v. (if v then (c ∷ x ∷ xs ++ bs) else (x ∷ add_cond c (xs ++ bs))) ≡ (if v then (c ∷ x ∷ xs) else (x ∷ add_cond c xs)) ++ bs) [
        | true ↦ refl
        | false ↦ ap (λ (ds : Conds). x ∷ ds) (added_front n c xs bs l h)
      ]
    ]

sets_joined : (n : ℕ) (xs cs : Conds) → ((c : Cond) → has_cond c xs ≡ true → c.var.num < n) → ((c : Cond) → has_cond c cs ≡ true → n ≤ c.var.num) → add_conds (xs ++ cs) [] ≡ add_conds xs [] ++ add_conds cs []
sets_joined n [] cs h k = refl
sets_joined n (x ∷ xs) cs h k =
    ap (add_cond x) (sets_joined n xs cs (λ c e. h c (or_if_right (cond_eq c x) (has_cond c xs) e)) k)
    ∙ added_front n x (add_conds xs []) (add_conds cs []) (h x (or_if_left (cond_eq x x) (has_cond x xs) (cond_eq_itself x)))
    (λ b e. k b (sym (has_cond_add_all b cs [] ∙ or_nothing (has_cond b cs)) ∙ e))

-- what is held of the first numbers
held_below : (c : Cond) (vs : List (Vec Cond Global)) (k i : ℕ) → ((j : ℕ) → has_cond c (held_in vs j) ≡ true → c.var.num ≡ k + j) → has_cond c (all_held (take i vs)) ≡ true → c.var.num < k + i
held_below c [] k zero f h = absurd (true≢false (sym h))
held_below c [] k (suc i) f h = absurd (true≢false (sym h))
held_below c (v ∷ vs) k zero f h = absurd (true≢false (sym h))
held_below c (v ∷ vs) k (suc i) f h =
    elim (or_cases (has_cond c v.items) (has_cond c (all_held (take i vs))) (sym (has_cond-append c v.items (all_held (take i vs))) ∙ h)) [
      | inl l ↦ let e = f 0 l in omega (arith, e)
      | inr l ↦
          let m : c.var.num < suc k + i = held_below c vs (suc k) i (λ j o. let e = f (suc j) o in omega (arith, e)) l in
          omega (arith, m)
    ]

-- one more set
pub set_more : (vs : List (Vec Cond Global)) (i : ℕ) (v : Vec Cond Global) → IsHeldByVariable vs → i < length vs → v ≡ get_or vs i v
    → add_conds (all_held (take (i + 1) vs)) [] ≡ add_conds (all_held (take i vs)) [] ++ add_conds v.items []
set_more vs i v by l e =
    ap (λ (cs : Conds). add_conds cs []) (all_more vs i v l e)
    ∙ sets_joined i (all_held (take i vs)) v.items (λ c h. let m = held_below c vs 0 i (λ j k. let n : c.var.num ≡ j = by j c k in omega (arith, n)) h in omega (arith, m))
    (λ c h. let k : c.var.num ≡ i = by i c (sym (ap (has_cond c) (held_at vs i v l e)) ∙ h) in omega (arith, k))
