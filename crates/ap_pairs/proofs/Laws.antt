-- They are trees, and their plans are such as a tree may have.
use Rattle.std.proofs.Common.{◌≡◌, ℕ, zero, suc, ◌≤◌, List, [], ◌∷◌, ◌++◌, length-append, sym, refl, ap, ◌∙◌, subst, arith}
use Rattle.std.specs.Prelude.{Option, Some, None}
use Rattle.ap_paths.specs.Trees.{InChoiceTree, IsTree, IsPlan, joined_below, times}
use Rattle.ap_pairs.specs.Pairs.{left, choices_with, pair_choices, cuts_below, pair_at, plan_with, pair_plan}

left_less : (depth n : ℕ) (p : List ℕ) (k : ℕ) → left depth p ≡ suc n → left depth (p ++ k ∷ []) ≡ n
left_less depth n p k is = omega (arith, length-append p (k ∷ []))

two : Option ℕ → ℕ
two (Some n) = n
two None = 0

branch : (depth w m : ℕ) (p : List ℕ) → left depth p ≡ m → choices_with m ≡ Some w → cuts_below m p ≡ joined_below (pair_at depth) p 1 w
unfolding two
branch depth w zero p is c = absurd (let e : None ≡ Some w = c in cc)
branch depth w (suc n) p is c =
    let a = ap (λ (m : ℕ). cuts_below m (p ++ 1 ∷ [])) (left_less depth n p 1 is) in
    let b = ap (λ (m : ℕ). cuts_below m (p ++ 2 ∷ [])) (left_less depth n p 2 is) in
    let same : cuts_below (suc n) p ≡ joined_below (pair_at depth) p 1 2 = sym (ap (λ l. l ++ (pair_at depth (p ++ 2 ∷ []) ++ [])) a ∙ ap (λ l. cuts_below n (p ++ 1 ∷ []) ++ (l ++ [])) b) in
    subst (λ (k : ℕ). cuts_below (suc n) p ≡ joined_below (pair_at depth) p 1 k) (ap two c) same

pub pair_branches : (depth : ℕ) → IsTree (pair_choices depth) (pair_at depth)
pair_branches depth p w h is = branch depth w (left depth p) p refl is

some_kid : (k : ℕ) → 1 ≤ k → k ≤ 2 → times k (1 ∷ 2 ∷ []) ≡ 0 → ⊥
some_kid zero low high e = omega arith
some_kid (suc zero) low high e = omega arith
some_kid (suc (suc zero)) low high e = omega arith
some_kid (suc (suc (suc k))) low high e = omega arith

planned : (depth m : ℕ) (p : List ℕ) → left depth p ≡ m → IsPlan (pair_choices depth) (pair_at depth) p (plan_with m p)
planned depth zero p is = sym (ap (λ (m : ℕ). cuts_below m p) is)
planned depth (suc n) p is = (2, ap choices_with is, (omega arith, (omega arith, tt)), (omega arith, (omega arith, tt)), λ k low high e. absurd (some_kid k low high e))

pub pair_planned : (depth : ℕ) (p : List ℕ) → InChoiceTree (pair_choices depth) p → IsPlan (pair_choices depth) (pair_at depth) p (pair_plan depth p)
pair_planned depth p h = planned depth (left depth p) p refl
