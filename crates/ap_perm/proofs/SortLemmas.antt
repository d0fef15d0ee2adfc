-- Sets of conditions by sorting.
use Rattle.std.proofs.Common.{◌≡◌, ◌<◌, ◌+◌, ℕ, zero, suc, Bool, true, false, ◌||◌, List, [], ◌∷◌, length, refl, sym, ap, ◌∙◌, subst, inl, inr, arith, true≢false}
use Rattle.std.specs.Prelude.{if◌then◌else◌, slice_index_or, IsPermutation}
use Rattle.std.specs.Cmp.{IsStrictWeakOrder}
use Rattle.std.specs.List.{Contains, dedup, dedup_from}
use Rattle.std.specs.List.Sorted.{IsSortedBy}
use Rattle.std.proofs.lemmas.Bool.Decides.{nat_tests}
use Rattle.std.proofs.lemmas.List.Sorted.{Contains-permutation, IsPermutation-sym}
use Rattle.ap_defs.specs.Freshness.{add_cond, add_conds, cond_before, cond_eq, has_cond}
use Rattle.ap_defs.specs.Permutations.{name_eq}
use Rattle.ap_defs.specs.declared.terms.Cond.{Cond}
use Rattle.ap_theory.proofs.BooleanLemmas.{or_cases, or_if_left, or_if_right, or_twice, same_test}
use Rattle.ap_theory.proofs.ConditionSetLemmas.{add_conds_same, cond_eq_tells}
use Rattle.ap_theory.proofs.TermLemmas.{cond_eq_itself}

pub conds_rank : IsStrictWeakOrder cond_before
conds_rank = record { one_way = λ b c h. grind (arith, nat_tests); chain = λ b c d h k. grind (arith, nat_tests) }

differs_flip : (c d : Cond) → cond_eq c d ≡ false → cond_eq d c ≡ false
unfolding name_eq
differs_flip c d h = grind (arith, nat_tests)

comes_after : (c d : Cond) → cond_eq c d ≡ false → cond_before c d ≡ false → cond_before d c ≡ true
unfolding name_eq
comes_after c d h k = grind (arith, nat_tests)

-- no one comes before the one in front of it
abbrev Rises : Cond → List Cond → Type 0
Rises c [] = Unit {0}
Rises c (d ∷ ds) = (cond_before d c ≡ false) × Rises d ds

rises : (c : Cond) (ds : List Cond) → IsSortedBy cond_before (c ∷ ds) → Rises c ds
rises c [] s = tt
rises c (d ∷ ds) s = (
  s 0 c (omega arith) (omega arith),
  rises d ds
      (λ i e l m. let k : suc i + 1 ≡ suc (i + 1) = omega arith in
      subst (λ n. cond_before (slice_index_or (c ∷ d ∷ ds) n e) (slice_index_or (d ∷ ds) i e) ≡ false) k (s (suc i) e (omega arith) (omega arith))),
)

-- Repeats of a sorted list are left out.
module _ (same : Cond → Cond → Bool) (tests : (c d : Cond) → same c d ≡ cond_eq c d) where
  is_one : (c d : Cond) → same c d ≡ true → c ≡ d
  is_one c d e = cond_eq_tells c d (sym (tests c d) ∙ e)

  front_kept : (c d : Cond) (ds : List Cond) → cond_eq c d ≡ false → cond_before c d ≡ true → add_cond c (dedup_from same d ds) ≡ c ∷ dedup_from same d ds
  front_kept c d [] h l = rw (h, l) refl
  front_kept c d (e ∷ ds) h l =
      elim (same e d) as (λ v. add_cond c (if v then dedup_from same d ds else (d ∷ dedup_from same e ds)) ≡ c ∷ (if v then dedup_from same d ds else (d ∷ dedup_from same e ds))) [
        | true ↦ front_kept c d ds h l
        | false ↦ rw (h, l) refl
      ]

  set_from : (c : Cond) (ds : List Cond) → Rises c ds → add_conds (dedup_from same c ds) [] ≡ dedup_from same c ds
  set_from c [] r = refl
  set_from c (d ∷ ds) r =
      elim (same d c) as (λ v. same d c ≡ v → add_conds (if v then dedup_from same c ds else (c ∷ dedup_from same d ds)) [] ≡ (if v then dedup_from same c ds else (c ∷ dedup_from same d ds))) [
        | true ↦ λ e. set_from c ds (subst (λ (b : Cond). Rises b ds) (is_one d c e) r.1)
        | false ↦ λ e.
            let k : cond_eq d c ≡ false = sym (tests d c) ∙ e in
            ap (add_cond c) (set_from d ds r.1) ∙ front_kept c d ds (differs_flip d c k) (comes_after d c k r.0)
      ] refl

  members_from : (b c : Cond) (ds : List Cond) → has_cond b (dedup_from same c ds) ≡ (cond_eq b c || has_cond b ds)
  members_from b c [] = refl
  members_from b c (d ∷ ds) =
      elim (same d c) as (λ v. same d c ≡ v → has_cond b (if v then dedup_from same c ds else (c ∷ dedup_from same d ds)) ≡ (cond_eq b c || (cond_eq b d || has_cond b ds))) [
        | true ↦ λ e. members_from b c ds ∙ or_twice (cond_eq b c) (has_cond b ds) ∙ ap (λ (x : Cond). cond_eq b c || (cond_eq b x || has_cond b ds)) (sym (is_one d c e))
        | false ↦ λ e. ap (λ x. cond_eq b c || x) (members_from b d ds)
      ] refl

  pub sorted_set : (ds : List Cond) → IsSortedBy cond_before ds → add_conds (dedup same ds) [] ≡ dedup same ds
  sorted_set [] s = refl
  sorted_set (d ∷ ds) s = set_from d ds (rises d ds s)

  pub members_dedup : (b : Cond) (ds : List Cond) → has_cond b (dedup same ds) ≡ has_cond b ds
  members_dedup b [] = refl
  members_dedup b (d ∷ ds) = members_from b d ds

from_has : (c : Cond) (ds : List Cond) → has_cond c ds ≡ true → Contains ds c
from_has c [] h = absurd (true≢false (sym h))
from_has c (d ∷ ds) h =
    elim (or_cases (cond_eq c d) (has_cond c ds) h) [
      | inl e ↦ (0, omega arith, sym (cond_eq_tells c d e))
      | inr k ↦ let p = from_has c ds k in (suc p.0, omega (arith, p.1), p.2)
    ]

has_place : (c : Cond) (ds : List Cond) (k : ℕ) → k < length ds → slice_index_or ds k c ≡ c → has_cond c ds ≡ true
has_place c [] k h e = absurd (omega arith)
has_place c (d ∷ ds) zero h e = or_if_left (cond_eq c d) (has_cond c ds) (ap (cond_eq c) e ∙ cond_eq_itself c)
has_place c (d ∷ ds) (suc k) h e = or_if_right (cond_eq c d) (has_cond c ds) (has_place c ds k (omega arith) e)

to_has : (c : Cond) (ds : List Cond) → Contains ds c → has_cond c ds ≡ true
to_has c ds p = has_place c ds p.0 p.1 p.2

members_moved : (c : Cond) (cs ds : List Cond) → IsPermutation cs ds → has_cond c ds ≡ has_cond c cs
members_moved c cs ds p =
    same_test (has_cond c ds) (has_cond c cs)
    (λ h. to_has c cs (Contains-permutation ds cs c (IsPermutation-sym cs ds p) (from_has c ds h)))
    (λ h. to_has c ds (Contains-permutation cs ds c p (from_has c cs h)))

-- a list is sorted, and repeats are left out
pub set_made : (same : Cond → Cond → Bool) → ((c d : Cond) → same c d ≡ cond_eq c d) → (cs ds es : List Cond) → IsPermutation cs ds → IsSortedBy cond_before ds → es ≡ dedup same ds
    → es ≡ add_conds cs []
set_made same tests cs ds es p s e =
    e ∙ sym (sorted_set same tests ds s) ∙ add_conds_same (dedup same ds) cs (λ c. members_dedup same tests c ds ∙ members_moved c cs ds p)
