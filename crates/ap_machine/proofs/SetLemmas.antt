-- Sets of variables by sorting.
use Rattle.std.proofs.Common.{◌≡◌, ◌<◌, ◌+◌, ℕ, zero, suc, true, false, List, [], ◌∷◌, ◌++◌, length, drop, get_or, add-one, drop-cons, refl, sym, ap, ◌∙◌, inl, inr, append_assoc, arith, true≢false, Ordering}
use Rattle.std.specs.Prelude.{IsPermutation, Some, nat_lt, slice_get, slice_index_or}
use Rattle.std.specs.Cmp.{IsEquivalence, unsigned_ties}
use Rattle.std.specs.List.{Contains, dedup}
use Rattle.std.specs.List.Retain.{DiffersFromLast, IsFiltered}
use Rattle.std.specs.List.Sorted.{IsSorted, IsStrictlySortedBy}
use Rattle.std.specs.Option.{unwrap_or}
use Rattle.std.specs.Ordering.{nat_cmp}
use Rattle.std.proofs.lemmas.Bool.Decides.{nat_tests}
use Rattle.std.proofs.lemmas.Cmp.{nat_cmp_total, nat_eq_equiv, on_total}
use Rattle.std.proofs.lemmas.List.{append-nil}
use Rattle.std.proofs.lemmas.List.Filters.{dedup_is}
use Rattle.std.proofs.lemmas.List.Kept.{Contains-dedup, Contains-from_dedup, IsStrictlySortedBy-dedup}
use Rattle.std.proofs.lemmas.List.Sorted.{Contains-permutation, IsPermutation-sym}
use Rattle.ap_defs.specs.Answers.{add_var, ascending_vars}
use Rattle.ap_defs.specs.Freshness.{var_eq}
use Rattle.ap_defs.specs.Unification.{has_var}
use Rattle.ap_defs.specs.declared.terms.Var.{Var}
use Rattle.ap_search.proofs.RecordLemmas.{append_same_vars, ascending_same, has_var-append}
use Rattle.ap_search.specs.Records.{SameVars}
use Rattle.ap_theory.proofs.BooleanLemmas.{or_cases, or_if_left, or_if_right, same_test}
use Rattle.ap_theory.proofs.TermLemmas.{same_var, var_same}

abbrev by_num : Var → Var → Ordering
by_num x y = nat_cmp x.num y.num

from_has : (x : Var) (ys : List Var) → has_var x ys ≡ true → Contains ys x
from_has x [] h = absurd (true≢false (sym h))
from_has x (y ∷ ys) h =
    elim (or_cases (var_eq x y) (has_var x ys) h) [
      | inl e ↦ (0, omega arith, sym (var_same x y e))
      | inr k ↦ let d = from_has x ys k in (suc d.0, omega (arith, d.1), d.2)
    ]

has_machine : (x : Var) (ys : List Var) (k : ℕ) → k < length ys → slice_index_or ys k x ≡ x → has_var x ys ≡ true
has_machine x [] k h e = absurd (omega arith)
has_machine x (y ∷ ys) zero h e = or_if_left (var_eq x y) (has_var x ys) (same_var x y (sym e))
has_machine x (y ∷ ys) (suc k) h e = or_if_right (var_eq x y) (has_var x ys) (has_machine x ys k (omega arith) e)

to_has : (x : Var) (ys : List Var) → Contains ys x → has_var x ys ≡ true
to_has x ys c = has_machine x ys c.0 c.1 c.2

var_equivalence : IsEquivalence var_eq
var_equivalence = record {
  refl = λ x. nat_eq_equiv.refl x.num;
  symm = λ x y. nat_eq_equiv.symm x.num y.num;
  congr = λ x y z. nat_eq_equiv.congr x.num y.num z.num;
}

-- what ascends is a set
strictly_set : (xs : List Var) → IsStrictlySortedBy by_num xs → ascending_vars xs ≡ xs
unfolding IsStrictlySortedBy
strictly_set [] h = refl
strictly_set (x ∷ []) h = refl
strictly_set (x ∷ y ∷ ys) h =
    let e : var_eq x y ≡ false = grind (arith, nat_tests, h.0.0) in
    let l : nat_lt x.num y.num ≡ true = grind (arith, nat_tests, h.0.0) in
    ap (add_var x) (strictly_set (y ∷ ys) h.1) ∙ rw (e, l) refl

-- a list is sorted, and repeats are left out
pub sorted_set : (xs ys zs : List Var) → IsPermutation xs ys → IsSorted by_num ys → IsFiltered (DiffersFromLast var_eq) [] ys zs → zs ≡ ascending_vars xs
sorted_set xs ys zs p s f =
    let is : zs ≡ dedup var_eq ys = dedup_is var_eq ys zs f in
    let up : IsStrictlySortedBy by_num (dedup var_eq ys) = IsStrictlySortedBy-dedup (on_total (λ (x : Var). x.num) nat_cmp_total) (λ x y. unsigned_ties x.num y.num) ys s in
    let same : SameVars (dedup var_eq ys) xs = λ x. same_test (has_var x (dedup var_eq ys)) (has_var x xs)
    (λ h. to_has x xs (Contains-permutation ys xs x (IsPermutation-sym xs ys p) (Contains-from_dedup var_eq ys x (from_has x (dedup var_eq ys) h))))
    (λ h. to_has x (dedup var_eq ys) (Contains-dedup var_equivalence var_same ys x (Contains-permutation xs ys x p (from_has x xs h)))) in
    is ∙ sym (strictly_set (dedup var_eq ys) up) ∙ ascending_same (dedup var_eq ys) xs same

-- Lists with the same members.
same_place : (x y : Var) → Some x ≡ Some y → x ≡ y
same_place x y h = ap (λ o. unwrap_or o x) h

there_has : (xs : List Var) (i : ℕ) (x : Var) → slice_get xs i ≡ Some x → has_var x xs ≡ true
there_has [] i x h = absurd (cc)
there_has (y ∷ ys) zero x h = or_if_left (var_eq x y) (has_var x ys) (same_var x y (sym (same_place y x h)))
there_has (y ∷ ys) (suc i) x h = or_if_right (var_eq x y) (has_var x ys) (there_has ys i x h)

-- a variable that is there adds nothing
pub same_without : (xs : List Var) (i : ℕ) (x : Var) → slice_get xs i ≡ Some x → SameVars xs (xs ++ x ∷ [])
same_without xs i x h = λ y. same_test (has_var y xs) (has_var y (xs ++ x ∷ []))
    (λ k. has_var-append y xs (x ∷ []) ∙ or_if_left (has_var y xs) (has_var y (x ∷ [])) k)
    (λ k. elim (or_cases (has_var y xs) (has_var y (x ∷ [])) (sym (has_var-append y xs (x ∷ [])) ∙ k)) [
      | inl l ↦ l
      | inr r ↦ elim (or_cases (var_eq y x) false r) [
        | inl e ↦ ap (λ z. has_var z xs) (var_same y x e) ∙ there_has xs i x h
        | inr f ↦ absurd (true≢false (sym f))
      ]
    ])

pub same_with : (xs ys : List Var) → xs ≡ ys → SameVars xs ys
same_with xs ys e = λ y. ap (has_var y) e

pub same_none : (xs : List Var) → SameVars xs (xs ++ [])
same_none xs = same_with xs (xs ++ []) (sym (append-nil xs))

-- nothing is left
pub same_done : (xs ys zs : List Var) → zs ≡ [] → SameVars (xs ++ zs) ys → SameVars xs ys
same_done xs ys zs e h = λ y. ap (has_var y) (sym (append-nil xs) ∙ ap (λ ws. xs ++ ws) (sym e)) ∙ h y

-- some more are put behind
pub same_more : (xs ys zs ws all : List Var) → SameVars ys (xs ++ zs) → SameVars (xs ++ (zs ++ ws)) all → SameVars (ys ++ ws) all
same_more xs ys zs ws all h k = λ y. append_same_vars ys (xs ++ zs) ws ws h (λ x. refl) y ∙ ap (has_var y) (append_assoc xs zs ws) ∙ k y

-- the next of a list is put behind
pub same_next : (xs ys more : List Var) (d : Var) (i : ℕ) (all : List Var) → i < length more → SameVars ys (xs ++ get_or more i d ∷ []) → SameVars (xs ++ drop i more) all → SameVars (ys ++ drop (i + 1) more) all
same_next xs ys more d i all h k inv =
    let next : drop i more ≡ get_or more i d ∷ drop (suc i) more = drop-cons more i d h in
    let left : SameVars (ys ++ drop (suc i) more) all = same_more xs ys (get_or more i d ∷ []) (drop (suc i) more) all k (λ y. ap (λ (zs : List Var). has_var y (xs ++ zs)) (sym next) ∙ inv y) in
    λ y. ap (λ n. has_var y (ys ++ drop n more)) (add-one i) ∙ left y

-- the set of what is put one behind the other
pub set_of_all : (first second third ts cs os : List Var) → SameVars first ts → second ≡ first ++ cs → third ≡ second ++ os → ascending_vars third ≡ ascending_vars (ts ++ cs ++ os)
set_of_all first second third ts cs os h e d =
    ap ascending_vars (d ∙ ap (λ (xs : List Var). xs ++ os) e)
    ∙ ascending_same (first ++ cs ++ os) (ts ++ cs ++ os)
    (append_same_vars (first ++ cs) (ts ++ cs) os os (append_same_vars first ts cs cs h (λ x. refl)) (λ x. refl))

-- what is put behind others, the last of it but what is there
pub set_of_each : (first second third ts cs os : List Var) → SameVars first ts → second ≡ first ++ cs → SameVars third (second ++ os) → ascending_vars third ≡ ascending_vars (ts ++ cs ++ os)
set_of_each first second third ts cs os h e d = ascending_same third (second ++ os) d ∙ set_of_all first second (second ++ os) ts cs os h e refl
