-- Ascending lists of conditions.
use Rattle.std.proofs.Common.{◌≡◌, Bool, true, false, ◌||◌, not, List, [], ◌∷◌, refl, ap, ap₂, ◌∙◌, arith}
use Rattle.std.specs.Prelude.{filter, if◌then◌else◌}
use Rattle.std.proofs.lemmas.Bool.Decides.{nat_tests}
use Rattle.ap_defs.specs.Freshness.{Conds, add_cond, add_conds, cond_before, cond_eq, var_eq}
use Rattle.ap_defs.specs.Permutations.{name_eq}
use Rattle.ap_defs.specs.declared.terms.Cond.{Cond}
use Rattle.ap_defs.specs.declared.terms.Var.{Var}
use Rattle.ap_theory.proofs.BooleanLemmas.{and_both, and_left, and_right}
use Rattle.ap_store.specs.Changes.{has_on, is_ascending, is_before_first}
use Rattle.ap_store.specs.Triples.{AreOnUnbound, Triple, is_apart, is_on}

before_differs : (c d : Cond) → cond_before c d ≡ true → cond_eq c d ≡ false
unfolding name_eq
before_differs c d h = grind (arith, nat_tests)

before_total : (c d : Cond) → cond_eq c d ≡ false → cond_before c d ≡ false → cond_before d c ≡ true
unfolding name_eq
before_total c d h k = grind (arith, nat_tests)

before_trans : (b c d : Cond) → cond_before b c ≡ true → cond_before c d ≡ true → cond_before b d ≡ true
before_trans b c d h k = grind (arith, nat_tests)

add_before_first : (c : Cond) (ds : Conds) → is_before_first c ds ≡ true → add_cond c ds ≡ c ∷ ds
add_before_first c [] h = refl
add_before_first c (d ∷ ds) h = rw (before_differs c d h, h) refl

-- an ascending list is the set of its members
pub ascending_is_set : (ds : Conds) → is_ascending ds ≡ true → add_conds ds [] ≡ ds
ascending_is_set [] h = refl
ascending_is_set (d ∷ ds) h =
    ap (add_cond d) (ascending_is_set ds (and_right (is_before_first d ds) (is_ascending ds) h)) ∙ add_before_first d ds (and_left (is_before_first d ds) (is_ascending ds) h)

before_first_add : (d c : Cond) (ds : Conds) → cond_before d c ≡ true → is_before_first d ds ≡ true → is_before_first d (add_cond c ds) ≡ true
before_first_add d c [] h k = h
before_first_add d c (e ∷ ds) h k =
    elim (cond_eq c e) as (λ b. is_before_first d (if b then (e ∷ ds) else (if cond_before c e then (c ∷ e ∷ ds) else (e ∷ add_cond c ds))) ≡ true) [
      | true ↦ k
      | false ↦ elim (cond_before c e) as (λ b. is_before_first d (if b then (c ∷ e ∷ ds) else (e ∷ add_cond c ds)) ≡ true) [ true ↦ h | false ↦ k ]
    ]

pub ascending_add : (c : Cond) (ds : Conds) → is_ascending ds ≡ true → is_ascending (add_cond c ds) ≡ true
ascending_add c [] h = refl
ascending_add c (d ∷ ds) h =
    elim (cond_eq c d) as (λ b. cond_eq c d ≡ b → is_ascending (if b then (d ∷ ds) else (if cond_before c d then (c ∷ d ∷ ds) else (d ∷ add_cond c ds))) ≡ true) [
      | true ↦ λ e. h
      | false ↦ λ e. elim (cond_before c d) as (λ b. cond_before c d ≡ b → is_ascending (if b then (c ∷ d ∷ ds) else (d ∷ add_cond c ds)) ≡ true) [
        | true ↦ λ k. and_both (cond_before c d) (is_ascending (d ∷ ds)) k h
        | false ↦ λ k. and_both (is_before_first d (add_cond c ds)) (is_ascending (add_cond c ds))
            (before_first_add d c ds (before_total c d e k) (and_left (is_before_first d ds) (is_ascending ds) h))
            (ascending_add c ds (and_right (is_before_first d ds) (is_ascending ds) h))
      ] refl
    ] refl

pub ascending_add_all : (cs : List Cond) (ds : Conds) → is_ascending ds ≡ true → is_ascending (add_conds cs ds) ≡ true
ascending_add_all [] ds h = h
ascending_add_all (c ∷ cs) ds h = ascending_add c (add_conds cs ds) (ascending_add_all cs ds h)

before_rest : (c d : Cond) (ds : Conds) → cond_before c d ≡ true → is_before_first d ds ≡ true → is_before_first c ds ≡ true
before_rest c d [] h k = refl
before_rest c d (e ∷ ds) h k = before_trans c d e h k

before_first_filter : (p : Cond → Bool) (c : Cond) (ds : Conds) → is_before_first c ds ≡ true → is_ascending ds ≡ true → is_before_first c (filter p ds) ≡ true
before_first_filter p c [] h k = refl
before_first_filter p c (d ∷ ds) h k =
    elim (p d) as (λ b. is_before_first c (if b then (d ∷ filter p ds) else filter p ds) ≡ true) [
      | true ↦ h
      | false ↦ before_first_filter p c ds (before_rest c d ds h (and_left (is_before_first d ds) (is_ascending ds) k)) (and_right (is_before_first d ds) (is_ascending ds) k)
    ]

pub ascending_filter : (p : Cond → Bool) (ds : Conds) → is_ascending ds ≡ true → is_ascending (filter p ds) ≡ true
ascending_filter p [] h = refl
ascending_filter p (d ∷ ds) h =
    let k = and_right (is_before_first d ds) (is_ascending ds) h in
    elim (p d) as (λ b. is_ascending (if b then (d ∷ filter p ds) else filter p ds) ≡ true) [
      | true ↦ and_both (is_before_first d (filter p ds)) (is_ascending (filter p ds)) (before_first_filter p d ds (and_left (is_before_first d ds) (is_ascending ds) h) k) (ascending_filter p ds k)
      | false ↦ ascending_filter p ds k
    ]

pub on_unbound_filter : (p : Cond → Bool) (a : Triple) (ds : Conds) → AreOnUnbound a ds → AreOnUnbound a (filter p ds)
on_unbound_filter p a [] h = tt
on_unbound_filter p a (d ∷ ds) h =
    elim (p d) as (λ b. AreOnUnbound a (if b then (d ∷ filter p ds) else filter p ds)) [ true ↦ (h.0, on_unbound_filter p a ds h.1) | false ↦ on_unbound_filter p a ds h.1 ]

on_unbound_add : (a : Triple) (c : Cond) (ds : Conds) → AreOnUnbound a (c ∷ []) → AreOnUnbound a ds → AreOnUnbound a (add_cond c ds)
on_unbound_add a c [] h k = h
on_unbound_add a c (d ∷ ds) h k =
    elim (cond_eq c d) as (λ b. AreOnUnbound a (if b then (d ∷ ds) else (if cond_before c d then (c ∷ d ∷ ds) else (d ∷ add_cond c ds)))) [
      | true ↦ k
      | false ↦ elim (cond_before c d) as (λ b. AreOnUnbound a (if b then (c ∷ d ∷ ds) else (d ∷ add_cond c ds))) [ true ↦ (h.0, k) | false ↦ (k.0, on_unbound_add a c ds h k.1) ]
    ]

pub on_unbound_add_all : (a : Triple) (cs : List Cond) (ds : Conds) → AreOnUnbound a cs → AreOnUnbound a ds → AreOnUnbound a (add_conds cs ds)
on_unbound_add_all a [] ds h k = k
on_unbound_add_all a (c ∷ cs) ds h k = on_unbound_add a c (add_conds cs ds) (h.0, tt) (on_unbound_add_all a cs ds h.1 k)

-- no condition on x is left apart from x
pub has_on_apart : (x : Var) (ds : Conds) → has_on x (filter (is_apart x) ds) ≡ false
has_on_apart x [] = refl
has_on_apart x (d ∷ ds) =
    elim (var_eq d.var x) as (λ b. var_eq d.var x ≡ b → has_on x (if not b then (d ∷ filter (is_apart x) ds) else filter (is_apart x) ds) ≡ false) [
      | true ↦ λ e. has_on_apart x ds
      | false ↦ λ e. ap₂ ◌||◌ e (has_on_apart x ds)
    ] refl

-- where none is on x, all are apart
pub all_apart : (x : Var) (ds : Conds) → filter (is_on x) ds ≡ [] → filter (is_apart x) ds ≡ ds
all_apart x [] h = refl
all_apart x (d ∷ ds) h =
    elim (var_eq d.var x) as (λ b. (if b then (d ∷ filter (is_on x) ds) else filter (is_on x) ds) ≡ [] → (if not b then (d ∷ filter (is_apart x) ds) else filter (is_apart x) ds) ≡ d ∷ ds) [
      | true ↦ λ k. cc
      | false ↦ λ k. ap (λ (cs : Conds). d ∷ cs) (all_apart x ds k)
    ] h

-- whether the ones on x are none
pub none_on : (x : Var) (ds : Conds) → filter (is_on x) ds ≡ [] → has_on x ds ≡ false
none_on x [] h = refl
none_on x (d ∷ ds) h =
    elim (var_eq d.var x) as (λ b. (if b then (d ∷ filter (is_on x) ds) else filter (is_on x) ds) ≡ [] → (b || has_on x ds) ≡ false) [
      | true ↦ λ k. cc
      | false ↦ λ k. none_on x ds k
    ] h

pub on_none : (x : Var) (ds : Conds) → has_on x ds ≡ false → filter (is_on x) ds ≡ []
on_none x [] h = refl
on_none x (d ∷ ds) h =
    elim (var_eq d.var x) as (λ b. (b || has_on x ds) ≡ false → (if b then (d ∷ filter (is_on x) ds) else filter (is_on x) ds) ≡ []) [
      | true ↦ λ k. cc
      | false ↦ λ k. on_none x ds k
    ] h

-- a set to which a condition was added is not empty
pub added_some : (c : Cond) (ds : Conds) → add_cond c ds ≡ [] → ⊥
added_some c [] h = cc
added_some c (d ∷ ds) h =
    elim (cond_eq c d) as (λ b. (if b then (d ∷ ds) else (if cond_before c d then (c ∷ d ∷ ds) else (d ∷ add_cond c ds))) ≡ [] → ⊥) [
      | true ↦ λ k. cc
      | false ↦ elim (cond_before c d) as (λ b. (if b then (c ∷ d ∷ ds) else (d ∷ add_cond c ds)) ≡ [] → ⊥) [ true ↦ λ k. cc | false ↦ λ k. cc ]
    ] h
