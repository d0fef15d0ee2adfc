-- Two suspensions are equal within pairs of binders just where each name is settled.
use Rattle.std.proofs.Common.{◌≡◌, ◌⊎◌, ◌<◌, ◌+◌, ℕ, suc, Bool, true, false, ◌&&◌, ◌||◌, not, List, [], ◌∷◌, ◌++◌, length, get_or, drop, refl, sym, ap, ap₂, ◌∙◌, add-one, true≢false, inl, inr}
use Rattle.std.proofs.Math.Seq.{drop-cons}
use Rattle.std.specs.Prelude.{Option, Some, None, is_some}
use Rattle.ap_defs.specs.declared.terms.Name.{Name}
use Rattle.ap_defs.specs.declared.terms.Swap.{Swap}
use Rattle.ap_defs.specs.declared.terms.Var.{Var}
use Rattle.ap_defs.specs.Freshness.{Conds, alpha_under, has_cond, var_eq}
use Rattle.ap_defs.specs.Permutations.{act_name, has_name, inverse, left_name, name_eq, names_of, right_name, swap_of}
use Rattle.ap_defs.specs.Terms.{susp}
use Rattle.ap_theory.proofs.BooleanLemmas.{and_both, and_left, and_right, false_if_not, or_cases, same_test}
use Rattle.ap_theory.proofs.DisagreementLemmas.{act_unnamed}
use Rattle.ap_theory.proofs.PermutationLemmas.{act-append, act_inverse, inverse_act, name_eq_itself, name_eq_same, name_tells}
use Rattle.ap_theory.proofs.TermLemmas.{act_term_none, same_var, var_same}
use Rattle.ap_theory.proofs.TestLemmas.{Equal_alpha_under, alpha_under_Equal}
use Rattle.ap_judge.specs.Binders.{left_place, means, right_place, within_left, within_right}
use Rattle.ap_judge.specs.Settled.{are_all_settled, are_bound_settled, are_settled, is_settled}
use Rattle.ap_judge.proofs.BinderLemmas.{alike_from, found_or, or_true, step_one, step_two}
use Rattle.ap_judge.proofs.MeaningLemmas.{mean_from, met_one, met_two}

settle_two : (b nb m hc k : Bool) → (b || k) ≡ true → (m || hc) ≡ true → (nb ≡ true → k ≡ hc) → (((b || not nb) && m) || hc) ≡ true
settle_two b nb m true k h f e = or_true ((b || not nb) && m)
settle_two b nb false false k h f e = absurd (true≢false (sym f))
settle_two true nb true false k h f e = refl
settle_two false true true false k h f e = absurd (true≢false (sym h ∙ e refl))
settle_two false false true false k h f e = refl

back_first : (b nb m hc : Bool) → nb ≡ true → (((b || not nb) && m) || hc) ≡ true → (b || hc) ≡ true
back_first true nb m hc e h = refl
back_first false true m hc e h = h
back_first false false m hc e h = absurd (true≢false (sym e))

back_second : (k m hc : Bool) → ((k && m) || hc) ≡ true → (m || hc) ≡ true
back_second k true hc h = refl
back_second true false hc h = h
back_second false false hc h = h

or_else : (b c : Bool) → b ≡ false → (b || c) ≡ true → c ≡ true
or_else b c e h = ap (λ v. v || c) (sym e) ∙ h

module _ (ds : Conds) (x y : Var) (q r : List Swap) where
  abbrev known : Name → Bool
  known c = has_cond (record { name = c; var = x }) ds

  abbrev settles : ℕ → List Swap → List Swap → Name → Bool
  settles n ss p c = mean_from n ss p (act_name q c) (act_name r c) || known c

  each_settled : (n : ℕ) (ss p : List Swap) → alike_from ds ss p (susp q x) (susp r y) ≡ true → (x ≡ y) × ((c : Name) → settles n ss p c ≡ true)
  each_settled n [] p h =
      let equal = alpha_under_Equal ds (susp q x) (susp (p ++ r) y) h in (
        equal.0,
        λ c. elim (name_tells (act_name q c) (act_name p (act_name r c))) [
          | inl e ↦ ap (λ v. v || known c) e.0
          | inr e ↦ ap (λ v. name_eq (act_name q c) (act_name p (act_name r c)) || v) (equal.1 c (λ s. e.1 (s ∙ act-append p r c))) ∙ or_true (name_eq (act_name q c) (act_name p (act_name r c)))
        ],
      )
  each_settled n (s ∷ ss) p h =
      elim (name_tells (left_name s) (act_name p (right_name s))) [
        | inl e ↦
            let further = each_settled (suc n) ss p (sym (step_one ds n s ss p (susp q x) (susp r y) e.0) ∙ h) in
            (further.0, λ c. ap (λ v. v || known c) (met_one n s ss p (act_name q c) (act_name r c) e.0) ∙ further.1 c)
        | inr e ↦
            let a = act_name (inverse p) (left_name s) in
            let s' = swap_of (left_name s) (act_name p (right_name s)) in
            let b = is_some (right_place (suc n) ss a) in
            let k = has_cond (record { name = act_name (inverse r) a; var = y }) ds in
            let both = sym (step_two ds (suc n) s ss p (susp q x) (susp r y) e.0) ∙ h in
            let further = each_settled (suc n) ss (s' ∷ p) (and_right (b || k) _ both) in (
              further.0,
              λ c.
                  ap (λ v. v || known c) (met_two n s ss p (act_name q c) (act_name r c) e.0)
                  ∙ settle_two b (name_eq a (act_name r c)) (mean_from (suc n) ss (s' ∷ p) (act_name q c) (act_name r c)) (known c) k (and_left (b || k) _ both) (further.1 c)
                  (λ f. ap₂ (λ d z. has_cond (record { name = d; var = z }) ds) (ap (act_name (inverse r)) (name_eq_same a (act_name r c) f) ∙ inverse_act r c) (sym further.0)),
            )
      ]

  settled_each : (n : ℕ) (ss p : List Swap) → x ≡ y → ((c : Name) → settles n ss p c ≡ true) → alike_from ds ss p (susp q x) (susp r y) ≡ true
  settled_each n [] p same h =
      Equal_alpha_under ds (susp q x) (susp (p ++ r) y) (
        same,
        λ c d.
            elim (name_tells (act_name q c) (act_name p (act_name r c))) [
              | inl e ↦ absurd (d (e.1 ∙ sym (act-append p r c)))
              | inr e ↦ or_else (name_eq (act_name q c) (act_name p (act_name r c))) (known c) e.0 (h c)
            ],
      )
  settled_each n (s ∷ ss) p same h =
      elim (name_tells (left_name s) (act_name p (right_name s))) [
        | inl e ↦
            step_one ds n s ss p (susp q x) (susp r y) e.0
            ∙ settled_each (suc n) ss p same (λ c. ap (λ v. v || known c) (sym (met_one n s ss p (act_name q c) (act_name r c) e.0)) ∙ h c)
        | inr e ↦
            let a = act_name (inverse p) (left_name s) in
            let s' = swap_of (left_name s) (act_name p (right_name s)) in
            let b = is_some (right_place (suc n) ss a) in
            let d = act_name (inverse r) a in
            let k = has_cond (record { name = d; var = y }) ds in
            let m : Name → Bool = λ c. mean_from (suc n) ss (s' ∷ p) (act_name q c) (act_name r c) in
            let split : (c : Name) → (((b || not (name_eq a (act_name r c))) && m c) || known c) ≡ true = λ c. ap (λ v. v || known c) (sym (met_two n s ss p (act_name q c) (act_name r c) e.0)) ∙ h c in
            let met : name_eq a (act_name r d) ≡ true = ap (name_eq a) (act_inverse r a) ∙ name_eq_itself a in
            let first : (b || k) ≡ true = ap (λ z. b || has_cond (record { name = d; var = z }) ds) (sym same) ∙ back_first b (name_eq a (act_name r d)) (m d) (known d) met (split d) in
            step_two ds (suc n) s ss p (susp q x) (susp r y) e.0
            ∙ and_both (b || k) _ first (settled_each (suc n) ss (s' ∷ p) same (λ c. back_second (b || not (name_eq a (act_name r c))) (m c) (known c) (split c)))
      ]

-- ENOUGH NAMES ARE LOOKED AT

module _ (ds : Conds) (ss p q : List Swap) (x : Var) where
  abbrev is : Name → Bool
  is a = is_settled ds ss p q x a

  of_each : ((c : Name) → is c ≡ true) → (of : List Swap) → are_settled ds ss p q x of ≡ true
  of_each h [] = refl
  of_each h (s ∷ of) = and_both _ _ (and_both _ _ (h (left_name s)) (h (right_name s))) (of_each h of)

  of_each_bound : ((c : Name) → is c ≡ true) → (of : List Swap) → are_bound_settled ds ss p q x of ≡ true
  of_each_bound h [] = refl
  of_each_bound h (s ∷ of) = and_both _ _ (and_both _ _ (h (act_name (inverse p) (left_name s))) (h (act_name (inverse q) (right_name s)))) (of_each_bound h of)

  named : (of : List Swap) (c : Name) → are_settled ds ss p q x of ≡ true → has_name c (names_of of) ≡ true → is c ≡ true
  named [] c h k = absurd (true≢false (sym k))
  named (s ∷ of) c h k =
      let two = and_left _ (are_settled ds ss p q x of) h in
      elim (or_cases (name_eq c (left_name s)) (name_eq c (right_name s) || has_name c (names_of of)) k) [
        | inl e ↦ ap is (name_eq_same c (left_name s) e) ∙ and_left _ (is (right_name s)) two
        | inr f ↦ elim (or_cases (name_eq c (right_name s)) (has_name c (names_of of)) f) [
          | inl e ↦ ap is (name_eq_same c (right_name s) e) ∙ and_right (is (left_name s)) _ two
          | inr g ↦ named of c (and_right (is (left_name s) && is (right_name s)) _ h) g
        ]
      ]

  bound_left : (n : ℕ) (of : List Swap) (a : Name) → are_bound_settled ds ss p q x of ≡ true → is_some (left_place n of a) ≡ true → is (act_name (inverse p) a) ≡ true
  bound_left n [] a h k = absurd (true≢false (sym k))
  bound_left n (s ∷ of) a h k =
      elim (or_cases (name_eq a (left_name s)) (is_some (left_place (suc n) of a)) (sym (found_or (left_place (suc n) of a) (name_eq a (left_name s)) n) ∙ k)) [
        | inl e ↦ ap (λ z. is (act_name (inverse p) z)) (name_eq_same a (left_name s) e) ∙ and_left _ (is (act_name (inverse q) (right_name s))) (and_left _ (are_bound_settled ds ss p q x of) h)
        | inr f ↦ bound_left (suc n) of a (and_right (is (act_name (inverse p) (left_name s)) && is (act_name (inverse q) (right_name s))) _ h) f
      ]

  bound_right : (n : ℕ) (of : List Swap) (a : Name) → are_bound_settled ds ss p q x of ≡ true → is_some (right_place n of a) ≡ true → is (act_name (inverse q) a) ≡ true
  bound_right n [] a h k = absurd (true≢false (sym k))
  bound_right n (s ∷ of) a h k =
      elim (or_cases (name_eq a (right_name s)) (is_some (right_place (suc n) of a)) (sym (found_or (right_place (suc n) of a) (name_eq a (right_name s)) n) ∙ k)) [
        | inl e ↦ ap (λ z. is (act_name (inverse q) z)) (name_eq_same a (right_name s) e) ∙ and_right (is (act_name (inverse p) (left_name s))) _ (and_left _ (are_bound_settled ds ss p q x of) h)
        | inr f ↦ bound_right (suc n) of a (and_right (is (act_name (inverse p) (left_name s)) && is (act_name (inverse q) (right_name s))) _ h) f
      ]

  unbound : (la lb : Option ℕ) (v : Bool) → is_some la ≡ false → is_some lb ≡ false → means la lb v ≡ v
  unbound (Some i) lb v h k = absurd (true≢false h)
  unbound None (Some j) v h k = absurd (true≢false k)
  unbound None None v h k = refl

  decided : (b : Bool) → (b ≡ true) ⊎ (b ≡ false)
  decided true = inl refl
  decided false = inr refl

  module _ (h : are_all_settled ds ss p q x ≡ true) where
    of_p : are_settled ds ss p q x p ≡ true
    of_p = and_left _ (are_settled ds ss p q x q) (and_left _ (are_bound_settled ds ss p q x ss) h)

    of_q : are_settled ds ss p q x q ≡ true
    of_q = and_right (are_settled ds ss p q x p) _ (and_left _ (are_bound_settled ds ss p q x ss) h)

    of_bound : are_bound_settled ds ss p q x ss ≡ true
    of_bound = and_right (are_settled ds ss p q x p && are_settled ds ss p q x q) _ h

    each : (c : Name) → is c ≡ true
    each c =
        elim (decided (has_name c (names_of p))) [
          | inl e ↦ named p c of_p e
          | inr f ↦ elim (decided (has_name c (names_of q))) [
            | inl e ↦ named q c of_q e
            | inr g ↦ elim (decided (is_some (left_place 0 ss (act_name p c)))) [
              | inl e ↦ sym (ap is (inverse_act p c)) ∙ bound_left 0 ss (act_name p c) of_bound e
              | inr j ↦ elim (decided (is_some (right_place 0 ss (act_name q c)))) [
                | inl e ↦ sym (ap is (inverse_act q c)) ∙ bound_right 0 ss (act_name q c) of_bound e
                | inr k ↦
                    ap (λ v. v || has_cond (record { name = c; var = x }) ds)
                    (unbound (left_place 0 ss (act_name p c)) (right_place 0 ss (act_name q c)) (name_eq (act_name p c) (act_name q c)) j k
                    ∙ ap₂ name_eq (act_unnamed p c f) (act_unnamed q c g) ∙ name_eq_itself c)
              ]
            ]
          ]
        ]

pub settled_all : (ds : Conds) (ss p q : List Swap) (x y : Var) → var_eq x y ≡ true → are_all_settled ds ss p q x ≡ alpha_under ds (within_left ss (susp p x)) (within_right ss (susp q y))
settled_all ds ss p q x y e =
    let none = ap (alpha_under ds (within_left ss (susp p x))) (act_term_none (within_right ss (susp q y))) in
    same_test _ _
    (λ h. sym none ∙ settled_each ds x y p q 0 ss [] (var_same x y e) (each ds ss p q x h))
    (λ h.
    let of = (each_settled ds x y p q 0 ss [] (none ∙ h)).1 in
    and_both _ _ (and_both _ _ (of_each ds ss p q x of p) (of_each ds ss p q x of q)) (of_each_bound ds ss p q x of ss))

pub other_vars : (ds : Conds) (ss p q : List Swap) (x y : Var) → var_eq x y ≡ false → alpha_under ds (within_left ss (susp p x)) (within_right ss (susp q y)) ≡ false
other_vars ds ss p q x y e =
    false_if_not _ (λ h.
    let same = (each_settled ds x y p q 0 ss [] (ap (alpha_under ds (within_left ss (susp p x))) (act_term_none (within_right ss (susp q y))) ∙ h)).0 in
    true≢false (sym (same_var x y same) ∙ e))

-- one more swapping, and one more pair of binders
module _ (ds : Conds) (ss p q : List Swap) (x : Var) (of : List Swap) (i : ℕ) (d : Swap) (h : i < length of) where
  next : drop i of ≡ get_or of i d ∷ drop (i + 1) of
  next = drop-cons of i d h ∙ ap (λ n. get_or of i d ∷ drop n of) (sym (add-one i))

  pub settled_next : are_settled ds ss p q x (drop i of)
      ≡ ((is_settled ds ss p q x (left_name (get_or of i d)) && is_settled ds ss p q x (right_name (get_or of i d))) && are_settled ds ss p q x (drop (i + 1) of))
  settled_next = ap (are_settled ds ss p q x) next

  pub bound_next : are_bound_settled ds ss p q x (drop i of)
      ≡ ((is_settled ds ss p q x (act_name (inverse p) (left_name (get_or of i d))) && is_settled ds ss p q x (act_name (inverse q) (right_name (get_or of i d)))) && are_bound_settled ds ss p q x (drop (i + 1) of))
  bound_next = ap (are_bound_settled ds ss p q x) next
