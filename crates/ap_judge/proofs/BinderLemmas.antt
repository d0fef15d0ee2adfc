-- Equality of terms within pairs of binders.
use Rattle.std.proofs.Common.{◌≡◌, ℕ, suc, Bool, true, false, ◌==◌, ◌&&◌, ◌||◌, not, if◌then◌else◌, List, [], ◌∷◌, ◌++◌, refl, sym, ap, ap₂, ◌∙◌, true≢false, inl, inr}
use Rattle.std.specs.Prelude.{Option, Some, None, is_some}
use Rattle.ap_defs.specs.declared.terms.Name.{Name}
use Rattle.ap_defs.specs.declared.terms.Swap.{Swap}
use Rattle.ap_defs.specs.Freshness.{Conds, alpha_under, fresh_under}
use Rattle.ap_defs.specs.Permutations.{act_name, inverse, left_name, name_eq, right_name, swap_of}
use Rattle.ap_defs.specs.Terms.{NominalTerm, abs, act_term, app, name, pair, susp, unit}
use Rattle.ap_theory.proofs.BooleanLemmas.{and_left, and_right, false_if_not, or_assoc}
use Rattle.ap_theory.proofs.PermutationLemmas.{act_inverse, act_sort, name_tells}
use Rattle.ap_theory.proofs.TermLemmas.{act_term-append, same_number}
use Rattle.ap_theory.proofs.UnderLemmas.{fresh_under_act}
use Rattle.ap_judge.specs.Binders.{right_place, within_left, within_right}
use Rattle.ap_judge.specs.Latest.{or_here}
use Rattle.ap_judge.proofs.MeaningLemmas.{mean_from, met_one, met_two}

pub found_or : (o : Option ℕ) (b : Bool) (n : ℕ) → is_some (or_here o b n) ≡ (b || is_some o)
found_or (Some i) true n = refl
found_or (Some i) false n = refl
found_or None true n = refl
found_or None false n = refl

fresh_within : (ds : Conds) (n : ℕ) (ss : List Swap) (c : Name) (u : NominalTerm) → fresh_under ds c (within_right ss u) ≡ (is_some (right_place n ss c) || fresh_under ds c u)
fresh_within ds n [] c u = refl
fresh_within ds n (s ∷ ss) c u =
    ap (λ v. name_eq c (right_name s) || v) (fresh_within ds (suc n) ss c u)
    ∙ sym (or_assoc (name_eq c (right_name s)) (is_some (right_place (suc n) ss c)) (fresh_under ds c u))
    ∙ ap (λ v. v || fresh_under ds c u) (sym (found_or (right_place (suc n) ss c) (name_eq c (right_name s)) n))

-- where the permutation acts on the second term and its binders
abbrev pub alike_from : Conds → List Swap → List Swap → NominalTerm → NominalTerm → Bool
alike_from ds ss p t u = alpha_under ds (within_left ss t) (act_term p (within_right ss u))

-- THE OUTERMOST BINDERS

module _ (ds : Conds) (n : ℕ) (s : Swap) (ss p : List Swap) (t u : NominalTerm) where
  abbrev l : Name
  l = left_name s

  abbrev r : Name
  r = right_name s

  abbrev c : Name
  c = act_name (inverse p) l

  abbrev swapping : Swap
  swapping = swap_of l (act_name p r)

  abbrev rest : NominalTerm
  rest = act_term p (within_right ss u)

  pub step_one : name_eq l (act_name p r) ≡ true → alike_from ds (s ∷ ss) p t u ≡ alike_from ds ss p t u
  step_one h = ap (λ v. if v then alpha_under ds (within_left ss t) rest else ((l.sort == (act_name p r).sort) && (fresh_under ds l rest && alpha_under ds (within_left ss t) (act_term (swapping ∷ []) rest)))) h

  fresh_inside : fresh_under ds l rest ≡ (is_some (right_place n ss c) || fresh_under ds c u)
  fresh_inside =
      ap (λ z. fresh_under ds z rest) (sym (act_inverse p l)) ∙ fresh_under_act ds p c (within_right ss u) ∙ fresh_within ds n ss c u

  pub step_two : name_eq l (act_name p r) ≡ false
      → alike_from ds (s ∷ ss) p t u ≡ ((is_some (right_place n ss c) || fresh_under ds c u) && alike_from ds ss (swapping ∷ p) t u)
  step_two h =
      ap (λ v. if v then alpha_under ds (within_left ss t) rest else ((l.sort == (act_name p r).sort) && (fresh_under ds l rest && alpha_under ds (within_left ss t) (act_term (swapping ∷ []) rest)))) h
      ∙ ap₂ (λ v w. v && (w && alpha_under ds (within_left ss t) (act_term (swapping ∷ []) rest))) (same_number l.sort (act_name p r).sort (sym (act_sort p r))) fresh_inside
      ∙ ap (λ z. (is_some (right_place n ss c) || fresh_under ds c u) && alpha_under ds (within_left ss t) z) (sym (act_term-append (swapping ∷ []) p (within_right ss u)))

-- WHAT STANDS WITHIN THEM

pub or_true : (b : Bool) → (b || true) ≡ true
or_true true = refl
or_true false = refl

pub and_false : (b : Bool) → (b && false) ≡ false
and_false true = refl
and_false false = refl

and_exchange : (x y z : Bool) → (y && (x && z)) ≡ (x && (y && z))
and_exchange x true z = refl
and_exchange true false z = refl
and_exchange false false z = refl

both_within : (b x y z w : Bool) → ((b || (x && y)) && (z && w)) ≡ (((b || x) && z) && ((b || y) && w))
both_within true x y z w = refl
both_within false true true z w = refl
both_within false true false z w = sym (and_false z)
both_within false false y z w = refl

pub unit_alike : (ds : Conds) (ss p : List Swap) → alike_from ds ss p unit unit ≡ true
unit_alike ds [] p = refl
unit_alike ds (s ∷ ss) p =
    elim (name_tells (left_name s) (act_name p (right_name s))) [
      | inl e ↦ step_one ds 0 s ss p unit unit e.0 ∙ unit_alike ds ss p
      | inr e ↦
          step_two ds 0 s ss p unit unit e.0
          ∙ ap₂ ◌&&◌ (or_true (is_some (right_place 0 ss (act_name (inverse p) (left_name s))))) (unit_alike ds ss (swap_of (left_name s) (act_name p (right_name s)) ∷ p))
    ]

pub pair_alike : (ds : Conds) (ss p : List Swap) (t u v w : NominalTerm) → alike_from ds ss p (pair t u) (pair v w) ≡ (alike_from ds ss p t v && alike_from ds ss p u w)
pair_alike ds [] p t u v w = refl
pair_alike ds (s ∷ ss) p t u v w =
    elim (name_tells (left_name s) (act_name p (right_name s))) [
      | inl e ↦
          step_one ds 0 s ss p (pair t u) (pair v w) e.0 ∙ pair_alike ds ss p t u v w
          ∙ ap₂ ◌&&◌ (sym (step_one ds 0 s ss p t v e.0)) (sym (step_one ds 0 s ss p u w e.0))
      | inr e ↦
          let c = act_name (inverse p) (left_name s) in
          let q = swap_of (left_name s) (act_name p (right_name s)) ∷ p in
          let b = is_some (right_place 0 ss c) in
          step_two ds 0 s ss p (pair t u) (pair v w) e.0
          ∙ ap (λ z. (b || (fresh_under ds c v && fresh_under ds c w)) && z) (pair_alike ds ss q t u v w)
          ∙ both_within b (fresh_under ds c v) (fresh_under ds c w) (alike_from ds ss q t v) (alike_from ds ss q u w)
          ∙ ap₂ ◌&&◌ (sym (step_two ds 0 s ss p t v e.0)) (sym (step_two ds 0 s ss p u w e.0))
    ]

pub app_alike : (ds : Conds) (ss p : List Swap) (f g : ℕ) (t u : NominalTerm) → alike_from ds ss p (app f t) (app g u) ≡ ((f == g) && alike_from ds ss p t u)
app_alike ds [] p f g t u = refl
app_alike ds (s ∷ ss) p f g t u =
    elim (name_tells (left_name s) (act_name p (right_name s))) [
      | inl e ↦ step_one ds 0 s ss p (app f t) (app g u) e.0 ∙ app_alike ds ss p f g t u ∙ ap (λ z. (f == g) && z) (sym (step_one ds 0 s ss p t u e.0))
      | inr e ↦
          let c = act_name (inverse p) (left_name s) in
          let q = swap_of (left_name s) (act_name p (right_name s)) ∷ p in
          let b = is_some (right_place 0 ss c) || fresh_under ds c u in
          step_two ds 0 s ss p (app f t) (app g u) e.0 ∙ ap (λ z. b && z) (app_alike ds ss q f g t u)
          ∙ and_exchange (f == g) b (alike_from ds ss q t u)
          ∙ ap (λ z. (f == g) && z) (sym (step_two ds 0 s ss p t u e.0))
    ]

abbrev pub shape : NominalTerm → ℕ
shape unit = 0
shape (name a) = 1
shape (pair t u) = 2
shape (app f t) = 3
shape (abs a t) = 4
shape (susp p x) = 5

same_shape : (ds : Conds) (p : List Swap) (t u : NominalTerm) → alpha_under ds t (act_term p u) ≡ true → shape t ≡ shape u
same_shape ds p unit unit h = refl
same_shape ds p (name a) (name b) h = refl
same_shape ds p (pair t u) (pair v w) h = refl
same_shape ds p (app f t) (app g u) h = refl
same_shape ds p (abs a t) (abs b u) h = refl
same_shape ds p (susp q x) (susp r y) h = refl
same_shape ds p _ _ h = absurd (true≢false (sym h))

pub shapes_alike : (ds : Conds) (ss p : List Swap) (t u : NominalTerm) → (shape t == shape u) ≡ false → alike_from ds ss p t u ≡ false
shapes_alike ds [] p t u h = false_if_not (alike_from ds [] p t u) (λ k. true≢false (sym (same_number (shape t) (shape u) (same_shape ds p t u k)) ∙ h))
shapes_alike ds (s ∷ ss) p t u h =
    elim (name_tells (left_name s) (act_name p (right_name s))) [
      | inl e ↦ step_one ds 0 s ss p t u e.0 ∙ shapes_alike ds ss p t u h
      | inr e ↦
          let c = act_name (inverse p) (left_name s) in
          let b = is_some (right_place 0 ss c) || fresh_under ds c u in
          step_two ds 0 s ss p t u e.0 ∙ ap (λ z. b && z) (shapes_alike ds ss (swap_of (left_name s) (act_name p (right_name s)) ∷ p) t u h) ∙ and_false b
    ]

pub names_alike : (ds : Conds) (n : ℕ) (ss p : List Swap) (a b : Name) → alike_from ds ss p (name a) (name b) ≡ mean_from n ss p a b
names_alike ds n [] p a b = refl
names_alike ds n (s ∷ ss) p a b =
    elim (name_tells (left_name s) (act_name p (right_name s))) [
      | inl e ↦ step_one ds n s ss p (name a) (name b) e.0 ∙ names_alike ds (suc n) ss p a b ∙ sym (met_one n s ss p a b e.0)
      | inr e ↦
          let c = act_name (inverse p) (left_name s) in
          step_two ds (suc n) s ss p (name a) (name b) e.0
          ∙ ap (λ z. (is_some (right_place (suc n) ss c) || not (name_eq c b)) && z) (names_alike ds (suc n) ss (swap_of (left_name s) (act_name p (right_name s)) ∷ p) a b)
          ∙ sym (met_two n s ss p a b e.0)
    ]

-- BINDERS

hidden_or : (h cb f : Bool) → (h || not cb) ≡ true → (h || (cb || f)) ≡ (h || f)
hidden_or true cb f e = refl
hidden_or false true f e = absurd (true≢false (sym e))
hidden_or false false f e = refl

pub known_alike : (ds : Conds) (n : ℕ) (ss p : List Swap) (a b : Name) (t u : NominalTerm) → mean_from n ss p a b ≡ true → alike_from ds ss p (abs a t) (abs b u) ≡ alike_from ds ss p t u
known_alike ds n [] p a b t u h = ap (λ v. if v then alpha_under ds t (act_term p u) else ((a.sort == (act_name p b).sort) && (fresh_under ds a (act_term p u) && alpha_under ds t (act_term (swap_of a (act_name p b) ∷ []) (act_term p u))))) h
known_alike ds n (s ∷ ss) p a b t u h =
    elim (name_tells (left_name s) (act_name p (right_name s))) [
      | inl e ↦
          step_one ds n s ss p (abs a t) (abs b u) e.0 ∙ known_alike ds (suc n) ss p a b t u (sym (met_one n s ss p a b e.0) ∙ h)
          ∙ sym (step_one ds n s ss p t u e.0)
      | inr e ↦
          let c = act_name (inverse p) (left_name s) in
          let q = swap_of (left_name s) (act_name p (right_name s)) ∷ p in
          let b' = is_some (right_place (suc n) ss c) in
          let both = sym (met_two n s ss p a b e.0) ∙ h in
          step_two ds (suc n) s ss p (abs a t) (abs b u) e.0
          ∙ ap₂ ◌&&◌ (hidden_or b' (name_eq c b) (fresh_under ds c u) (and_left _ (mean_from (suc n) ss q a b) both))
          (known_alike ds (suc n) ss q a b t u (and_right (b' || not (name_eq c b)) _ both))
          ∙ sym (step_two ds (suc n) s ss p t u e.0)
    ]

pub left_last : (ss : List Swap) (s : Swap) (t : NominalTerm) → within_left (ss ++ s ∷ []) t ≡ within_left ss (abs (left_name s) t)
left_last [] s t = refl
left_last (b ∷ ss) s t = ap (abs (left_name b)) (left_last ss s t)

pub right_last : (ss : List Swap) (s : Swap) (t : NominalTerm) → within_right (ss ++ s ∷ []) t ≡ within_right ss (abs (right_name s) t)
right_last [] s t = refl
right_last (b ∷ ss) s t = ap (abs (right_name b)) (right_last ss s t)

pub sorts_alike : (ds : Conds) (ss p : List Swap) (a b : Name) (t u : NominalTerm) → (a.sort == b.sort) ≡ false → alike_from ds ss p (abs a t) (abs b u) ≡ false
sorts_alike ds [] p a b t u h =
    let other : (a.sort == (act_name p b).sort) ≡ false = ap (λ n. a.sort == n) (act_sort p b) ∙ h in
    elim (name_tells a (act_name p b)) [
      | inl e ↦ absurd (true≢false (sym (same_number a.sort (act_name p b).sort (ap (λ (z : Name). z.sort) e.1)) ∙ other))
      | inr e ↦
          ap₂ (λ v w. if v then alpha_under ds t (act_term p u) else (w && (fresh_under ds a (act_term p u) && alpha_under ds t (act_term (swap_of a (act_name p b) ∷ []) (act_term p u))))) e.0 other
    ]
sorts_alike ds (s ∷ ss) p a b t u h =
    elim (name_tells (left_name s) (act_name p (right_name s))) [
      | inl e ↦ step_one ds 0 s ss p (abs a t) (abs b u) e.0 ∙ sorts_alike ds ss p a b t u h
      | inr e ↦
          let c = act_name (inverse p) (left_name s) in
          let f = is_some (right_place 0 ss c) || fresh_under ds c (abs b u) in
          step_two ds 0 s ss p (abs a t) (abs b u) e.0 ∙ ap (λ z. f && z) (sorts_alike ds ss (swap_of (left_name s) (act_name p (right_name s)) ∷ p) a b t u h) ∙ and_false f
    ]
