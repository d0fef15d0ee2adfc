-- Variables that a look went through, and what is left of them among the parts that wait.
use Rattle.std.proofs.Common.{◌≡◌, ◌<◌, ◌≤◌, ◌+◌, ◌⊎◌, ◌∙◌, ◌||◌, ℕ, zero, suc, Bool, true, false, true≢false, List, [], ◌∷◌, ◌++◌, inl, inr, set, replicate, refl, sym, ap, subst, arith}
use Rattle.std.specs.Prelude.{Some, None}
use Rattle.std.proofs.lemmas.List.{append-nil}
use Rattle.ap_defs.specs.Substitution.{Binding, bound_term, occurs, under}
use Rattle.ap_defs.specs.Freshness.{var_eq}
use Rattle.ap_defs.specs.Terms.{NominalTerm, act_term, pair, susp}
use Rattle.ap_defs.specs.declared.terms.Swap.{Swap}
use Rattle.ap_defs.specs.declared.terms.Var.{Var}
use Rattle.ap_perm.proofs.VisitLemmas.{visits_abs, visits_act, visits_app}
use Rattle.ap_theory.proofs.BooleanLemmas.{false_if_not, or_cases, or_if_right}
use Rattle.ap_theory.proofs.TermLemmas.{number_same}
use Rattle.ap_store.specs.Founds.{IsInner, IsOnce, bare_term, occurs_in}
use Rattle.ap_store.specs.Passed.{is_mark_at}
use Rattle.ap_store.specs.Views.{bindings_of, rank, raw_bound}
use Rattle.ap_store.specs.declared.bare.Bare.{Bare}
use Rattle.ap_store.specs.declared.occurrences.Once.TheVariants as onces
use Rattle.ap_store.specs.declared.passed.Passed.{Passed}
use Rattle.ap_store.specs.declared.store.Store.{Store}
use Rattle.ap_store.proofs.BindLemmas.{occurs_moved}
use Rattle.ap_store.proofs.FollowLemmas.{bound_less, bound_occurs, left_less, right_less, unbound_occurs, visits_in}
use Rattle.ap_store.proofs.StoreLemmas.{store_ranked}
use Rattle.ap_store.proofs.WaitingLemmas.{occurs_in_any, one_waits}

-- Marks.
pub marked_set : (ms : List Bool) (i j : ℕ) → is_mark_at (set ms i true) j ≡ true → (is_mark_at ms j ≡ true) ⊎ (j ≡ i)
marked_set [] i j h = inl h
marked_set (m ∷ ms) zero zero h = inr refl
marked_set (m ∷ ms) zero (suc j) h = inl h
marked_set (m ∷ ms) (suc i) zero h = inl h
marked_set (m ∷ ms) (suc i) (suc j) h = elim (marked_set ms i j h) [ inl k ↦ inl k | inr e ↦ inr (ap suc e) ]

pub none_marked : (n i : ℕ) → is_mark_at (replicate n false) i ≡ true → false ≡ true
none_marked zero i h = h
none_marked (suc n) zero h = h
none_marked (suc n) (suc i) h = none_marked n i h

-- Truth of two.
absorbed : (a b : Bool) → (a ≡ true → b ≡ true) → (a || b) ≡ b
absorbed true b h = sym (h refl)
absorbed false b h = refl

not_both : (a b : Bool) → (a ≡ true → b ≡ true) → b ≡ false → a ≡ false
not_both true b h e = sym (h refl) ∙ e
not_both false b h e = refl

-- the variable occurs in the term, of which a walk visits fewer nodes than these
abbrev pub HasFewer : Store → Var → ℕ → NominalTerm → Type 0
HasFewer s x n t = (visits_in s t < n) × (occurs x (under (bindings_of s) t) ≡ true)

-- the same of one of the parts that wait
abbrev pub HasFewerAny : Store → Var → ℕ → List Bare → Type 0
HasFewerAny s x n [] = ⊥
HasFewerAny s x n (b ∷ bs) = HasFewer s x n (bare_term b) ⊎ HasFewerAny s x n bs

-- the same of the part in hand or of one that waits
abbrev pub HasFewerLeft : Store → Var → ℕ → NominalTerm → List Bare → Type 0
HasFewerLeft s x n t bs = HasFewer s x n t ⊎ HasFewerAny s x n bs

-- where the variable occurs in what a variable stands for that was gone through, it occurs in a part that is left and has fewer nodes
abbrev pub IsLeftOf : Store → List Bool → Var → NominalTerm → List Bare → Type 0
IsLeftOf s ms x t bs =
    (y : Var) → is_mark_at ms y.num ≡ true → occurs x (under (bindings_of s) (susp [] y)) ≡ true → HasFewerLeft s x (visits_in s (susp [] y)) t bs

-- where the variable occurs in the part in hand, it occurs in one that waits and has fewer nodes
abbrev pub IsSpent : Store → Var → NominalTerm → List Bare → Type 0
IsSpent s x t bs = occurs x (under (bindings_of s) t) ≡ true → HasFewerAny s x (visits_in s t) bs

-- what is under a constructor or a binder
pub inner_less : (s : Store) (t u : NominalTerm) → IsInner t u → visits_in s u < visits_in s t
inner_less s t u (inl k) =
    let nodes : visits_in s t ≡ 1 + visits_in s u = ap (visits_in s) k.1 ∙ visits_app (raw_bound s) (rank s) (store_ranked s) k.0 u in
    omega (arith, nodes)
inner_less s t u (inr k) =
    let nodes : visits_in s t ≡ 1 + visits_in s u = ap (visits_in s) k.1 ∙ visits_abs (raw_bound s) (rank s) (store_ranked s) k.0 u in
    omega (arith, nodes)

pub inner_occurs : (bs : List Binding) (y : Var) (t u : NominalTerm) → IsInner t u → occurs y (under bs t) ≡ occurs y (under bs u)
inner_occurs bs y t u (inl k) = ap (λ w. occurs y (under bs w)) k.1
inner_occurs bs y t u (inr k) = ap (λ w. occurs y (under bs w)) k.1

module _ (s : Store) (x : Var) where
  any_more : (n m : ℕ) (bs : List Bare) → n ≤ m → HasFewerAny s x n bs → HasFewerAny s x m bs
  any_more n m [] l h = h
  any_more n m (b ∷ bs) l (inl h) = inl (let k = h.0 in omega (arith, k, l), h.1)
  any_more n m (b ∷ bs) l (inr h) = inr (any_more n m bs l h)

  any_push : (n : ℕ) (bs : List Bare) (b : Bare) → HasFewerAny s x n bs → HasFewerAny s x n (bs ++ b ∷ [])
  any_push n [] b h = absurd h
  any_push n (d ∷ bs) b (inl h) = inl h
  any_push n (d ∷ bs) b (inr h) = inr (any_push n bs b h)

  any_last : (n : ℕ) (bs : List Bare) (b : Bare) → HasFewer s x n (bare_term b) → HasFewerAny s x n (bs ++ b ∷ [])
  any_last n [] b h = inl h
  any_last n (d ∷ bs) b h = inr (any_last n bs b h)

  any_pop : (n : ℕ) (bs : List Bare) (b : Bare) → HasFewerAny s x n (bs ++ b ∷ []) → HasFewerLeft s x n (bare_term b) bs
  any_pop n [] b (inl h) = inl h
  any_pop n [] b (inr h) = absurd h
  any_pop n (d ∷ bs) b (inl h) = inr (inl h)
  any_pop n (d ∷ bs) b (inr h) = elim (any_pop n bs b h) [ inl k ↦ inl k | inr k ↦ inr (inr k) ]

  any_true : (n : ℕ) (bs : List Bare) → HasFewerAny s x n bs → occurs_in_any s x bs ≡ true
  any_true n [] h = absurd h
  any_true n (b ∷ bs) (inl h) = ap (λ o. o || occurs_in_any s x bs) h.1
  any_true n (b ∷ bs) (inr h) = or_if_right (occurs_in s x b) (occurs_in_any s x bs) (any_true n bs h)

  -- nothing was gone through
  pub left_first : (ms : List Bool) (t : NominalTerm) (bs : List Bare) → ms ≡ [] → IsLeftOf s ms x t bs
  left_first ms t bs e = λ y m o. absurd (true≢false (sym m ∙ ap (λ (ns : List Bool). is_mark_at ns y.num) e))

  -- another part is in hand, with fewer nodes and the same variables
  pub left_smaller : (ms : List Bool) (t u : NominalTerm) (bs : List Bare) → visits_in s u ≤ visits_in s t → occurs x (under (bindings_of s) t) ≡ occurs x (under (bindings_of s) u)
      → IsLeftOf s ms x t bs → IsLeftOf s ms x u bs
  left_smaller ms t u bs l e h = λ y m o. elim (h y m o) [ inl k ↦ let a = k.0 in inl (omega (arith, a, l), sym e ∙ k.1) | inr k ↦ inr k ]

  -- what is under a constructor or a binder is in hand
  pub left_inner : (ms : List Bool) (t u : NominalTerm) (bs : List Bare) → IsInner t u → IsLeftOf s ms x t bs → IsLeftOf s ms x u bs
  left_inner ms t u bs k h =
      let l = inner_less s t u k in left_smaller ms t u bs (omega (arith, l)) (inner_occurs (bindings_of s) x t u k) h

  -- the left part of a pair is in hand, and the right one waits
  pub left_pair : (ms : List Bool) (t u v : NominalTerm) (bs more : List Bare) (b : Bare) → v ≡ pair t u → bare_term b ≡ u → more ≡ bs ++ b ∷ [] → IsLeftOf s ms x v bs → IsLeftOf s ms x t more
  left_pair ms t u v bs more b e f g h = λ y m o.
      let n = visits_in s (susp [] y) in
      let k : HasFewerLeft s x n (pair t u) bs = subst (λ w. HasFewerLeft s x n w bs) e (h y m o) in
      subst (λ ds. HasFewerLeft s x n t ds) (sym g)
      (elim k [
        | inl c ↦ let a = c.0 in
            elim (or_cases (occurs x (under (bindings_of s) t)) (occurs x (under (bindings_of s) u)) c.1) [
              | inl i ↦ let l = left_less s t u in inl (omega (arith, a, l), i)
              | inr i ↦ let l = right_less s t u in inr (any_last n bs b (subst (HasFewer s x n) (sym f) (omega (arith, a, l), i)))
            ]
        | inr c ↦ inr (any_push n bs b c)
      ])

  -- a bound variable is gone through
  pub left_below : (ms ns : List Bool) (q p : List Swap) (z : Var) (t u : NominalTerm) (bs : List Bare) → t ≡ susp q z → raw_bound s z ≡ Some (act_term p u)
      → ((i : ℕ) → is_mark_at ns i ≡ true → (is_mark_at ms i ≡ true) ⊎ (i ≡ z.num)) → IsLeftOf s ms x t bs → IsLeftOf s ns x u bs
  left_below ms ns q p z t u bs e k new h = λ y m o.
      elim (new y.num m) [
        | inl i ↦
            let less : visits_in s u < visits_in s t = subst (λ w. visits_in s u < visits_in s w) (sym e) (bound_less s q z p u k) in
            let same : occurs x (under (bindings_of s) t) ≡ occurs x (under (bindings_of s) u) = ap (λ w. occurs x (under (bindings_of s) w)) e ∙ bound_occurs s x z q p u k in
            left_smaller ms t u bs (omega (arith, less)) same h y i o
        | inr i ↦
            let is : y ≡ z = ap (λ (n : ℕ). record { num = n }) i in
            let less : visits_in s u < visits_in s (susp [] y) = subst (λ (w : Var). visits_in s u < visits_in s (susp [] w)) (sym is) (bound_less s [] z p u k) in
            let here : occurs x (under (bindings_of s) u) ≡ true = sym (bound_occurs s x z [] p u k) ∙ subst (λ (w : Var). occurs x (under (bindings_of s) (susp [] w)) ≡ true) is o in
            inl (less, here)
      ]

  -- a variable that was gone through
  pub spent_passed : (ms : List Bool) (q : List Swap) (z : Var) (t : NominalTerm) (bs : List Bare) → t ≡ susp q z → is_mark_at ms z.num ≡ true → IsLeftOf s ms x t bs → IsSpent s x t bs
  spent_passed ms q z t bs e m h = λ o.
      let moved : visits_in s (susp q z) ≡ visits_in s (susp [] z) =
      ap (λ r. visits_in s (susp r z)) (sym (append-nil q)) ∙ visits_act (raw_bound s) (rank s) (store_ranked s) q (susp [] z) in
      let nodes : visits_in s t ≡ visits_in s (susp [] z) = ap (visits_in s) e ∙ moved in
      let here : occurs x (under (bindings_of s) (susp [] z)) ≡ true =
      occurs_moved x z [] q (bound_term (bindings_of s) z) ∙ sym (ap (λ w. occurs x (under (bindings_of s) w)) e) ∙ o in
      elim (h z m here) [
        | inl k ↦ let a = k.0 in absurd (omega (arith, a, nodes))
        | inr k ↦ subst (λ n. HasFewerAny s x n bs) (sym nodes) k
      ]

  -- a part in which the variable does not occur
  pub spent_apart : (t : NominalTerm) (bs : List Bare) → occurs x (under (bindings_of s) t) ≡ false → IsSpent s x t bs
  spent_apart t bs e = λ o. absurd (true≢false (sym o ∙ e))

  -- the last part that waits comes next
  pub next_all : (t : NominalTerm) (bs more : List Bare) (b : Bare) → more ≡ bs ++ b ∷ [] → IsSpent s x t more
      → (occurs_in s x b || occurs_in_any s x bs) ≡ (occurs x (under (bindings_of s) t) || occurs_in_any s x more)
  next_all t bs more b e h =
      sym (one_waits s x bs more b e) ∙ sym (absorbed (occurs x (under (bindings_of s) t)) (occurs_in_any s x more) (λ o. any_true (visits_in s t) more (h o)))

  pub next_left : (ms : List Bool) (t : NominalTerm) (bs more : List Bare) (b : Bare) → more ≡ bs ++ b ∷ [] → IsSpent s x t more → IsLeftOf s ms x t more → IsLeftOf s ms x (bare_term b) bs
  next_left ms t bs more b e spent h = λ y m o.
      let n = visits_in s (susp [] y) in
      let k : HasFewerAny s x n more = elim (h y m o) [ inl c ↦ let a = c.0 in any_more (visits_in s t) n more (omega (arith, a)) (spent c.1) | inr c ↦ c ] in
      any_pop n bs b (subst (HasFewerAny s x n) e k)

  -- no part waits
  pub none_spent : (t : NominalTerm) (bs : List Bare) → bs ≡ [] → IsSpent s x t bs → false ≡ (occurs x (under (bindings_of s) t) || occurs_in_any s x bs)
  none_spent t bs e h =
      let none : occurs_in_any s x bs ≡ false = ap (occurs_in_any s x) e in
      let here : occurs x (under (bindings_of s) t) ≡ false =
      not_both (occurs x (under (bindings_of s) t)) (occurs_in_any s x bs) (λ o. any_true (visits_in s t) bs (h o)) none in
      sym (ap (λ o. o || occurs_in_any s x bs) here ∙ none)

-- A variable at the end of a part: of which there is nothing new, or another one that is unbound.
pub nothing_here : (s : Store) (p : Passed) (t : NominalTerm) (q : List Swap) (z : Var) (x : Var) (bs : List Bare) → t ≡ susp q z → IsOnce s z p onces.Nothing → IsLeftOf s p.marks.items x t bs → IsSpent s x t bs
nothing_here s p t q z x bs e (inl h) k =
    spent_apart s x t bs (ap (λ w. occurs x (under (bindings_of s) w)) e ∙ occurs_moved x z q [] (bound_term (bindings_of s) z) ∙ h x)
nothing_here s p t q z x bs e (inr h) k = spent_passed s x p.marks.items q z t bs e h k

pub other_apart : (s : Store) (t : NominalTerm) (q : List Swap) (z : Var) (x : Var) → t ≡ susp q z → raw_bound s z ≡ None → (x.num ≡ z.num → ⊥) → occurs x (under (bindings_of s) t) ≡ false
other_apart s t q z x e h k =
    ap (λ w. occurs x (under (bindings_of s) w)) e ∙ unbound_occurs s x z q h ∙ false_if_not (var_eq x z) (λ i. k (number_same x.num z.num i))
