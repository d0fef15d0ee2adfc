-- What is left on a stack of problems, of which the last is taken first.
use Rattle.std.proofs.Common.{◌≡◌, ◌⊎◌, ◌<◌, ◌≤◌, ℕ, ◌+◌, Bool, true, List, [], ◌∷◌, ◌++◌, inl, inr, refl, sym, ap, ap₂, ◌∙◌, subst, arith}
use Rattle.std.proofs.lemmas.List.{append-nil}
use Rattle.std.specs.Prelude.{None, Option, Some}
use Rattle.ap_defs.specs.Freshness.{Conds, both}
use Rattle.ap_defs.specs.Permutations.{act_name, inverse}
use Rattle.ap_defs.specs.Terms.{NominalTerm, act_term, susp}
use Rattle.ap_defs.specs.declared.terms.Cond.{Cond}
use Rattle.ap_defs.specs.declared.terms.Name.{Name}
use Rattle.ap_defs.specs.declared.terms.Swap.{Swap}
use Rattle.ap_defs.specs.declared.terms.Var.{Var}
use Rattle.ap_perm.specs.Lookups.{Bound, IsRanked}
use Rattle.ap_perm.specs.Inner.{inner_part}
use Rattle.ap_theory.proofs.BooleanLemmas.{same_test}
use Rattle.ap_fresh.specs.Reduction.{pending_term}
use Rattle.ap_fresh.specs.declared.pending.Pending.{Pending}
use Rattle.ap_fresh.proofs.SetLemmas.{both_assoc, both_nothing, left_tells, nothing_told, one_tells, right_tells, tells}
use Rattle.ap_fresh.proofs.StepLemmas.{inner_problem, moved_problem, problem, var_problem}
use Rattle.ap_perm.proofs.VisitLemmas.{visits, visits_act, visits_bound, visits_inner}

module _ (bound : Bound) (rank : Var → ℕ) (ranked : IsRanked bound rank) where
  abbrev pub problem_of : Pending → Option (List Cond)
  problem_of p = problem bound rank ranked p.name (pending_term p)

  abbrev pub all_left : List Pending → Option (List Cond)
  all_left [] = Some []
  all_left (p ∷ ps) = both (problem_of p) (all_left ps)

  -- how many nodes are to be visited
  abbrev pub visits_of : Pending → ℕ
  visits_of p = visits bound rank (pending_term p)

  abbrev pub visits_left_in : List Pending → ℕ
  visits_left_in [] = 0
  visits_left_in (p ∷ ps) = visits_of p + visits_left_in ps

  -- a name in a variable, as a problem
  abbrev pub in_var : Cond → Option (List Cond)
  in_var c = problem bound rank ranked c.name (susp [] c.var)

  abbrev pub visits_below : Cond → ℕ
  visits_below c = visits bound rank (susp [] c.var)

  pub all_append : (ps qs : List Pending) → all_left (ps ++ qs) ≡ both (all_left ps) (all_left qs)
  all_append [] qs = some_both (all_left qs)
    where
      some_both : (x : Option (List Cond)) → x ≡ both (Some []) x
      some_both None = refl
      some_both (Some cs) = refl
  all_append (p ∷ ps) qs = ap (both (problem_of p)) (all_append ps qs) ∙ sym (both_assoc (problem_of p) (all_left ps) (all_left qs))

  pub visits_append : (ps qs : List Pending) → visits_left_in (ps ++ qs) ≡ visits_left_in ps + visits_left_in qs
  visits_append [] qs = omega arith
  visits_append (p ∷ ps) qs = let h = visits_append ps qs in omega arith

  pub all_one : (p : Pending) → all_left (p ∷ []) ≡ problem_of p
  all_one p = both_nothing (problem_of p)

  -- a problem of what stands in a part below symbols and other binders
  pub inner_of : (w : Pending) (a : Name) (t : NominalTerm) → w.name ≡ a → pending_term w ≡ inner_part a t → problem bound rank ranked a t ≡ problem_of w
  inner_of w a t e f = sym (ap₂ (problem bound rank ranked) e f ∙ inner_problem bound rank ranked a t)

  pub inner_visits : (w : Pending) (a : Name) (t : NominalTerm) → pending_term w ≡ inner_part a t → visits bound rank (pending_term w) ≤ visits bound rank t
  inner_visits w a t f =
      let h = visits_inner bound rank ranked a t in
      let k : visits bound rank (pending_term w) ≡ visits bound rank (inner_part a t) = ap (visits bound rank) f in
      omega (arith, h, k)

  -- what a problem asks of a variable on which swappings wait, and what it visits
  module _ (p : Pending) (q : List Swap) (x : Var) (c : Cond) (t : pending_term p ≡ susp q x) (n : c.name ≡ act_name (inverse q) p.name) (v : c.var ≡ x) where
    unswapped : pending_term p ≡ act_term q (susp [] c.var)
    unswapped = t ∙ ap₂ susp (sym (append-nil q)) (sym v)

    pub in_var_same : problem_of p ≡ in_var c
    in_var_same =
        ap (problem bound rank ranked p.name) unswapped ∙ moved_problem bound rank ranked p.name q (susp [] c.var) ∙ ap (λ a. problem bound rank ranked a (susp [] c.var)) (sym n)

    pub in_var_visits : visits_of p ≡ visits_below c
    in_var_visits = ap (visits bound rank) unswapped ∙ visits_act bound rank ranked q (susp [] c.var)

  -- what a variable that is bound asks, and what that visits
  module _ (c : Cond) (w : Pending) (q : List Swap) (u : NominalTerm) (h : bound c.var ≡ Some (act_term q u)) (t : pending_term w ≡ u) where
    pub bound_same : w.name ≡ act_name (inverse q) c.name → in_var c ≡ problem_of w
    bound_same n = var_problem bound rank ranked c.name c.var (act_term q u) h ∙ moved_problem bound rank ranked c.name q u ∙ sym (ap₂ (problem bound rank ranked) n t)

    pub bound_fewer : visits_of w < visits_below c
    bound_fewer =
        let k = visits_bound bound rank ranked [] c.var q u h in
        let l : visits_of w ≡ visits bound rank u = ap (visits bound rank) t in
        omega (arith, k, l)

  -- The last problem is taken, and others take its place.
  module _ (ps qs rest all : List Pending) (p : Pending) (e : all ≡ ps ++ p ∷ []) (f : rest ≡ ps ++ qs) where
    pub fewer : visits_left_in qs < visits bound rank (pending_term p) → visits_left_in rest < visits_left_in all
    fewer l =
        let a : visits_left_in all ≡ visits_left_in ps + (visits bound rank (pending_term p) + 0) = ap visits_left_in e ∙ visits_append ps (p ∷ []) in
        let b : visits_left_in rest ≡ visits_left_in ps + visits_left_in qs = ap visits_left_in f ∙ visits_append ps qs in
        omega (arith, a, b, l)

    -- a problem of a part
    pub fewer_part : (w : Pending) (t : NominalTerm) → qs ≡ w ∷ [] → pending_term w ≡ t → visits bound rank t < visits bound rank (pending_term p) → visits_left_in rest < visits_left_in all
    fewer_part w t g h l =
        let a : visits_left_in qs ≡ visits bound rank t + 0 = ap visits_left_in g ∙ ap (λ u. visits bound rank u + 0) h in
        fewer (omega (arith, a, l))

  -- one of the problems visits fewer nodes than these, and tells this
  abbrev pub IsToldBelow : Option Cond → ℕ → List Pending → Type 0
  IsToldBelow e n [] = ⊥
  IsToldBelow e n (p ∷ ps) = ((visits_of p < n) × (tells (problem_of p) e ≡ true)) ⊎ IsToldBelow e n ps

  -- each of them visits fewer nodes than these
  abbrev pub AreBelow : ℕ → List Pending → Type 0
  AreBelow n [] = Unit {0}
  AreBelow n (p ∷ ps) = (visits_of p < n) × AreBelow n ps

  -- what is told is told by the conditions so far, or by one of the problems that visits fewer nodes
  abbrev pub IsKnown : Option Cond → Option (List Cond) → ℕ → List Pending → Conds → Type 0
  IsKnown e o n ps ds = tells o e ≡ true → (tells (Some ds) e ≡ true) ⊎ IsToldBelow e n ps

  -- The conditions so far, and those of what is left, are all; what a name in a variable tells that was sought is known.
  abbrev pub IsCollecting : Option (List Cond) → (Cond → Bool) → List Pending → Conds → Type 0
  IsCollecting total sought ps ds =
      ((e : Option Cond) → tells (both (all_left ps) (Some ds)) e ≡ tells total e)
      × ((e : Option Cond) (c : Cond) → sought c ≡ true → IsKnown e (in_var c) (visits_below c) ps ds)

  module _ (e : Option Cond) where
    more : (n m : ℕ) (ps : List Pending) → n ≤ m → IsToldBelow e n ps → IsToldBelow e m ps
    more n m [] l h = h
    more n m (p ∷ ps) l (inl h) = inl (let k = h.0 in omega (arith, k, l), h.1)
    more n m (p ∷ ps) l (inr h) = inr (more n m ps l h)

    in_front : (n : ℕ) (ps qs : List Pending) → IsToldBelow e n ps → IsToldBelow e n (ps ++ qs)
    in_front n [] qs h = absurd h
    in_front n (p ∷ ps) qs (inl h) = inl h
    in_front n (p ∷ ps) qs (inr h) = inr (in_front n ps qs h)

    pub behind : (n : ℕ) (ps qs : List Pending) → IsToldBelow e n qs → IsToldBelow e n (ps ++ qs)
    behind n [] qs h = h
    behind n (p ∷ ps) qs h = inr (behind n ps qs h)

    last_or : (n : ℕ) (ps : List Pending) (p : Pending) → IsToldBelow e n (ps ++ p ∷ []) → ((visits_of p < n) × (tells (problem_of p) e ≡ true)) ⊎ IsToldBelow e n ps
    last_or n [] p (inl h) = inl h
    last_or n [] p (inr h) = absurd h
    last_or n (q ∷ ps) p (inl h) = inr (inl h)
    last_or n (q ∷ ps) p (inr h) = elim (last_or n ps p h) [ inl k ↦ inl k | inr k ↦ inr (inr k) ]

    told : (n : ℕ) (ps : List Pending) → IsToldBelow e n ps → tells (all_left ps) e ≡ true
    told n [] h = absurd h
    told n (p ∷ ps) (inl h) = left_tells e (problem_of p) (all_left ps) h.1
    told n (p ∷ ps) (inr h) = right_tells e (problem_of p) (all_left ps) (told n ps h)

    pub told_below : (n : ℕ) (ps : List Pending) → AreBelow n ps → tells (all_left ps) e ≡ true → IsToldBelow e n ps
    told_below n [] l h = nothing_told e h
    told_below n (p ∷ ps) l h = elim (one_tells e (problem_of p) (all_left ps) h) [ inl i ↦ inl (l.0, i) | inr i ↦ inr (told_below n ps l.1 i) ]

  -- where the last problem is refuted, all are
  pub last_refuted : (total : Option (List Cond)) (sought : Cond → Bool) (ps all : List Pending) (p : Pending) (ds : Conds) → all ≡ ps ++ p ∷ [] → problem_of p ≡ None
      → IsCollecting total sought all ds → tells total None ≡ true
  last_refuted total sought ps all p ds e h k =
      sym (k.0 None)
      ∙ left_tells None (all_left all) (Some ds)
      (ap (λ o. tells o None) (ap all_left e ∙ all_append ps (p ∷ []))
      ∙ right_tells None (all_left ps) (all_left (p ∷ [])) (ap (λ o. tells o None) (all_one p ∙ h)))

  module _ (total : Option (List Cond)) (sought : Cond → Bool) (ps qs rest all : List Pending) (p : Pending) (e : all ≡ ps ++ p ∷ []) (f : rest ≡ ps ++ qs) (ds : Conds)
      (now : IsCollecting total sought all ds) where
    -- The last problem is taken where what it tells is known, and nothing is told that it does not tell.
    module _ (fs : Conds) (known : (w : Option Cond) → IsKnown w (problem_of p) (visits_of p) rest fs)
        (sound : (w : Option Cond) → tells (both (all_left qs) (Some fs)) w ≡ true → tells (both (problem_of p) (Some ds)) w ≡ true)
        (kept : (w : Option Cond) → tells (Some ds) w ≡ true → tells (Some fs) w ≡ true) where
      all_parts : all_left all ≡ both (all_left ps) (problem_of p)
      all_parts = ap all_left e ∙ all_append ps (p ∷ []) ∙ ap (both (all_left ps)) (all_one p)

      rest_parts : all_left rest ≡ both (all_left ps) (all_left qs)
      rest_parts = ap all_left f ∙ all_append ps qs

      module _ (w : Option Cond) where
        in_all : tells (all_left ps) w ≡ true → tells (both (all_left all) (Some ds)) w ≡ true
        in_all h = left_tells w (all_left all) (Some ds) (ap (λ o. tells o w) all_parts ∙ left_tells w (all_left ps) (problem_of p) h)

        of_last : tells (both (problem_of p) (Some ds)) w ≡ true → tells (both (all_left all) (Some ds)) w ≡ true
        of_last h = elim (one_tells w (problem_of p) (Some ds) h) [
          | inl i ↦ left_tells w (all_left all) (Some ds) (ap (λ o. tells o w) all_parts ∙ right_tells w (all_left ps) (problem_of p) i)
          | inr i ↦ right_tells w (all_left all) (Some ds) i
        ]

        before : tells (both (all_left rest) (Some fs)) w ≡ true → tells (both (all_left all) (Some ds)) w ≡ true
        before h = elim (one_tells w (all_left rest) (Some fs) h) [
          | inl i ↦ elim (one_tells w (all_left ps) (all_left qs) (ap (λ o. tells o w) (sym rest_parts) ∙ i)) [
            | inl j ↦ in_all j
            | inr j ↦ of_last (sound w (left_tells w (all_left qs) (Some fs) j))
          ]
          | inr i ↦ of_last (sound w (right_tells w (all_left qs) (Some fs) i))
        ]

        of_known : (tells (Some fs) w ≡ true) ⊎ IsToldBelow w (visits_of p) rest → tells (both (all_left rest) (Some fs)) w ≡ true
        of_known (inl i) = right_tells w (all_left rest) (Some fs) i
        of_known (inr i) = left_tells w (all_left rest) (Some fs) (told w (visits_of p) rest i)

        later : tells (both (all_left all) (Some ds)) w ≡ true → tells (both (all_left rest) (Some fs)) w ≡ true
        later h = elim (one_tells w (all_left all) (Some ds) h) [
          | inl i ↦ elim (one_tells w (all_left ps) (problem_of p) (ap (λ o. tells o w) (sym all_parts) ∙ i)) [
            | inl j ↦ left_tells w (all_left rest) (Some fs) (ap (λ o. tells o w) rest_parts ∙ left_tells w (all_left ps) (all_left qs) j)
            | inr j ↦ of_known (known w j)
          ]
          | inr i ↦ right_tells w (all_left rest) (Some fs) (kept w i)
        ]

        known_below : (n : ℕ) → (tells (Some ds) w ≡ true) ⊎ IsToldBelow w n all → (tells (Some fs) w ≡ true) ⊎ IsToldBelow w n rest
        known_below n (inl i) = inl (kept w i)
        known_below n (inr i) = elim (last_or w n ps p (subst (IsToldBelow w n) e i)) [
          | inl j ↦ elim (known w j.1) [ inl k ↦ inl k | inr k ↦ inr (more w (visits_of p) n rest (let l = j.0 in omega (arith, l)) k) ]
          | inr j ↦ inr (subst (IsToldBelow w n) (sym f) (in_front w n ps qs j))
        ]

      pub taken : IsCollecting total sought rest fs
      taken = (
        (λ w. same_test (tells (both (all_left rest) (Some fs)) w) (tells (both (all_left all) (Some ds)) w) (before w) (later w) ∙ now.0 w),
        (λ w c k t. known_below w (visits_below c) (now.1 w c k t)),
      )

    -- others take its place that tell the same, and visit fewer nodes
    pub replaced : problem_of p ≡ all_left qs → AreBelow (visits_of p) qs → IsCollecting total sought rest ds
    replaced g l =
        taken ds
        (λ w t. inr (subst (IsToldBelow w (visits_of p)) (sym f) (behind w (visits_of p) ps qs (told_below w (visits_of p) qs l (ap (λ o. tells o w) (sym g) ∙ t)))))
        (λ w h. subst (λ o. tells (both o (Some ds)) w ≡ true) (sym g) h)
        (λ w h. h)

    -- it is one condition
    pub cond_taken : (c : Cond) (fs : Conds) → problem_of p ≡ Some (c ∷ []) → qs ≡ [] → fs ≡ ds ++ c ∷ [] → IsCollecting total sought rest fs
    cond_taken c fs g none k =
        let whole = λ (w : Option Cond). ap (λ (es : Conds). tells (Some es) w) k in
        taken fs
        (λ w t. inl (whole w ∙ right_tells w (Some ds) (Some (c ∷ [])) (ap (λ o. tells o w) (sym g) ∙ t)))
        (λ w h. of_new w (one_tells w (Some ds) (Some (c ∷ [])) (sym (whole w) ∙ ap (λ (rs : List Pending). tells (both (all_left rs) (Some fs)) w) (sym none) ∙ h)))
        (λ w h. whole w ∙ left_tells w (Some ds) (Some (c ∷ [])) h)
      where
        of_new : (w : Option Cond) → (tells (Some ds) w ≡ true) ⊎ (tells (Some (c ∷ [])) w ≡ true) → tells (both (problem_of p) (Some ds)) w ≡ true
        of_new w (inl i) = right_tells w (problem_of p) (Some ds) i
        of_new w (inr i) = left_tells w (problem_of p) (Some ds) (ap (λ o. tells o w) g ∙ i)

    -- it was sought in this variable
    pub left_out : (c : Cond) → sought c ≡ true → problem_of p ≡ in_var c → visits_of p ≡ visits_below c → qs ≡ [] → IsCollecting total sought rest ds
    left_out c s g l none =
        taken ds
        (λ w t. here w (now.1 w c s (ap (λ o. tells o w) (sym g) ∙ t)))
        (λ w h. right_tells w (problem_of p) (Some ds) (ap (λ (rs : List Pending). tells (both (all_left rs) (Some ds)) w) (sym none) ∙ h))
        (λ w h. h)
      where
        here : (w : Option Cond) → (tells (Some ds) w ≡ true) ⊎ IsToldBelow w (visits_below c) all → (tells (Some ds) w ≡ true) ⊎ IsToldBelow w (visits_of p) rest
        here w (inl i) = inl i
        here w (inr i) = elim (last_or w (visits_below c) ps p (subst (IsToldBelow w (visits_below c)) e i)) [
          | inl j ↦ absurd (let k = j.0 in omega (arith, k, l))
          | inr j ↦ inr (subst (IsToldBelow w (visits_of p)) (sym f) (in_front w (visits_of p) ps qs (more w (visits_below c) (visits_of p) ps (omega (arith, l)) j)))
        ]

  -- one more is sought, of which all that it tells is known
  pub one_sought : (total : Option (List Cond)) (old new : Cond → Bool) (ps : List Pending) (ds : Conds) (c : Cond) → ((d : Cond) → new d ≡ true → (old d ≡ true) ⊎ (d ≡ c))
      → ((w : Option Cond) → IsKnown w (in_var c) (visits_below c) ps ds) → IsCollecting total old ps ds → IsCollecting total new ps ds
  one_sought total old new ps ds c come known now = (
    now.0,
    (λ w d k t. elim (come d k) [
      | inl i ↦ now.1 w d i t
      | inr q ↦ subst (λ (x : Cond). IsKnown w (in_var x) (visits_below x) ps ds) (sym q) (known w) t
    ]),
  )
