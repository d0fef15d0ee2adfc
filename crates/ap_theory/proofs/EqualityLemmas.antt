-- Freshness and equality under any set of conditions.
use Rattle.std.proofs.Common.{subst, ◌≡◌, ◌≢◌, ◌⊎◌, ◌+◌, List, [], ◌∷◌, refl, sym, ap, ap₂, ◌∙◌, inl, inr, ◌↔◌}
use Rattle.ap_defs.specs.Permutations.{act_name, inverse, swap_name, swap_of}
use Rattle.ap_defs.specs.SameTerm.{SameTerm, same_abs, same_app, same_name, same_pair, same_susp, same_unit}
use Rattle.ap_defs.specs.Terms.{NominalTerm, abs, act_term, app, name, pair, susp, unit}
use Rattle.ap_defs.specs.Unification.{size}
use Rattle.ap_defs.specs.declared.terms.Name.{Name}
use Rattle.ap_defs.specs.declared.terms.Swap.{Swap}
use Rattle.ap_defs.specs.declared.terms.Var.{Var}
use Rattle.ap_theory.specs.Contexts.{Context, Equal, Fresh, FreshWhereTheyDiffer}
use Rattle.ap_theory.proofs.PermutationLemmas.{act-append, act_injective, act_inverse, act_sorts, inverse-append, inverse_act, inverse_same, name_decided, swap_flip, swap_name_right, swap_other, swap_swap, swaps_other}
use Rattle.ap_theory.proofs.SameTermLemmas.{act_act_none, act_inverse_same, act_same, act_swap_same, inverse_act_same, same_itself, same_sym}
use Rattle.ap_theory.proofs.TermLemmas.{act_term-append, act_term_none, size_act_term, swapped}

not_left : {A B : Type 0} → (A → ⊥) → A ⊎ B → B
not_left n (inl a) = absurd (n a)
not_left n (inr b) = b

equal_unless : (a b : Name) → (a ≡ b) ⊎ (a ≡ b → ⊥) → ((a ≡ b → ⊥) → ⊥) → a ≡ b
equal_unless a b (inl p) h = p
equal_unless a b (inr n) h = absurd (h n)

module _ (d : Context) where
  -- freshness is equivariant
  pub Fresh_act : (π : List Swap) (a : Name) (t : NominalTerm) → Fresh d a (act_term π t) → Fresh d (act_name (inverse π) a) t
  Fresh_act π a unit h = tt
  Fresh_act π a (name b) h = λ p. h (sym (act_inverse π a) ∙ ap (act_name π) p)
  Fresh_act π a (pair t u) h = (Fresh_act π a t h.0, Fresh_act π a u h.1)
  Fresh_act π a (app f t) h = Fresh_act π a t h
  Fresh_act π a (abs b t) (inl p) = inl (ap (act_name (inverse π)) p ∙ inverse_act π b)
  Fresh_act π a (abs b t) (inr h) = inr (Fresh_act π a t h)
  Fresh_act π a (susp ρ x) h = subst (λ c. d c x) (ap (λ l. act_name l a) (inverse-append π ρ) ∙ act-append (inverse ρ) (inverse π) a) h

  pub act_Fresh : (π : List Swap) (a : Name) (t : NominalTerm) → Fresh d (act_name (inverse π) a) t → Fresh d a (act_term π t)
  act_Fresh π a unit h = tt
  act_Fresh π a (name b) h = λ p. h (ap (act_name (inverse π)) p ∙ inverse_act π b)
  act_Fresh π a (pair t u) h = (act_Fresh π a t h.0, act_Fresh π a u h.1)
  act_Fresh π a (app f t) h = act_Fresh π a t h
  act_Fresh π a (abs b t) (inl p) = inl (sym (act_inverse π a) ∙ ap (act_name π) p)
  act_Fresh π a (abs b t) (inr h) = inr (act_Fresh π a t h)
  act_Fresh π a (susp ρ x) h = subst (λ c. d c x) (sym (ap (λ l. act_name l a) (inverse-append π ρ) ∙ act-append (inverse ρ) (inverse π) a)) h

  -- the same, with the name moved
  pub Fresh_act_at : (π : List Swap) (a b : Name) (t : NominalTerm) → act_name (inverse π) a ≡ b → Fresh d a (act_term π t) → Fresh d b t
  Fresh_act_at π a b t p h = subst (λ c. Fresh d c t) p (Fresh_act π a t h)

  pub act_Fresh_at : (π : List Swap) (a b : Name) (t : NominalTerm) → act_name (inverse π) a ≡ b → Fresh d b t → Fresh d a (act_term π t)
  act_Fresh_at π a b t p h = act_Fresh π a t (subst (λ c. Fresh d c t) (sym p) h)

  -- freshness does not see how permutations are listed
  pub Fresh_same : (a : Name) {t u : NominalTerm} → SameTerm t u → Fresh d a t → Fresh d a u
  Fresh_same a same_unit h = tt
  Fresh_same a same_name h = h
  Fresh_same a (same_pair i j) h = (Fresh_same a i h.0, Fresh_same a j h.1)
  Fresh_same a (same_app i) h = Fresh_same a i h
  Fresh_same a (same_abs i) (inl e) = inl e
  Fresh_same a (same_abs i) (inr h) = inr (Fresh_same a i h)
  Fresh_same a (same_susp {p} {q} {x} i) h = subst (λ c. d c x) (inverse_same p q i a) h

  -- nor does equality
  pub Equal_same : (t : NominalTerm) {u v : NominalTerm} → SameTerm u v → Equal d t u → Equal d t v
  Equal_same unit same_unit h = tt
  Equal_same (name a) same_name h = h
  Equal_same (pair t w) (same_pair i j) h = (Equal_same t i h.0, Equal_same w j h.1)
  Equal_same (app f t) (same_app i) h = (h.0, Equal_same t i h.1)
  Equal_same (abs a t) (same_abs i) (inl h) = inl (h.0, Equal_same t i h.1)
  Equal_same (abs a t) (same_abs {a = b} i) (inr h) = inr (h.0, h.1, Equal_same t (act_same (swap_of a b ∷ []) (swap_of a b ∷ []) (λ c. refl) i) h.2, Fresh_same a i h.3)
  Equal_same (susp π x) (same_susp {p} {q} i) h = (h.0, λ c n. h.1 c (λ e. n (e ∙ i c)))
  Equal_same _ _ h = absurd h

  -- if πc = ρc and ρc is moved by (πa ρa), then c = a or ρc = πa
  differ_step : (π ρ : List Swap) (a c : Name) → (c ≢ a) → (act_name π a ≢ act_name ρ a)
      → (act_name π c ≡ swap_name (swap_of (act_name π a) (act_name ρ a)) (act_name ρ c) → ⊥)
      → (act_name π c ≡ act_name ρ c) ⊎ (act_name π c ≢ act_name ρ c) → act_name π c ≡ act_name ρ c → ⊥
  differ_step π ρ a c n ne h (inr m) e = m e
  differ_step π ρ a c n ne h (inl e) e' = h (e ∙ sym (swap_other (act_name π a) (act_name ρ a) (act_name ρ c) (act_sorts π ρ a a refl) (λ p. n (act_injective π c a (e ∙ p))) (λ p. n (act_injective ρ c a p))))

  differ_abs : (a : Name) (t : NominalTerm) (π ρ : List Swap) → FreshWhereTheyDiffer d π ρ (abs a t)
      → ((π ρ : List Swap) → FreshWhereTheyDiffer d π ρ t → Equal d (act_term π t) (act_term ρ t))
      → (act_name π a ≡ act_name ρ a) ⊎ (act_name π a ≢ act_name ρ a) → Equal d (act_term π (abs a t)) (act_term ρ (abs a t))
  differ_abs a t π ρ h ih (inl e) = inl (e, ih π ρ (λ c n. not_left (λ p. n (ap (act_name π) p ∙ e ∙ sym (ap (act_name ρ) p))) (h c n)))
  differ_abs a t π ρ h ih (inr ne) =
      let s = swap_of (act_name π a) (act_name ρ a) in
      let first : Equal d (act_term π t) (act_term (s ∷ ρ) t) =
      ih π (s ∷ ρ) (λ c n.
      let ca : c ≢ a = λ p. n (ap (act_name π) p ∙ sym (swap_name_right (act_name π a) (act_name ρ a) (act_name ρ c) (act_sorts π ρ a a refl) (ap (act_name ρ) p))) in
      not_left ca (h c (differ_step π ρ a c ca ne n (name_decided (act_name π c) (act_name ρ c))))) in
      let c0 = act_name (inverse ρ) (act_name π a) in
      let r0 : act_name ρ c0 ≡ act_name π a = act_inverse ρ (act_name π a) in
      let n0 : c0 ≢ a = λ p. ne (sym r0 ∙ ap (act_name ρ) p) in
      let second : Fresh d c0 t = not_left n0 (h c0 (λ p. n0 (act_injective π c0 a (p ∙ r0)))) in
      inr (ne, act_sorts π ρ a a refl, subst (λ u. Equal d (act_term π t) u) (act_term-append (s ∷ []) ρ t) first, act_Fresh ρ (act_name π a) t second)

  -- two permutations make equal terms of a term for which the names on which they differ are fresh
  pub differ_Equal : (t : NominalTerm) (π ρ : List Swap) → FreshWhereTheyDiffer d π ρ t → Equal d (act_term π t) (act_term ρ t)
  differ_Equal unit π ρ h = tt
  differ_Equal (name a) π ρ h = equal_unless (act_name π a) (act_name ρ a) (name_decided (act_name π a) (act_name ρ a)) (λ n. h a n refl)
  differ_Equal (pair t u) π ρ h = (differ_Equal t π ρ (λ c n. (h c n).0), differ_Equal u π ρ (λ c n. (h c n).1))
  differ_Equal (app f t) π ρ h = (refl, differ_Equal t π ρ h)
  differ_Equal (abs a t) π ρ h = differ_abs a t π ρ h (differ_Equal t) (name_decided (act_name π a) (act_name ρ a))
  differ_Equal (susp τ x) π ρ h = (refl, λ c n. subst (λ z. d z x) (inverse_act τ c) (h (act_name τ c) (λ p. n (act-append π τ c ∙ p ∙ sym (act-append ρ τ c)))))

  pub Equal_itself : (t : NominalTerm) → Equal d t t
  Equal_itself t = subst (λ u. Equal d u u) (act_term_none t) (differ_Equal t [] [] (λ c n. absurd (n refl)))

  -- equality is equivariant
  pub Equal_act : (t u : NominalTerm) (π : List Swap) → Equal d t u → Equal d (act_term π t) (act_term π u)
  Equal_act unit unit π h = tt
  Equal_act (name a) (name b) π h = ap (act_name π) h
  Equal_act (pair t u) (pair t' u') π h = (Equal_act t t' π h.0, Equal_act u u' π h.1)
  Equal_act (app f t) (app g u) π h = (h.0, Equal_act t u π h.1)
  Equal_act (abs a t) (abs b u) π (inl h) = inl (ap (act_name π) h.0, Equal_act t u π h.1)
  Equal_act (abs a t) (abs b u) π (inr h) =
      inr (
        (λ p. h.0 (act_injective π a b p)),
        act_sorts π π a b h.1,
        Equal_same (act_term π t) (act_swap_same π a b u h.1) (Equal_act t (swapped a b u) π h.2),
        act_Fresh_at π (act_name π a) a u (inverse_act π a) h.3,
      )
  Equal_act (susp τ x) (susp υ y) π h = (h.0, λ c n. h.1 c (λ p. n (act-append π τ c ∙ ap (act_name π) p ∙ sym (act-append π υ c))))
  Equal_act _ _ π h = absurd h

  -- freshness respects equality
  Fresh_abs : (a b c : Name) (u : NominalTerm) → a.sort ≡ b.sort → Fresh d a u → Fresh d c (swapped a b u) → (c ≡ b) ⊎ (c ≢ b)
      → (c ≡ a) ⊎ (c ≢ a) → (c ≡ b) ⊎ Fresh d c u
  Fresh_abs a b c u e f g (inl q) k = inl q
  Fresh_abs a b c u e f g (inr m) (inl p) = inr (subst (λ z. Fresh d z u) (sym p) f)
  Fresh_abs a b c u e f g (inr m) (inr n) = inr (Fresh_act_at (swap_of a b ∷ []) c c u (swap_other a b c e n m) g)

  pub Fresh_Equal : (c : Name) (t u : NominalTerm) → Equal d t u → Fresh d c t → Fresh d c u
  Fresh_Equal c unit unit e h = tt
  Fresh_Equal c (name a) (name b) e h = λ p. h (p ∙ sym e)
  Fresh_Equal c (pair t u) (pair t' u') e h = (Fresh_Equal c t t' e.0 h.0, Fresh_Equal c u u' e.1 h.1)
  Fresh_Equal c (app f t) (app g u) e h = Fresh_Equal c t u e.1 h
  Fresh_Equal c (abs a t) (abs b u) (inl e) (inl p) = inl (p ∙ e.0)
  Fresh_Equal c (abs a t) (abs b u) (inl e) (inr h) = inr (Fresh_Equal c t u e.1 h)
  Fresh_Equal c (abs a t) (abs b u) (inr e) (inl p) = inr (subst (λ z. Fresh d z u) (sym p) e.3)
  Fresh_Equal c (abs a t) (abs b u) (inr e) (inr h) = Fresh_abs a b c u e.1 e.3 (Fresh_Equal c t (swapped a b u) e.2 h) (name_decided c b) (name_decided c a)
  Fresh_Equal c (susp π x) (susp ρ y) e h = fresh_susp c π ρ x y e.0 e.1 h (name_decided (act_name (inverse π) c) (act_name (inverse ρ) c))
    where
      fresh_susp : (c : Name) (π ρ : List Swap) (x y : Var) → x ≡ y → ((a : Name) → (act_name π a ≢ act_name ρ a) → d a x)
          → d (act_name (inverse π) c) x → (act_name (inverse π) c ≡ act_name (inverse ρ) c) ⊎ (act_name (inverse π) c ≡ act_name (inverse ρ) c → ⊥)
          → d (act_name (inverse ρ) c) y
      fresh_susp c π ρ x y e k h (inl p) = subst (λ z. d z y) p (subst (λ z. d (act_name (inverse π) c) z) e h)
      fresh_susp c π ρ x y e k h (inr n) = subst (λ z. d (act_name (inverse ρ) c) z) e (k (act_name (inverse ρ) c) (λ q. n (ap (act_name (inverse π)) (sym (q ∙ act_inverse ρ c)) ∙ inverse_act π (act_name (inverse ρ) c))))
  Fresh_Equal c _ _ e h = absurd e

  -- transitivity
  swaps_Fresh : (a b c : Name) (v : NominalTerm) → a.sort ≡ b.sort → b.sort ≡ c.sort → Fresh d a v → Fresh d b v
      → FreshWhereTheyDiffer d (swap_of a b ∷ swap_of b c ∷ []) (swap_of a c ∷ []) v
  swaps_Fresh a b c v e f fa fb n m =
      elim (name_decided n a) [
        | inl h ↦ subst (λ z. Fresh d z v) (sym h) fa
        | inr k ↦ elim (name_decided n b) [ inl h ↦ subst (λ z. Fresh d z v) (sym h) fb | inr l ↦ absurd (m (swaps_other a b c n e f k l)) ]
      ]

  Equal_trans_abs : (a b c : Name) (t u v : NominalTerm) → ((u v : NominalTerm) → Equal d t u → Equal d u v → Equal d t v)
      → Equal d (abs a t) (abs b u) → Equal d (abs b u) (abs c v) → (a ≡ c) ⊎ (a ≢ c) → Equal d (abs a t) (abs c v)
  Equal_trans_abs a b c t u v ih (inl p) (inl q) k = inl (p.0 ∙ q.0, ih u v p.1 q.1)
  Equal_trans_abs a b c t u v ih (inl p) (inr q) k =
      inr ((λ r. q.0 (sym p.0 ∙ r)), ap (λ n. n.sort) p.0 ∙ q.1, ih u (swapped a c v) p.1 (subst (λ z. Equal d u (swapped z c v)) (sym p.0) q.2), subst (λ z. Fresh d z v) (sym p.0) q.3)
  Equal_trans_abs a b c t u v ih (inr p) (inl q) k =
      inr ((λ r. p.0 (r ∙ sym q.0)), p.1 ∙ ap (λ n. n.sort) q.0, ih (swapped a b u) (swapped a c v) p.2 (subst (λ z. Equal d (swapped a b u) (swapped a z v)) q.0 (Equal_act u v (swap_of a b ∷ []) q.1)), Fresh_Equal a u v q.1 p.3)
  Equal_trans_abs a b c t u v ih (inr p) (inr q) (inl r) =
      inl (
        r,
        Equal_same t (act_act_none (swap_of a b ∷ []) (swap_of b c ∷ []) v (λ n. ap (λ z. swap_name (swap_of a b) (swap_name (swap_of b z) n)) (sym r) ∙ ap (swap_name (swap_of a b)) (sym (swap_flip a b n p.1)) ∙ swap_swap (swap_of a b) n))
            (ih (swapped a b u) (swapped a b (swapped b c v)) p.2 (Equal_act u (swapped b c v) (swap_of a b ∷ []) q.2)),
      )
  Equal_trans_abs a b c t u v ih (inr p) (inr q) (inr n) =
      let fa : Fresh d a v = Fresh_act_at (swap_of b c ∷ []) a a v (swap_other b c a q.1 p.0 n) (Fresh_Equal a u (swapped b c v) q.2 p.3) in
      let e2 : Equal d t (swapped a b (swapped b c v)) = ih (swapped a b u) (swapped a b (swapped b c v)) p.2 (Equal_act u (swapped b c v) (swap_of a b ∷ []) q.2) in
      let e3 : Equal d (act_term (swap_of a b ∷ swap_of b c ∷ []) v) (swapped a c v) = differ_Equal v (swap_of a b ∷ swap_of b c ∷ []) (swap_of a c ∷ []) (swaps_Fresh a b c v p.1 q.1 fa q.3) in
      inr (n, p.1 ∙ q.1, ih (swapped a b (swapped b c v)) (swapped a c v) e2 (subst (λ z. Equal d z (swapped a c v)) (act_term-append (swap_of a b ∷ []) (swap_of b c ∷ []) v) e3), fa)

  condition_trans : (π ρ τ : List Swap) (c : Name) (x : Var) → ((act_name π c ≢ act_name ρ c) → d c x) → ((act_name ρ c ≢ act_name τ c) → d c x)
      → (act_name π c ≢ act_name τ c) → (act_name π c ≡ act_name ρ c) ⊎ (act_name π c ≢ act_name ρ c) → d c x
  condition_trans π ρ τ c x h k n (inl p) = k (λ q. n (p ∙ q))
  condition_trans π ρ τ c x h k n (inr m) = h m

  pub Equal_trans : (t u v : NominalTerm) → Equal d t u → Equal d u v → Equal d t v
  Equal_trans unit unit unit h k = tt
  Equal_trans (name a) (name b) (name c) h k = h ∙ k
  Equal_trans (pair t1 t2) (pair u1 u2) (pair v1 v2) h k = (Equal_trans t1 u1 v1 h.0 k.0, Equal_trans t2 u2 v2 h.1 k.1)
  Equal_trans (app f t) (app g u) (app e v) h k = (h.0 ∙ k.0, Equal_trans t u v h.1 k.1)
  Equal_trans (abs a t) (abs b u) (abs c v) h k = Equal_trans_abs a b c t u v (Equal_trans t) h k (name_decided a c)
  Equal_trans (susp π x) (susp ρ y) (susp τ z) h k = (h.0 ∙ k.0, λ c n. condition_trans π ρ τ c x (h.1 c) (λ m. subst (λ w. d c w) (sym h.0) (k.1 c m)) n (name_decided (act_name π c) (act_name ρ c)))
  Equal_trans unit unit _ h k = absurd k
  Equal_trans (name a) (name b) _ h k = absurd k
  Equal_trans (pair t1 t2) (pair u1 u2) _ h k = absurd k
  Equal_trans (app f t) (app g u) _ h k = absurd k
  Equal_trans (abs a t) (abs b u) _ h k = absurd k
  Equal_trans (susp π x) (susp ρ y) _ h k = absurd k
  Equal_trans _ _ _ h k = absurd h

  -- symmetry
  pub same_are_Equal : (t u : NominalTerm) → SameTerm t u → Equal d t u
  same_are_Equal t u e = Equal_same t e (Equal_itself t)

  pub Equal_sym : (t u : NominalTerm) → Equal d t u → Equal d u t
  Equal_sym unit unit h = tt
  Equal_sym (name a) (name b) h = sym h
  Equal_sym (pair t u) (pair t' u') h = (Equal_sym t t' h.0, Equal_sym u u' h.1)
  Equal_sym (app f t) (app g u) h = (sym h.0, Equal_sym t u h.1)
  Equal_sym (abs a t) (abs b u) (inl h) = inl (sym h.0, Equal_sym t u h.1)
  Equal_sym (abs a t) (abs b u) (inr h) =
      let back : Equal d (swapped a b u) t = Equal_sym t (swapped a b u) h.2 in
      let far : Equal d (swapped a b (swapped a b u)) (swapped a b t) = Equal_act (swapped a b u) t (swap_of a b ∷ []) back in
      let near : Equal d u (swapped a b (swapped a b u)) = same_are_Equal u (swapped a b (swapped a b u)) (same_sym (inverse_act_same (swap_of a b ∷ []) u)) in
      inr (
        (λ p. h.0 (sym p)),
        sym h.1,
        Equal_same u (act_same (swap_of a b ∷ []) (swap_of b a ∷ []) (λ n. swap_flip a b n h.1) (same_itself t))
            (Equal_trans u (swapped a b (swapped a b u)) (swapped a b t) near far),
        Fresh_Equal b (swapped a b u) t back (act_Fresh_at (swap_of a b ∷ []) b a u (swap_name_right a b b h.1 refl) h.3),
      )
  Equal_sym (susp π x) (susp ρ y) h = (sym h.0, λ c n. subst (λ w. d c w) h.0 (h.1 c (λ p. n (sym p))))
  Equal_sym _ _ h = absurd h

  -- equal permutations on the left
  pub same_Equal : (t t' u : NominalTerm) → SameTerm t t' → Equal d t u → Equal d t' u
  same_Equal t t' u e h = Equal_trans t' t u (same_are_Equal t' t (same_sym e)) h

  -- swapping two fresh names changes nothing up to equality
  pub Equal_swap_fresh : (a b : Name) (t : NominalTerm) → a.sort ≡ b.sort → Fresh d a t → Fresh d b t → Equal d (swapped a b t) t
  Equal_swap_fresh a b t e fa fb = subst (λ z. Equal d (swapped a b t) z) (act_term_none t) (differ_Equal t (swap_of a b ∷ []) [] (λ c n. go c n (name_decided c a) (name_decided c b)))
    where
      go : (c : Name) → (swap_name (swap_of a b) c ≡ c → ⊥) → (c ≡ a) ⊎ (c ≢ a) → (c ≡ b) ⊎ (c ≢ b) → Fresh d c t
      go c n (inl p) k = subst (λ z. Fresh d z t) (sym p) fa
      go c n (inr m) (inl q) = subst (λ z. Fresh d z t) (sym q) fb
      go c n (inr m) (inr k) = absurd (n (swap_other a b c e m k))

  -- what two permutations make equal is fresh for each name on which they differ
  Equal_differ_step : (π ρ : List Swap) (a c : Name) (t : NominalTerm) → (c ≢ a) → (act_name π c ≢ act_name ρ c)
      → Fresh d (act_name π a) (act_term ρ t) → act_name π c ≡ swap_name (swap_of (act_name π a) (act_name ρ a)) (act_name ρ c)
      → (act_name ρ c ≡ act_name π a) ⊎ (act_name ρ c ≢ act_name π a) → Fresh d c t
  Equal_differ_step π ρ a c t na n f e (inl p) = Fresh_act_at ρ (act_name π a) c t (ap (act_name (inverse ρ)) (sym p) ∙ inverse_act ρ c) f
  Equal_differ_step π ρ a c t na n f e (inr m) = absurd (n (e ∙ swap_other (act_name π a) (act_name ρ a) (act_name ρ c) (act_sorts π ρ a a refl) m (λ q. na (act_injective ρ c a q))))

  Equal_differ_abs : (a : Name) (t : NominalTerm) (π ρ : List Swap)
      → ((π ρ : List Swap) → Equal d (act_term π t) (act_term ρ t) → FreshWhereTheyDiffer d π ρ t)
      → Equal d (act_term π (abs a t)) (act_term ρ (abs a t)) → (c : Name) → (act_name π c ≢ act_name ρ c) → (c ≡ a) ⊎ (c ≢ a)
      → (act_name π c ≡ swap_name (swap_of (act_name π a) (act_name ρ a)) (act_name ρ c)) ⊎ (act_name π c ≡ swap_name (swap_of (act_name π a) (act_name ρ a)) (act_name ρ c) → ⊥)
      → (c ≡ a) ⊎ Fresh d c t
  Equal_differ_abs a t π ρ ih h c n (inl p) k = inl p
  Equal_differ_abs a t π ρ ih (inl h) c n (inr na) k = inr (ih π ρ h.1 c n)
  Equal_differ_abs a t π ρ ih (inr h) c n (inr na) (inl e) = inr (Equal_differ_step π ρ a c t na n h.3 e (name_decided (act_name ρ c) (act_name π a)))
  Equal_differ_abs a t π ρ ih (inr h) c n (inr na) (inr m) = inr (ih π (swap_of (act_name π a) (act_name ρ a) ∷ ρ) (subst (λ u. Equal d (act_term π t) u) (sym (act_term-append (swap_of (act_name π a) (act_name ρ a) ∷ []) ρ t)) h.2) c m)

  pub Equal_differ : (t : NominalTerm) (π ρ : List Swap) → Equal d (act_term π t) (act_term ρ t) → FreshWhereTheyDiffer d π ρ t
  Equal_differ unit π ρ h = λ c n. tt
  Equal_differ (name a) π ρ h = λ c n p. n (ap (act_name π) p ∙ h ∙ sym (ap (act_name ρ) p))
  Equal_differ (pair t u) π ρ h = λ c n. (Equal_differ t π ρ h.0 c n, Equal_differ u π ρ h.1 c n)
  Equal_differ (app f t) π ρ h = Equal_differ t π ρ h.1
  Equal_differ (abs a t) π ρ h = λ c n. Equal_differ_abs a t π ρ (Equal_differ t) h c n (name_decided c a) (name_decided (act_name π c) (swap_name (swap_of (act_name π a) (act_name ρ a)) (act_name ρ c)))
  Equal_differ (susp τ x) π ρ h = λ c n. h.1 (act_name (inverse τ) c) (λ p. n (ap (act_name π) (sym (act_inverse τ c)) ∙ sym (act-append π τ (act_name (inverse τ) c)) ∙ p ∙ act-append ρ τ (act_name (inverse τ) c) ∙ ap (act_name ρ) (act_inverse τ c)))

  -- a permutation goes to the other side
  pub Equal_move_right : (π : List Swap) (t u : NominalTerm) → Equal d (act_term π t) u → Equal d t (act_term (inverse π) u)
  Equal_move_right π t u h = same_Equal (act_term (inverse π) (act_term π t)) t (act_term (inverse π) u) (inverse_act_same π t) (Equal_act (act_term π t) u (inverse π) h)

  pub Equal_move_left : (π : List Swap) (t u : NominalTerm) → Equal d t (act_term (inverse π) u) → Equal d (act_term π t) u
  Equal_move_left π t u h = Equal_same (act_term π t) (act_inverse_same π u) (Equal_act t (act_term (inverse π) u) π h)

  -- equal terms are of one size
  pub size_Equal : (t u : NominalTerm) → Equal d t u → size t ≡ size u
  size_Equal unit unit h = refl
  size_Equal (name a) (name b) h = refl
  size_Equal (pair t u) (pair v w) h = ap₂ (λ m n. 1 + m + n) (size_Equal t v h.0) (size_Equal u w h.1)
  size_Equal (app f t) (app g u) h = ap (λ m. 1 + m) (size_Equal t u h.1)
  size_Equal (abs a t) (abs b u) (inl h) = ap (λ m. 1 + m) (size_Equal t u h.1)
  size_Equal (abs a t) (abs b u) (inr h) = ap (λ m. 1 + m) (size_Equal t (swapped a b u) h.2 ∙ size_act_term (swap_of a b ∷ []) u)
  size_Equal (susp p x) (susp q y) h = refl
  size_Equal _ _ h = absurd h

  -- both directions at once
  pub Fresh_moved : (p : List Swap) (a : Name) (t : NominalTerm) → Fresh d a (act_term p t) ↔ Fresh d (act_name (inverse p) a) t
  Fresh_moved p a t = (Fresh_act p a t, act_Fresh p a t)

  pub Fresh_equivariant : (p : List Swap) (a : Name) (t : NominalTerm) → Fresh d (act_name p a) (act_term p t) ↔ Fresh d a t
  Fresh_equivariant p a t = (Fresh_act_at p (act_name p a) a t (inverse_act p a), act_Fresh_at p (act_name p a) a t (inverse_act p a))

  pub Fresh_same_both : (a : Name) (t u : NominalTerm) → SameTerm t u → Fresh d a t ↔ Fresh d a u
  Fresh_same_both a t u h = (Fresh_same a h, Fresh_same a (same_sym h))

  pub Equal_same_both : (t u v w : NominalTerm) → SameTerm t v → SameTerm u w → Equal d t u → Equal d v w
  Equal_same_both t u v w h k e = same_Equal t v w h (Equal_same t k e)

  pub Equal_equivariant : (p : List Swap) (t u : NominalTerm) → Equal d (act_term p t) (act_term p u) ↔ Equal d t u
  Equal_equivariant p t u = ((λ h. Equal_same t (inverse_act_same p u) (Equal_move_right p t (act_term p u) h)), Equal_act t u p)

  pub Equal_move : (p : List Swap) (t u : NominalTerm) → Equal d (act_term p t) u ↔ Equal d t (act_term (inverse p) u)
  Equal_move p t u = (Equal_move_right p t u, Equal_move_left p t u)

  pub Fresh_both : (a : Name) (t u : NominalTerm) → Equal d t u → Fresh d a t ↔ Fresh d a u
  Fresh_both a t u h = (Fresh_Equal a t u h, Fresh_Equal a u t (Equal_sym t u h))

  pub Equal_act_act : (p q : List Swap) (t : NominalTerm) → Equal d (act_term p t) (act_term q t) ↔ FreshWhereTheyDiffer d p q t
  Equal_act_act p q t = (Equal_differ t p q, differ_Equal t p q)

-- more conditions
module _ (d e : Context) (m : (a : Name) (x : Var) → d a x → e a x) where
  pub Fresh_weaken : (a : Name) (t : NominalTerm) → Fresh d a t → Fresh e a t
  Fresh_weaken a unit h = tt
  Fresh_weaken a (name b) h = h
  Fresh_weaken a (pair t u) h = (Fresh_weaken a t h.0, Fresh_weaken a u h.1)
  Fresh_weaken a (app f t) h = Fresh_weaken a t h
  Fresh_weaken a (abs b t) (inl k) = inl k
  Fresh_weaken a (abs b t) (inr h) = inr (Fresh_weaken a t h)
  Fresh_weaken a (susp p x) h = m (act_name (inverse p) a) x h

  pub Equal_weaken : (t u : NominalTerm) → Equal d t u → Equal e t u
  Equal_weaken unit unit h = tt
  Equal_weaken (name a) (name b) h = h
  Equal_weaken (pair t u) (pair v w) h = (Equal_weaken t v h.0, Equal_weaken u w h.1)
  Equal_weaken (app f t) (app g u) h = (h.0, Equal_weaken t u h.1)
  Equal_weaken (abs a t) (abs b u) (inl h) = inl (h.0, Equal_weaken t u h.1)
  Equal_weaken (abs a t) (abs b u) (inr h) = inr (h.0, h.1, Equal_weaken t (swapped a b u) h.2, Fresh_weaken a u h.3)
  Equal_weaken (susp p x) (susp q y) h = (h.0, λ c n. m c x (h.1 c n))
  Equal_weaken _ _ h = absurd h
