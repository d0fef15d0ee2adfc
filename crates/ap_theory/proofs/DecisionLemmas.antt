-- Where the conditions are decided, so are freshness and equality.
use Rattle.std.proofs.Common.{subst, ◌≡◌, ◌≢◌, ◌⊎◌, ℕ, true, List, [], ◌∷◌, sym, ap, inl, inr}
use Rattle.std.proofs.lemmas.Bool.Decides.{eqb_tells}
use Rattle.ap_defs.specs.Permutations.{act_name, disagreement, has_name, inverse, name_eq}
use Rattle.ap_defs.specs.Terms.{NominalTerm, abs, app, name, pair, susp, unit}
use Rattle.ap_defs.specs.declared.terms.Name.{Name}
use Rattle.ap_defs.specs.declared.terms.Swap.{Swap}
use Rattle.ap_defs.specs.declared.terms.Var.{Var}
use Rattle.ap_theory.specs.Contexts.{Context, Equal, Fresh}
use Rattle.ap_theory.proofs.BooleanLemmas.{or_cases, or_if_right}
use Rattle.ap_theory.proofs.DisagreementLemmas.{differing_disagree, disagree_differing, has_front}
use Rattle.ap_theory.proofs.PermutationLemmas.{name_decided, name_eq_same}
use Rattle.ap_theory.proofs.TermLemmas.{same_number, swapped, var_same}

both_decided : {A B : Type 0} → A ⊎ (A → ⊥) → B ⊎ (B → ⊥) → (A × B) ⊎ (A × B → ⊥)
both_decided (inl a) (inl b) = inl (a, b)
both_decided (inl a) (inr n) = inr (λ h. n h.1)
both_decided (inr n) e = inr (λ h. n h.0)

either_decided : {A B : Type 0} → A ⊎ (A → ⊥) → B ⊎ (B → ⊥) → (A ⊎ B) ⊎ (A ⊎ B → ⊥)
either_decided (inl a) e = inl (inl a)
either_decided (inr n) (inl b) = inl (inr b)
either_decided (inr n) (inr m) = inr (λ h. elim h [ inl a ↦ n a | inr b ↦ m b ])

number_decided : (m n : ℕ) → (m ≡ n) ⊎ (m ≢ n)
number_decided m n = elim (eqb_tells m n) [ inl w ↦ inl w.1 | inr w ↦ inr w.1 ]

var_decided : (x y : Var) → (x ≡ y) ⊎ (x ≢ y)
var_decided x y = elim (number_decided x.num y.num) [ inl e ↦ inl (var_same x y (same_number x.num y.num e)) | inr n ↦ inr (λ h. n (ap (λ z. z.num) h)) ]

module _ (d : Context) (decide : (a : Name) (x : Var) → d a x ⊎ (d a x → ⊥)) where
  pub Fresh_decided : (a : Name) (t : NominalTerm) → Fresh d a t ⊎ (Fresh d a t → ⊥)
  Fresh_decided a unit = inl tt
  Fresh_decided a (name b) = elim (name_decided a b) [ inl e ↦ inr (λ n. n e) | inr n ↦ inl n ]
  Fresh_decided a (pair t u) = both_decided (Fresh_decided a t) (Fresh_decided a u)
  Fresh_decided a (app f t) = Fresh_decided a t
  Fresh_decided a (abs b t) = either_decided (name_decided a b) (Fresh_decided a t)
  Fresh_decided a (susp p x) = decide (act_name (inverse p) a) x

  each_decided : (x : Var) (cs : List Name) → ((c : Name) → has_name c cs ≡ true → d c x) ⊎ (((c : Name) → has_name c cs ≡ true → d c x) → ⊥)
  each_decided x [] = inl (λ c m. cc)
  each_decided x (b ∷ bs) =
      elim (decide b x) [
        | inr n ↦ inr (λ h. n (h b (has_front b bs)))
        | inl k ↦ elim (each_decided x bs) [
          | inr n ↦ inr (λ h. n (λ c m. h c (or_if_right (name_eq c b) (has_name c bs) m)))
          | inl l ↦ inl (λ c m. elim (or_cases (name_eq c b) (has_name c bs) m) [ inl e ↦ subst (λ z. d z x) (sym (name_eq_same c b e)) k | inr e ↦ l c e ])
        ]
      ]

  differing_decided : (p q : List Swap) (x : Var)
      → ((c : Name) → act_name p c ≢ act_name q c → d c x) ⊎ (((c : Name) → act_name p c ≢ act_name q c → d c x) → ⊥)
  differing_decided p q x =
      elim (each_decided x (disagreement p q)) [
        | inl h ↦ inl (λ c n. h c (differing_disagree p q c n))
        | inr n ↦ inr (λ h. n (λ c m. h c (disagree_differing p q c m)))
      ]

  -- two abstractions whose binders differ
  other_decided : (a : Name) (t : NominalTerm) (b : Name) (u : NominalTerm) → a ≢ b → Equal d t (swapped a b u) ⊎ (Equal d t (swapped a b u) → ⊥)
      → Equal d (abs a t) (abs b u) ⊎ (Equal d (abs a t) (abs b u) → ⊥)
  other_decided a t b u m e =
      elim (both_decided (number_decided a.sort b.sort) (both_decided e (Fresh_decided a u))) [
        | inl h ↦ inl (inr (m, h.0, h.1.0, h.1.1))
        | inr n ↦ inr (λ h. elim h [ inl k ↦ m k.0 | inr k ↦ n (k.1, (k.2, k.3)) ])
      ]

  pub Equal_decided : (t u : NominalTerm) → Equal d t u ⊎ (Equal d t u → ⊥)
  Equal_decided unit unit = inl tt
  Equal_decided (name a) (name b) = name_decided a b
  Equal_decided (pair t u) (pair v w) = both_decided (Equal_decided t v) (Equal_decided u w)
  Equal_decided (app f t) (app g u) = both_decided (number_decided f g) (Equal_decided t u)
  Equal_decided (abs a t) (abs b u) =
      elim (name_decided a b) [
        | inl e ↦ elim (Equal_decided t u) [
          | inl h ↦ inl (inl (e, h))
          | inr n ↦ inr (λ h. elim h [ inl k ↦ n k.1 | inr k ↦ k.0 e ])
        ]
        | inr m ↦ other_decided a t b u m (Equal_decided t (swapped a b u))
      ]
  Equal_decided (susp p x) (susp q y) = both_decided (var_decided x y) (differing_decided p q x)
  Equal_decided _ _ = inr (λ h. h)
