-- Sets as ascending lists without repeats, for any test of equality and any order: lists with the same members are equal.
use Rattle.std.proofs.Common.{subst, ◌≡◌, Bool, true, false, ◌||◌, List, [], ◌∷◌, refl, sym, ap, ap₂, ◌∙◌, inl, inr, true≢false}
use Rattle.std.specs.Prelude.{if◌then◌else◌}
use Rattle.ap_theory.proofs.BooleanLemmas.{or_cases, or_swap, or_twice, same_test}

module _ {A : Type 0} (same before : A → A → Bool) where
  abbrev pub has : A → List A → Bool
  has c [] = false
  has c (b ∷ bs) = same c b || has c bs

  abbrev pub add : A → List A → List A
  add a [] = a ∷ []
  add a (b ∷ bs) = if same a b then (b ∷ bs) else (if before a b then (a ∷ b ∷ bs) else (b ∷ add a bs))

  abbrev pub Above : A → List A → Type 0
  Above a bs = (c : A) → has c bs ≡ true → before a c ≡ true

  abbrev pub IsAscending : List A → Type 0
  IsAscending [] = Unit {0}
  IsAscending (a ∷ as') = Above a as' × IsAscending as'

  abbrev pub SameMembers : List A → List A → Type 0
  SameMembers as' bs = (c : A) → has c as' ≡ has c bs

-- a strict order of which the test is the equality
pub record IsOrder {A : Type 0} (same before : A → A → Bool) : Type 0 where
  pub tells : (a b : A) → same a b ≡ true → a ≡ b
  pub itself : (a : A) → same a a ≡ true
  pub trans : (a b c : A) → before a b ≡ true → before b c ≡ true → before a c ≡ true
  pub irreflexive : (a : A) → before a a ≡ true → ⊥
  pub total : (a b : A) → same a b ≡ false → before a b ≡ false → before b a ≡ true

module _ {A : Type 0} (same before : A → A → Bool) (o : IsOrder same before) where
  pub member_add : (c a : A) (bs : List A) → has same before c (add same before a bs) ≡ (same c a || has same before c bs)
  member_add c a [] = refl
  member_add c a (b ∷ bs) =
      elim (same a b) as (λ v. same a b ≡ v → has same before c (if v then (b ∷ bs) else (if before a b then (a ∷ b ∷ bs) else (b ∷ add same before a bs))) ≡ (same c a || (same c b || has same before c bs))) [
        | true ↦ λ e. or_twice (same c b) (has same before c bs) ∙ ap (λ x. same c x || (same c b || has same before c bs)) (sym (o.tells a b e))
        | false ↦ λ e. elim (before a b) as (λ v. has same before c (if v then (a ∷ b ∷ bs) else (b ∷ add same before a bs)) ≡ (same c a || (same c b || has same before c bs))) [
          | true ↦ refl
          | false ↦ ap (λ x. same c b || x) (member_add c a bs) ∙ or_swap (same c b) (same c a) (has same before c bs)
        ]
      ] refl

  pub ascending_add : (a : A) (bs : List A) → IsAscending same before bs → IsAscending same before (add same before a bs)
  ascending_add a [] h = (λ c k. cc, tt)
  ascending_add a (b ∷ bs) h =
      elim (same a b) as (λ v. same a b ≡ v → IsAscending same before (if v then (b ∷ bs) else (if before a b then (a ∷ b ∷ bs) else (b ∷ add same before a bs)))) [
        | true ↦ λ e. h
        | false ↦ λ e. elim (before a b) as (λ v. before a b ≡ v → IsAscending same before (if v then (a ∷ b ∷ bs) else (b ∷ add same before a bs))) [
          | true ↦ λ k. (λ c m. elim (or_cases (same c b) (has same before c bs) m) [ inl i ↦ ap (before a) (o.tells c b i) ∙ k | inr i ↦ o.trans a b c k (h.0 c i) ], h)
          | false ↦ λ k. (λ c m. elim (or_cases (same c a) (has same before c bs) (sym (member_add c a bs) ∙ m)) [ inl i ↦ ap (before b) (o.tells c a i) ∙ o.total a b e k | inr i ↦ h.0 c i ], ascending_add a bs h.1)
        ] refl
      ] refl

  member_front : (a : A) (bs : List A) → has same before a (a ∷ bs) ≡ true
  member_front a bs = ap (λ x. x || has same before a bs) (o.itself a)

  -- two first members are equal
  same_front : (a : A) (as' : List A) (b : A) (bs : List A) → Above same before a as' → Above same before b bs
      → SameMembers same before (a ∷ as') (b ∷ bs) → a ≡ b
  same_front a as' b bs h k m =
      elim (or_cases (same a b) (has same before a bs) (sym (m a) ∙ member_front a as')) [
        | inl e ↦ o.tells a b e
        | inr e ↦ elim (or_cases (same b a) (has same before b as') (m b ∙ member_front b bs)) [
          | inl f ↦ sym (o.tells b a f)
          | inr f ↦ absurd (o.irreflexive a (o.trans a b a (h b f) (k a e)))
        ]
      ]

  same_later : (a : A) (as' bs : List A) → Above same before a as' → Above same before a bs → SameMembers same before (a ∷ as') (a ∷ bs)
      → SameMembers same before as' bs
  same_later a as' bs h k m c =
      elim (same c a) as (λ v. same c a ≡ v → has same before c as' ≡ has same before c bs) [
        | true ↦ λ e. same_test (has same before c as') (has same before c bs)
            (λ i. absurd (o.irreflexive a (ap (before a) (sym (o.tells c a e)) ∙ h c i)))
            (λ i. absurd (o.irreflexive a (ap (before a) (sym (o.tells c a e)) ∙ k c i)))
        | false ↦ λ e. sym (ap (λ x. x || has same before c as') e) ∙ m c ∙ ap (λ x. x || has same before c bs) e
      ] refl

  pub same_ascending : (as' bs : List A) → IsAscending same before as' → IsAscending same before bs → SameMembers same before as' bs → as' ≡ bs
  same_ascending [] [] h k m = refl
  same_ascending [] (b ∷ bs) h k m = absurd (true≢false (sym (m b ∙ member_front b bs)))
  same_ascending (a ∷ as') [] h k m = absurd (true≢false (sym (member_front a as') ∙ m a))
  same_ascending (a ∷ as') (b ∷ bs) h k m =
      let e : a ≡ b = same_front a as' b bs h.0 k.0 m in
      let f : SameMembers same before (a ∷ as') (a ∷ bs) = subst (λ (x : A). SameMembers same before (a ∷ as') (x ∷ bs)) (sym e) m in
      let g : Above same before a bs = subst (λ (x : A). Above same before x bs) (sym e) k.0 in
      ap₂ ◌∷◌ e (same_ascending as' bs h.1 k.1 (same_later a as' bs h.0 g f))
