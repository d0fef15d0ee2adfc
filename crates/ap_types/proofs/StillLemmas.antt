-- With n data types the rounds stand still after n of them.
use Rattle.std.proofs.Common.{◌≡◌, ◌<◌, ◌≤◌, ◌⊎◌, ℕ, zero, suc, Bool, true, false, List, [], ◌∷◌, ◌&&◌, refl, inl, inr, arith, subst, sym}
use Rattle.std.specs.Prelude.{◌==◌}
use Rattle.std.proofs.lemmas.Bool.Decides.{eqb_tells}
use Rattle.ap_defs.specs.Types.{NominalConstructor}
use Rattle.ap_types.specs.Rounds.{Test, Within, IsLeastSet, some_passes, reached}
use Rattle.ap_types.specs.Statements.{AreOfFirst, InhabitedStandsStill, HoldingStandsStill}
use Rattle.ap_types.specs.Inhabited.{all_inhabited}
use Rattle.ap_types.specs.Holding.{some_holds}
use Rattle.ap_types.specs.Joining.{count_below}
use Rattle.ap_types.proofs.BooleanLemmas.{and_left, or_cases}
use Rattle.ap_types.proofs.CountLemmas.{count_most, count_less, IsWithin}
use Rattle.ap_types.proofs.RoundLemmas.{Grows, some_passes_grows, reached_more, reached_closed}
use Rattle.ap_types.proofs.QuestionLemmas.{all_inhabited_grows, some_holds_grows, inhabited_least, holds_least}

-- The first set has all of the second below n, or it has fewer.
all_or_fewer : (p q : ℕ → Bool) (n : ℕ) → IsWithin p q n → IsWithin q p n ⊎ (count_below p n < count_below q n)
all_or_fewer p q zero h = inl (λ x l. absurd (omega arith))
all_or_fewer p q (suc n) h =
    elim (q n) as (λ b. q n ≡ b → IsWithin q p (suc n) ⊎ (count_below p (suc n) < count_below q (suc n))) [
      | true ↦ λ e. elim (p n) as (λ b. p n ≡ b → IsWithin q p (suc n) ⊎ (count_below p (suc n) < count_below q (suc n))) [
        | true ↦ λ f. elim (all_or_fewer p q n (λ x l. h x (omega arith))) [
          | inl k ↦ inl (λ x l i. elim (last_or_before x n l) [ inl s ↦ subst (λ y. p y ≡ true) (sym s) f | inr m ↦ k x m i ])
          | inr k ↦ inr (rw (e, f) (omega arith))
        ]
        | false ↦ λ f. inr (count_less p q (suc n) h n (omega arith) f e)
      ] refl
      | false ↦ λ e. elim (all_or_fewer p q n (λ x l. h x (omega arith))) [
        | inl k ↦ inl (λ x l i. elim (last_or_before x n l) [ inl s ↦ let no : q n ≡ true = subst (λ y. q y ≡ true) s i in cc | inr m ↦ k x m i ])
        | inr k ↦ elim (p n) as (λ b. p n ≡ b → IsWithin q p (suc n) ⊎ (count_below p (suc n) < count_below q (suc n))) [
          | true ↦ λ f. let no : q n ≡ true = h n (omega arith) f in cc
          | false ↦ λ f. inr (rw (e, f) k)
        ] refl
      ]
    ] refl
  where
    last_or_before : (x n : ℕ) → x < suc n → (x ≡ n) ⊎ (x < n)
    last_or_before x n l = grind arith

-- As many as there are are all.
count_all : (p : ℕ → Bool) (n : ℕ) → n ≤ count_below p n → (x : ℕ) → x < n → p x ≡ true
count_all p n h x l =
    elim (p x) as (λ b. p x ≡ b → b ≡ true) [
      | true ↦ λ e. refl
      | false ↦ λ e.
          let k = count_less p (λ y. true) n (λ y m i. refl) x l e refl in
          let m = count_most (λ y. true) n in
          absurd (omega arith)
    ] refl

-- only the data types of constructors are found
passes_below : (test : Test) (p : ℕ → Bool) (n : ℕ) (cs : List NominalConstructor) → AreOfFirst n cs → (d : ℕ) → some_passes test p cs d ≡ true → d < n
passes_below test p n [] h d e = cc
passes_below test p n (c ∷ cs) h d e =
    elim (or_cases ((c.result == d) && test p c.args) (some_passes test p cs d) e) [
      | inl a ↦ elim (eqb_tells c.result d) [
        | inl w ↦ subst (λ x. x < n) w.1 h.0
        | inr w ↦ let no : (c.result == d) ≡ true = and_left (c.result == d) (test p c.args) a in cc
      ]
      | inr a ↦ passes_below test p n cs h.1 d a
    ]

module _ (test : Test) (grows : Grows test) (cs : List NominalConstructor) (n : ℕ) (of : AreOfFirst n cs) where
  still_or_many : (r : ℕ) → Within (reached test cs (suc r)) (reached test cs r) ⊎ (r ≤ count_below (reached test cs r) n)
  still_or_many zero = inr (omega arith)
  still_or_many (suc r) = elim (still_or_many r) [
    | inl h ↦ inl (some_passes_grows test grows (reached test cs (suc r)) (reached test cs r) h cs)
    | inr k ↦ elim (all_or_fewer (reached test cs r) (reached test cs (suc r)) n (λ x l e. reached_more test grows cs r (suc r) (omega arith) x e)) [
      | inl w ↦ inl (some_passes_grows test grows (reached test cs (suc r)) (reached test cs r) (λ d e. w d (passes_below test (reached test cs r) n cs of d e) e) cs)
      | inr m ↦ inr (omega arith)
    ]
  ]

  still : Within (reached test cs (suc n)) (reached test cs n)
  still d e = elim (still_or_many n) [
    | inl h ↦ h d e
    | inr k ↦ count_all (reached test cs n) n k d (passes_below test (reached test cs n) n cs of d e)
  ]

  pub still_least : IsLeastSet test cs (reached test cs n)
  still_least = record { sound = (n, λ d e. e); whole = reached_closed test grows cs (reached test cs n) still }

pub inhabited_stands_still : InhabitedStandsStill
inhabited_stands_still cs n h t = inhabited_least cs _ (still_least all_inhabited all_inhabited_grows cs n h) t

pub holding_stands_still : HoldingStandsStill
holding_stands_still cs n h t sort = holds_least cs sort _ (still_least (some_holds sort) (some_holds_grows sort) cs n h) t
