-- How many numbers below a bound pass a test.
use Rattle.std.proofs.Common.{◌≡◌, ◌<◌, ◌≤◌, ◌⊎◌, ℕ, zero, suc, Bool, true, false, refl, inl, inr, arith, subst}
use Rattle.std.specs.Prelude.{if◌then◌else◌}
use Rattle.ap_types.specs.Joining.{count_below}

pub count_most : (p : ℕ → Bool) (n : ℕ) → count_below p n ≤ n
count_most p zero = omega arith
count_most p (suc n) =
    let h = count_most p n in
    elim (p n) as (λ b. (if b then suc (count_below p n) else count_below p n) ≤ suc n) [ true ↦ omega arith | false ↦ omega arith ]

-- what passes the one passes the other
abbrev pub IsWithin : (ℕ → Bool) → (ℕ → Bool) → ℕ → Type 0
IsWithin p q n = (x : ℕ) → x < n → p x ≡ true → q x ≡ true

pub count_grows : (p q : ℕ → Bool) (n : ℕ) → IsWithin p q n → count_below p n ≤ count_below q n
count_grows p q zero h = omega arith
count_grows p q (suc n) h =
    let k = count_grows p q n (λ x l e. h x (omega arith) e) in
    elim (p n) as (λ b. p n ≡ b → (if b then suc (count_below p n) else count_below p n) ≤ (if q n then suc (count_below q n) else count_below q n)) [
      | true ↦ λ e. let m = h n (omega arith) e in rw m (omega arith)
      | false ↦ λ e. elim (q n) as (λ b. count_below p n ≤ (if b then suc (count_below q n) else count_below q n)) [ true ↦ omega arith | false ↦ omega arith ]
    ] refl

-- One that passes the other alone makes the count greater.
pub count_less : (p q : ℕ → Bool) (n : ℕ) → IsWithin p q n → (x : ℕ) → x < n → p x ≡ false → q x ≡ true → count_below p n < count_below q n
count_less p q zero h x l e f = absurd (omega arith)
count_less p q (suc n) h x l e f =
    let k = count_grows p q n (λ y m i. h y (omega arith) i) in
    elim (at_or_below x n l) [
      | inl s ↦
          let e' : p n ≡ false = subst (λ y. p y ≡ false) s e in
          let f' : q n ≡ true = subst (λ y. q y ≡ true) s f in
          rw (e', f') (omega arith)
      | inr m ↦
          let i = count_less p q n (λ y o j. h y (omega arith) j) x m e f in
          elim (p n) as (λ b. p n ≡ b → (if b then suc (count_below p n) else count_below p n) < (if q n then suc (count_below q n) else count_below q n)) [
            | true ↦ λ j. let o = h n (omega arith) j in rw o (omega arith)
            | false ↦ λ j. elim (q n) as (λ b. count_below p n < (if b then suc (count_below q n) else count_below q n)) [ true ↦ omega arith | false ↦ omega arith ]
          ] refl
    ]
  where
    at_or_below : (x n : ℕ) → x < suc n → (x ≡ n) ⊎ (x < n)
    at_or_below x n l = grind arith
