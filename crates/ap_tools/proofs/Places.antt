-- Lists of lists, by place.
use Rattle.std.proofs.Common.{◌≡◌, ◌≢◌, ℕ, zero, suc, ◌+◌, ◌<◌, List, [], ◌∷◌, length, set, sym, refl, ap, ◌∙◌, Option, Some, None, ◌++◌, take, drop, get_or, add-one, arith}
use Rattle.std.specs.Prelude.{slice_get}

module _ {A : Type 0} where
  or_else : A → Option A → A
  or_else a None = a
  or_else a (Some b) = b

  pub same_some : (a b : A) → Some a ≡ Some b → a ≡ b
  unfolding or_else
  same_some a b e = ap (or_else a) e

  is_there : Option A → ℕ
  is_there None = 0
  is_there (Some a) = 1

  pub some_there : (a : A) → Some a ≡ None → ⊥
  unfolding is_there
  some_there a e = let z = ap is_there e in omega arith

  pub set_here : (l : List A) (i : ℕ) (a : A) → i < length l → slice_get (set l i a) i ≡ Some a
  set_here [] i a h = absurd (omega arith)
  set_here (x ∷ xs) zero a h = refl
  set_here (x ∷ xs) (suc i) a h = set_here xs i a (omega arith)

  pub set_else : (l : List A) (i j : ℕ) (a : A) → j ≢ i → slice_get (set l i a) j ≡ slice_get l j
  set_else [] i j a n = refl
  set_else (x ∷ xs) zero zero a n = absurd (n refl)
  set_else (x ∷ xs) zero (suc j) a n = refl
  set_else (x ∷ xs) (suc i) zero a n = refl
  set_else (x ∷ xs) (suc i) (suc j) a n = set_else xs i j a (λ e. n (ap suc e))

  pub set_again : (l : List A) (i : ℕ) (a : A) → slice_get l i ≡ Some a → set l i a ≡ l
  set_again [] i a e = refl
  set_again (x ∷ xs) zero a e = λ k. sym (same_some x a e) k ∷ xs
  set_again (x ∷ xs) (suc i) a e = λ k. x ∷ set_again xs i a e k

  pub set_length : (l : List A) (i : ℕ) (x : A) → length (set l i x) ≡ length l
  set_length [] i x = refl
  set_length (y ∷ ys) zero x = refl
  set_length (y ∷ ys) (suc i) x = ap suc (set_length ys i x)

  pub set_twice : (l : List A) (i : ℕ) (x y : A) → set (set l i x) i y ≡ set l i y
  set_twice [] i x y = refl
  set_twice (z ∷ zs) zero x y = refl
  set_twice (z ∷ zs) (suc i) x y = ap (λ l. z ∷ l) (set_twice zs i x y)

  pub set_swap : (l : List A) (i j : ℕ) (x y : A) → i ≢ j → set (set l i x) j y ≡ set (set l j y) i x
  set_swap [] i j x y ne = refl
  set_swap (z ∷ zs) zero zero x y ne = absurd (ne refl)
  set_swap (z ∷ zs) zero (suc j) x y ne = refl
  set_swap (z ∷ zs) (suc i) zero x y ne = refl
  set_swap (z ∷ zs) (suc i) (suc j) x y ne = ap (λ l. z ∷ l) (set_swap zs i j x y (λ e. ne (ap suc e)))

  pub there_below : (l : List A) (i : ℕ) (a : A) → slice_get l i ≡ Some a → i < length l
  there_below [] i a e = absurd (some_there a (sym e))
  there_below (x ∷ xs) zero a e = omega arith
  there_below (x ∷ xs) (suc i) a e = let z = there_below xs i a e in omega arith

  split_at' : (xs : List A) (i : ℕ) (d : A) → i < length xs → xs ≡ take i xs ++ get_or xs i d ∷ drop (suc i) xs
  split_at' [] i d l = absurd (omega arith)
  split_at' (x ∷ xs) zero d l = refl
  split_at' (x ∷ xs) (suc i) d l = ap (λ l. x ∷ l) (split_at' xs i d (omega arith))

  -- what stands before a place, there and behind it
  pub split_at : (xs : List A) (i : ℕ) (d : A) → i < length xs → xs ≡ take i xs ++ get_or xs i d ∷ drop (i + 1) xs
  split_at xs i d l = split_at' xs i d l ∙ ap (λ n. take i xs ++ get_or xs i d ∷ drop n xs) (sym (add-one i))
