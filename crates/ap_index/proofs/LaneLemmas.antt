-- Lists in blocks, and lanes that are 1 or 0.
use Rattle.std.proofs.Common.{◌≡◌, ℕ, zero, suc, ◌+◌, ◌≤◌, ◌<◌, min, Bool, true, false, cond, not, ◌||◌, List, [], ◌∷◌, ◌++◌, length, take, drop, map, refl, sym, ap, ◌∙◌, arith}
use Rattle.std.proofs.lemmas.List.{drop-drop, drop-take, length-drop, length-map, map-append, take-append-drop, take-take}
use Rattle.std.proofs.lemmas.Simd.{length-chunk, take_more_put_chunk}
use Rattle.std.specs.List.{prefix_len}
use Rattle.std.specs.Prelude.{replicate}
use lib.Lanes.{Each1, put_chunk, sel_l}

pub select_ones : (p : ℕ → Bool) (xs : List ℕ) (n : ℕ) → length xs ≡ n → sel_l {A = ℕ} (map p xs) (replicate n 1) (replicate n 0) ≡ map (λ x. cond (p x) 1 0) xs
select_ones p [] n e = refl
select_ones p (x ∷ xs) zero e = absurd (omega (arith, e))
select_ones p (x ∷ xs) (suc n) e = ap (λ (ys : List ℕ). cond (p x) 1 0 ∷ ys) (select_ones p xs n (omega (arith, e)))

-- lanes that are 1 by one of two tests
pub select_further : (p q : ℕ → Bool) (xs : List ℕ) (n : ℕ) → length xs ≡ n
    → sel_l {A = ℕ} (map q xs) (replicate n 1) (map (λ x. cond (p x) 1 0) xs) ≡ map (λ x. cond (p x || q x) 1 0) xs
select_further p q [] n e = refl
select_further p q (x ∷ xs) zero e = absurd (omega (arith, e))
select_further p q (x ∷ xs) (suc n) e =
    ap (λ y. y ∷ sel_l {A = ℕ} (map q xs) (replicate n 1) (map (λ z. cond (p z) 1 0) xs)) (at (p x) (q x))
    ∙ ap (λ (ys : List ℕ). cond (p x || q x) 1 0 ∷ ys) (select_further p q xs n (omega (arith, e)))
  where
    at : (a b : Bool) → ◌≡◌ {A = ℕ} (cond b 1 (cond a 1 0)) (cond (a || b) 1 0)
    at true true = refl
    at true false = refl
    at false true = refl
    at false false = refl

-- what holds of 1 and of 0 holds of each such lane
pub ones_each : (P : ℕ → Type 0) → P 1 → P 0 → (p : ℕ → Bool) (xs : List ℕ) → Each1 P (map (λ x. cond (p x) 1 0) xs)
ones_each P one none p [] = tt
ones_each P one none p (x ∷ xs) = (at (p x), ones_each P one none p xs)
  where
    at : (b : Bool) → P (cond b 1 0)
    at true = one
    at false = none

pub ones_kept : (f : ℕ → ℕ) → f 1 ≡ 1 → f 0 ≡ 0 → (p : ℕ → Bool) (xs : List ℕ) → map f (map (λ x. cond (p x) 1 0) xs) ≡ map (λ x. cond (p x) 1 0) xs
ones_kept f one none p [] = refl
ones_kept f one none p (x ∷ xs) = ap (λ y. y ∷ map f (map (λ z. cond (p z) 1 0) xs)) (at (p x)) ∙ ap (λ (ys : List ℕ). cond (p x) 1 0 ∷ ys) (ones_kept f one none p xs)
  where
    at : (b : Bool) → f (cond b 1 0) ≡ cond b 1 0
    at true = one
    at false = none

-- the first that passes one of two tests is the first that passes one of them
pub either_first : (p q : ℕ → Bool) (xs : List ℕ) → min (prefix_len (λ x. not (p x)) xs) (prefix_len (λ x. not (q x)) xs) ≡ prefix_len (λ x. not (p x || q x)) xs
either_first p q [] = refl
either_first p q (x ∷ xs) = step (p x) (q x) _ _ _ (either_first p q xs)
  where
    step : (a b : Bool) (m n r : ℕ) → min m n ≡ r → min (cond (not a) (1 + m) 0) (cond (not b) (1 + n) 0) ≡ cond (not (a || b)) (1 + r) 0
    step true true m n r e = refl
    step true false m n r e = omega arith
    step false true m n r e = omega arith
    step false false m n r e = omega (arith, e)

pub run_length : (p : ℕ → Bool) (xs : List ℕ) → prefix_len p xs ≤ length xs
run_length p [] = omega arith
run_length p (x ∷ xs) = step (p x) _ _ (run_length p xs)
  where
    step : (a : Bool) (m l : ℕ) → m ≤ l → cond a (1 + m) 0 ≤ suc l
    step true m l h = omega (arith, h)
    step false m l h = omega arith

-- a run that ends within the first n ends there in all
pub run_ends : (p : ℕ → Bool) (xs : List ℕ) (n : ℕ) → n ≤ length xs → prefix_len p (take n xs) < n → prefix_len p xs ≡ prefix_len p (take n xs)
run_ends p xs zero l h = absurd (omega (arith, h))
run_ends p [] (suc n) l h = absurd (omega (arith, l))
run_ends p (x ∷ xs) (suc n) l h = step (p x) _ _ (run_ends p xs n (omega (arith, l))) h
  where
    step : (a : Bool) (m r : ℕ) → (m < n → r ≡ m) → cond a (1 + m) 0 < suc n → cond a (1 + r) 0 ≡ cond a (1 + m) 0
    step true m r f h = ap (λ k. 1 + k) (f (omega (arith, h)))
    step false m r f h = refl

-- a run of all the first n goes on behind them
pub run_goes_on : (p : ℕ → Bool) (xs : List ℕ) (n : ℕ) → n ≤ length xs → n ≤ prefix_len p (take n xs) → prefix_len p xs ≡ n + prefix_len p (drop n xs)
run_goes_on p xs zero l h = omega arith
run_goes_on p [] (suc n) l h = absurd (omega (arith, l))
run_goes_on p (x ∷ xs) (suc n) l h = step (p x) _ _ _ (run_goes_on p xs n (omega (arith, l))) h
  where
    step : (a : Bool) (m r d : ℕ) → (n ≤ m → r ≡ n + d) → suc n ≤ cond a (1 + m) 0 → cond a (1 + r) 0 ≡ suc n + d
    step true m r d f h = omega (arith, f (omega (arith, h)))
    step false m r d f h = absurd (omega (arith, h))

-- A block of n keys behind the first i, of which r come before the one that ends the run.
module _ (p : ℕ → Bool) (xs : List ℕ) (i n r all : ℕ) (room : i + n ≤ length xs) (skipped : r ≡ prefix_len p (take n (drop i xs))) (run : i + prefix_len p (drop i xs) ≡ all) where
  behind : n ≤ length (drop i xs)
  behind = let k = length-drop i xs in omega (arith, k, room)

  pub block_ends : r < n → i + r ≡ all
  block_ends h =
      let k : prefix_len p (drop i xs) ≡ prefix_len p (take n (drop i xs)) = run_ends p (drop i xs) n behind (omega (arith, h, skipped)) in
      omega (arith, k, skipped, run)

  whole : n ≤ r → r ≡ n
  whole h =
      let k : prefix_len p (take n (drop i xs)) ≤ length (take n (drop i xs)) = run_length p (take n (drop i xs)) in
      let l : length (take n (drop i xs)) ≡ n = length-chunk i n xs room in
      omega (arith, h, k, l, skipped)

  pub block_goes_on : n ≤ r → (i + n ≤ length xs) × (i + n + prefix_len p (drop (i + n) xs) ≡ all)
  block_goes_on h =
      let w : r ≡ n = whole h in
      let k : prefix_len p (drop i xs) ≡ n + prefix_len p (drop n (drop i xs)) = run_goes_on p (drop i xs) n behind (omega (arith, h, skipped)) in
      let d : prefix_len p (drop n (drop i xs)) ≡ prefix_len p (drop (i + n) xs) = ap (prefix_len p) (drop-drop n i xs) in
      (omega (arith, room), omega (arith, w, k, d, run))

pub take_further : (i n : ℕ) (xs : List ℕ) → take i xs ++ take n (drop i xs) ≡ take (i + n) xs
take_further i n xs =
    ap (λ (ys : List ℕ). ys ++ take n (drop i xs)) (sym (take-take i (i + n) xs (omega arith)))
    ∙ ap (λ (ys : List ℕ). take i (take (i + n) xs) ++ ys) (sym (drop-take i n xs)) ∙ take-append-drop i (take (i + n) xs)

-- what is stored behind the first i by f of the keys there
pub block_stored : (f : ℕ → ℕ) (keys out : List ℕ) (i n : ℕ) → i + n ≤ length keys → length out ≡ length keys → take i out ≡ map f (take i keys)
    → take (i + n) (put_chunk i out (map f (take n (drop i keys)))) ≡ map f (take (i + n) keys)
block_stored f keys out i n room long done =
    let block = map f (take n (drop i keys)) in
    let k : length block ≡ n = length-map (take n (drop i keys)) f ∙ length-chunk i n keys room in
    take_more_put_chunk i out block (i + n) (omega (arith, k)) (omega (arith, long, room))
    ∙ ap (λ (ys : List ℕ). ys ++ block) done ∙ sym (map-append f (take i keys) (take n (drop i keys))) ∙ ap (map f) (take_further i n keys)
