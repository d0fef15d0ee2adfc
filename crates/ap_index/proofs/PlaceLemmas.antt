-- Keys that stand in no place of their bucket.
use Rattle.std.proofs.Common.{◌≡◌, ℕ, zero, suc, ◌+◌, ◌-◌, ◌<◌, ◌≤◌, min, max, Bool, true, false, cond, not, ◌||◌, List, [], ◌∷◌, length, get_or, take, drop, refl, sym, ap, ap₂, subst, ◌∙◌, true≢false, arith}
use Rattle.std.proofs.lemmas.List.{drop-drop, drop-take, drop_all, length-drop}
use Rattle.std.specs.List.{prefix_len}
use Rattle.std.specs.Prelude.{◌==◌}
use Rattle.ap_index.proofs.LaneLemmas.{run_ends, run_goes_on}
use Rattle.ap_index.specs.Matching.{key_agrees}
use Rattle.ap_theory.proofs.TermLemmas.{number_same}
use Rattle.ap_index.specs.Places.{AreKeysWithin, bucket}

-- a run goes on over what does not end it
pub none_between : (p : ℕ → Bool) (xs : List ℕ) (i j : ℕ) → i ≤ j → j ≤ length xs → ((k : ℕ) → i ≤ k → k < j → p (get_or xs k 0) ≡ false)
    → i + prefix_len (λ x. not (p x)) (drop i xs) ≡ j + prefix_len (λ x. not (p x)) (drop j xs)
none_between p xs zero zero l m h = refl
none_between p xs (suc i) zero l m h = absurd (omega (arith, l))
none_between p [] i (suc j) l m h = absurd (omega (arith, m))
none_between p (x ∷ xs) zero (suc j) l m h =
    let e : p x ≡ false = h zero (omega arith) (omega arith) in
    let k : zero + prefix_len (λ y. not (p y)) xs ≡ j + prefix_len (λ y. not (p y)) (drop j xs) = none_between p xs zero j (omega arith) (omega (arith, m)) (λ n a b. h (suc n) (omega arith) (omega (arith, b))) in
    ap (λ (b : Bool). zero + cond (not b) (1 + prefix_len (λ y. not (p y)) xs) 0) e ∙ omega (arith, k)
none_between p (x ∷ xs) (suc i) (suc j) l m h =
    let k : i + prefix_len (λ y. not (p y)) (drop i xs) ≡ j + prefix_len (λ y. not (p y)) (drop j xs) = none_between p xs i j (omega (arith, l)) (omega (arith, m)) (λ n a b. h (suc n) (omega (arith, a)) (omega (arith, b))) in
    omega (arith, k)

either_of : {R : Type 0} (a b : Bool) → (a ≡ true → R) → (b ≡ true → R) → (a || b) ≡ true → R
either_of true b f g h = f refl
either_of false true f g h = g refl
either_of false false f g h = absurd (true≢false (sym h))

not_true : (b : Bool) → (b ≡ true → ⊥) → b ≡ false
not_true true f = absurd (f refl)
not_true false f = refl

module _ (keys starts ends : List ℕ) (key : ℕ) (within : AreKeysWithin keys starts ends) where
  abbrev first : ℕ
  first = min (get_or starts (bucket (length keys) key) 0) (get_or starts 0 0)

  abbrev behind : ℕ
  behind = max (get_or ends (bucket (length keys) key) 0) (get_or ends 0 0)

  there : (k : ℕ) → k < length keys → key_agrees key (get_or keys k 0) ≡ true → (first ≤ k) × (k < behind)
  there k l h =
      let n = length keys in
      let at = get_or keys k 0 in
      either_of (at == key) (at == 0)
      (λ e. let w = subst (λ (b : ℕ). (get_or starts b 0 ≤ k) × (k < get_or ends b 0)) (ap (bucket n) (number_same at key e)) (within k l) in (omega (arith, w.0), omega (arith, w.1)))
      (λ e. let w = subst (λ (b : ℕ). (get_or starts b 0 ≤ k) × (k < get_or ends b 0)) (ap (bucket n) (number_same at 0 e)) (within k l) in (omega (arith, w.0), omega (arith, w.1)))
      h

  not_before : (k : ℕ) → k < length keys → k < first → key_agrees key (get_or keys k 0) ≡ false
  not_before k l h = not_true _ (λ e. let w = there k l e in omega (arith, w.0, h))

  not_behind : (k : ℕ) → k < length keys → behind ≤ k → key_agrees key (get_or keys k 0) ≡ false
  not_behind k l h = not_true _ (λ e. let w = there k l e in omega (arith, w.1, h))

  abbrev run : ℕ → ℕ
  run i = prefix_len (λ k. not (key_agrees key k)) (drop i keys)

  at_end : run (length keys) ≡ 0
  at_end = ap (λ (xs : List ℕ). prefix_len (λ k. not (key_agrees key k)) xs) (drop_all (length keys) keys (omega arith))

  module _ (from start end : ℕ) (low : from ≤ length keys) (starts_at : start ≡ max from first) (ends_at : end ≡ min (length keys) behind) where
    pub nothing_there : end ≤ start → length keys ≡ from + run from
    nothing_there h =
        let e = none_between (key_agrees key) keys from (length keys) low (omega arith) (λ k a b. not_true _ (λ t. let w = there k b t in omega (arith, w.0, w.1, a, b, h, starts_at, ends_at))) in
        omega (arith, e, at_end)

    module _ (here : start < end) (place : ℕ) (found : place ≡ start + prefix_len (λ k. not (key_agrees key k)) (drop start (take end keys))) where
      same : from + run from ≡ start + run start
      same = none_between (key_agrees key) keys from start (omega (arith, starts_at)) (omega (arith, here, ends_at)) (λ k a b. not_before k (omega (arith, b, here, ends_at)) (omega (arith, a, b, starts_at)))

      part : drop start (take end keys) ≡ take (end - start) (drop start keys)
      part = ap (λ (n : ℕ). drop start (take n keys)) (omega (arith, here)) ∙ drop-take start (end - start) keys

      found_part : place ≡ start + prefix_len (λ k. not (key_agrees key k)) (take (end - start) (drop start keys))
      found_part = found ∙ ap (λ (xs : List ℕ). start + prefix_len (λ k. not (key_agrees key k)) xs) part

      long : end - start ≤ length (drop start keys)
      long = let l = length-drop start keys in omega (arith, l, here, ends_at)

      pub place_there : place < end → place ≡ from + run from
      place_there h =
          let e = run_ends (λ k. not (key_agrees key k)) (drop start keys) (end - start) long (omega (arith, h, found_part, here)) in
          omega (arith, e, same, found_part)

      pub place_past : end ≤ place → length keys ≡ from + run from
      place_past h =
          let e = run_goes_on (λ k. not (key_agrees key k)) (drop start keys) (end - start) long (omega (arith, h, found_part, here)) in
          let d : prefix_len (λ k. not (key_agrees key k)) (drop (end - start) (drop start keys)) ≡ run end =
          ap (λ (xs : List ℕ). prefix_len (λ k. not (key_agrees key k)) xs) (drop-drop (end - start) start keys ∙ ap (λ (n : ℕ). drop n keys) (omega (arith, here))) in
          let f = none_between (key_agrees key) keys end (length keys) (omega (arith, ends_at)) (omega arith) (λ k a b. not_behind k b (omega (arith, a, b, ends_at))) in
          omega (arith, e, d, f, at_end, same, here)

at_place : (xs : List ℕ) (i r : ℕ) → i < length xs → r ≡ get_or xs i r → r ≡ get_or xs i 0
at_place [] i r l h = absurd (omega (arith, l))
at_place (x ∷ xs) zero r l h = h
at_place (x ∷ xs) (suc i) r l h = at_place xs i r (omega (arith, l)) h

-- two places of a list that were looked at
pub of_both : (f : ℕ → ℕ → ℕ) (xs : List ℕ) (b c r s : ℕ) → b ≡ c → b < length xs → r ≡ get_or xs b r → s ≡ get_or xs 0 s → f r s ≡ f (get_or xs c 0) (get_or xs 0 0)
of_both f xs b c r s e l h k = ap₂ f (at_place xs b r l h ∙ ap (λ (i : ℕ). get_or xs i 0) e) (at_place xs 0 s (omega (arith, l)) k)
