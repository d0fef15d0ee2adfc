-- Tables of words, and the first places at which tests pass.
use Rattle.std.proofs.Common.{◌≡◌, ℕ, suc, Bool, true, false, ◌||◌, List, [], ◌∷◌, ◌++◌, map, length, Option, None, Some, refl, sym, ap, ◌∙◌, position, cond, if◌then◌else◌, arith, nat_lt, ◌+◌}
use Rattle.std.proofs.lemmas.Bool.Decides.{nat_tests}
use Rattle.std.specs.Str.{bytes_eq}
use Rattle.std.specs.List.{list_any}
use Rattle.std.specs.Option.{option_map}
use Rattle.indexmap.specs.IndexSet.{insert_key}
use Rattle.std.proofs.lemmas.List.{map-append}
use denote.Ref.{Bor}
use Rattle.ap_scopes.specs.Words.{with_word, with_words}

module _ {A : Type 0} (p : A → Bool) where
  one_later : (i n : ℕ) → cond (nat_lt (1 + i) (suc n)) (Some (1 + i)) None ≡ option_map suc (cond (nat_lt i n) (Some i) None)
  one_later i n = by (nat_lt i n) refl
    where
      by : (b : Bool) → nat_lt i n ≡ b → cond (nat_lt (1 + i) (suc n)) (Some (1 + i)) None ≡ option_map suc (cond b (Some i) None)
      by true e = let h : nat_lt (1 + i) (suc n) ≡ true = grind (arith, nat_tests) in rw h (ap (λ n. Some n) (let k : 1 + i ≡ suc i = omega arith in k))
      by false e = let h : nat_lt (1 + i) (suc n) ≡ false = grind (arith, nat_tests) in rw h refl

  pub position-cons : (x : A) (xs : List A) → position p (x ∷ xs) ≡ cond (p x) (Some 0) (option_map suc (position p xs))
  position-cons x xs = by (p x) refl
    where
      by : (b : Bool) → p x ≡ b → position p (x ∷ xs) ≡ cond b (Some 0) (option_map suc (position p xs))
      by true e = let h : nat_lt 0 (suc (length xs)) ≡ true = grind (arith, nat_tests) in rw (e, h) refl
      by false e = rw e (one_later _ _)

  pub position-skip : (x : A) → p x ≡ false → (xs : List A) → position p (xs ++ x ∷ []) ≡ position p xs
  position-skip x e [] = position-cons x [] ∙ ap (λ b. cond b (Some 0) None) e
  position-skip x e (y ∷ ys) = position-cons y (ys ++ x ∷ []) ∙ ap (λ r. cond (p y) (Some 0) (option_map suc r)) (position-skip x e ys) ∙ sym (position-cons y ys)

  absent : (b : Bool) (r : Option ℕ) → cond b (Some 0) (option_map suc r) ≡ None → (b ≡ false) × (r ≡ None)
  absent false None h = (refl, refl)
  absent false (Some i) h = absurd (cc)
  absent true r h = absurd (cc)

  pub position-hit : (x : A) → p x ≡ true → (xs : List A) → position p xs ≡ None → position p (xs ++ x ∷ []) ≡ Some (length xs)
  position-hit x e [] none = position-cons x [] ∙ ap (λ b. cond b (Some 0) None) e
  position-hit x e (y ∷ ys) none =
      let a : (p y ≡ false) × (position p ys ≡ None) = absent (p y) (position p ys) (sym (position-cons y ys) ∙ none) in
      position-cons y (ys ++ x ∷ []) ∙ ap (λ b. cond b (Some 0) (option_map suc (position p (ys ++ x ∷ [])))) a.0 ∙ ap (option_map suc) (position-hit x e ys a.1)

module _ {A B : Type 0} (view : A → B) (test : B → Bool) where
  -- a test of views
  pub position-map : (ks : List A) → position (λ k. test (view k)) ks ≡ position test (map view ks)
  position-map [] = refl
  position-map (k ∷ ks) =
      position-cons (λ k. test (view k)) k ks ∙ ap (λ r. cond (test (view k)) (Some 0) (option_map suc r)) (position-map ks) ∙ sym (position-cons test (view k) (map view ks))

  pub list_any-map : (ks : List A) → list_any (λ k. test (view k)) ks ≡ list_any test (map view ks)
  list_any-map [] = refl
  list_any-map (k ∷ ks) = ap (λ b. test (view k) || b) (list_any-map ks)

-- words that are added one after the other
pub with_words_append : (known xs ys : List (List ℕ)) → with_words known (xs ++ ys) ≡ with_words (with_words known xs) ys
with_words_append known [] ys = refl
with_words_append known (x ∷ xs) ys = with_words_append (with_word known x) xs ys

-- a word put behind the others, unless it is there
pub insert-map : (ks : List (Bor (List ℕ))) (k : Bor (List ℕ)) → map (λ j. j.now) (insert_key (λ x y. bytes_eq x.now y.now) ks k) ≡ with_word (map (λ j. j.now) ks) k.now
insert-map ks k = by (list_any (λ j. bytes_eq k.now j.now) ks) refl
  where
    by : (b : Bool) → list_any (λ j. bytes_eq k.now j.now) ks ≡ b → map (λ j. j.now) (if b then ks else ks ++ k ∷ []) ≡ with_word (map (λ j. j.now) ks) k.now
    by true e = rw (sym (list_any-map (λ j. j.now) (bytes_eq k.now) ks) ∙ e) refl
    by false e = rw (sym (list_any-map (λ j. j.now) (bytes_eq k.now) ks) ∙ e) (map-append (λ j. j.now) ks (k ∷ []))
