-- Identifiers that are looked through one by one, and tables that are made of them.
use Rattle.std.proofs.Common.{◌≡◌, ℕ, suc, ◌+◌, ◌<◌, ◌≤◌, Bool, true, false, not, ◌&&◌, List, [], ◌∷◌, ◌++◌, take, drop, length, get_or, Option, None, Some, refl, sym, ap, ◌∙◌, position, cond, if◌then◌else◌, arith}
use Rattle.std.specs.Option.{option_map}
use Rattle.std.proofs.lemmas.List.{length-take-le, take-append-drop, take_all}
use Rattle.std.proofs.Math.Seq.{take-suc}
use Rattle.ap_trees.specs.Terms.{Name}
use Rattle.ap_trees.specs.Trees.{name_of_binder}
use Rattle.ap_scopes.specs.declared.identifiers.Identifier as code
use Rattle.ap_scopes.specs.Declarations.{or_else}
use Rattle.ap_scopes.specs.Identifiers.{is_free_identifier, same_spelling}
use Rattle.ap_scopes.specs.Views.{identifier_of}
use Rattle.ap_scopes.proofs.Tables.{position-cons, position-skip, position-hit}

module _ {A : Type 0} (p : A → Bool) where
  pub position_kept : (xs ys : List A) (i : ℕ) → position p xs ≡ Some i → position p (xs ++ ys) ≡ Some i
  position_kept [] ys i h = absurd (cc)
  position_kept (x ∷ xs) ys i h = by (λ j. position_kept xs ys j) (p x) (position p xs) refl refl
    where
      by : ((j : ℕ) → position p xs ≡ Some j → position p (xs ++ ys) ≡ Some j) → (b : Bool) (o : Option ℕ) → p x ≡ b → position p xs ≡ o → position p (x ∷ xs ++ ys) ≡ Some i
      by later true o e k =
          let first : position p (x ∷ xs) ≡ Some 0 = position-cons p x xs ∙ ap (λ b. cond b (Some 0) (option_map suc (position p xs))) e in
          position-cons p x (xs ++ ys) ∙ ap (λ b. cond b (Some 0) (option_map suc (position p (xs ++ ys)))) e ∙ sym first ∙ h
      by later false (Some j) e k =
          let there : position p (x ∷ xs) ≡ Some (suc j) = position-cons p x xs ∙ ap (λ b. cond b (Some 0) (option_map suc (position p xs))) e ∙ ap (option_map suc) k in
          position-cons p x (xs ++ ys) ∙ ap (λ b. cond b (Some 0) (option_map suc (position p (xs ++ ys)))) e ∙ ap (option_map suc) (later j k) ∙ sym there ∙ h
      by later false None e k =
          let never : position p (x ∷ xs) ≡ None = position-cons p x xs ∙ ap (λ b. cond b (Some 0) (option_map suc (position p xs))) e ∙ ap (option_map suc) k in
          let wrong : None ≡ Some i = sym never ∙ h in absurd (cc)

  -- one element more
  position_more : (xs : List A) (x : A) → position p (xs ++ x ∷ []) ≡ or_else (position p xs) (if p x then Some (length xs) else None)
  position_more xs x = by_first (position p xs) refl
    where
      by : (b : Bool) → p x ≡ b → position p xs ≡ None → position p (xs ++ x ∷ []) ≡ (if b then Some (length xs) else None)
      by true e none = position-hit p x e xs none
      by false e none = position-skip p x e xs ∙ none

      by_first : (o : Option ℕ) → position p xs ≡ o → position p (xs ++ x ∷ []) ≡ or_else o (if p x then Some (length xs) else None)
      by_first None h = by (p x) refl h
      by_first (Some i) h = position_kept xs (x ∷ []) i h

  pub position_next : (xs : List A) (i : ℕ) (d : A) → i < length xs → position p (take (i + 1) xs) ≡ or_else (position p (take i xs)) (if p (get_or xs i d) then Some i else None)
  position_next xs i d l =
      let next : i + 1 ≡ suc i = omega arith in
      let count : length (take i xs) ≡ i = length-take-le i xs (omega arith) in
      ap (λ j. position p (take j xs)) next ∙ ap (position p) (take-suc xs i d l) ∙ position_more (take i xs) (get_or xs i d)
      ∙ ap (λ n. or_else (position p (take i xs)) (if p (get_or xs i d) then Some n else None)) count

  whole_from : (xs : List A) (j i : ℕ) → position p (take j xs) ≡ Some i → position p xs ≡ Some i
  whole_from xs j i h = ap (position p) (sym (take-append-drop j xs)) ∙ position_kept (take j xs) (drop j xs) i h

  pub position_at : (xs : List A) (i : ℕ) (d : A) → i < length xs → position p (take i xs) ≡ None → p (get_or xs i d) ≡ true → position p xs ≡ Some i
  position_at xs i d l none e =
      whole_from xs (i + 1) i (position_next xs i d l ∙ ap (λ o. or_else o (if p (get_or xs i d) then Some i else None)) none ∙ ap (λ b. if b then Some i else None) e)

  pub position_none : (xs : List A) (i : ℕ) (d : A) → i < length xs → position p (take i xs) ≡ None → p (get_or xs i d) ≡ false → position p (take (i + 1) xs) ≡ None
  position_none xs i d l none e =
      position_next xs i d l ∙ ap (λ o. or_else o (if p (get_or xs i d) then Some i else None)) none ∙ ap (λ b. if b then Some i else None) e

  pub position_end : (xs : List A) (i : ℕ) → length xs ≤ i → position p (take i xs) ≡ position p xs
  position_end xs i l = ap (position p) (take_all i xs l)

or_none : (o : Option ℕ) → or_else o None ≡ o
or_none None = refl
or_none (Some i) = refl

-- a table of one identifier more
module _ (name : Name) (xs : List code.Identifier) (i : ℕ) (x : code.Identifier) (l : i < length xs) (is : x ≡ get_or xs i x) where
  pub noted_next : (old new : Option ℕ) → x.bound ≡ false → old ≡ position (λ k. is_free_identifier name (identifier_of k)) (take i xs)
      → new ≡ or_else old (if same_spelling name (name_of_binder x.spelling) then Some i else None) → new ≡ position (λ k. is_free_identifier name (identifier_of k)) (take (i + 1) xs)
  noted_next old new free before now =
      let p : code.Identifier → Bool = λ k. is_free_identifier name (identifier_of k) in
      let same : Bool = same_spelling name (name_of_binder x.spelling) in
      let test : p (get_or xs i x) ≡ same = ap p (sym is) ∙ ap (λ b. not b && same) free in
      now ∙ ap (λ o. or_else o (if same then Some i else None)) before
      ∙ ap (λ b. or_else (position p (take i xs)) (if b then Some i else None)) (sym test) ∙ sym (position_next p xs i x l)

  pub passed_next : (old : Option ℕ) → x.bound ≡ true → old ≡ position (λ k. is_free_identifier name (identifier_of k)) (take i xs)
      → old ≡ position (λ k. is_free_identifier name (identifier_of k)) (take (i + 1) xs)
  passed_next old bound before =
      let p : code.Identifier → Bool = λ k. is_free_identifier name (identifier_of k) in
      let test : p (get_or xs i x) ≡ false = ap p (sym is) ∙ ap (λ b. not b && same_spelling name (name_of_binder x.spelling)) bound in
      before ∙ sym (position_next p xs i x l ∙ ap (λ b. or_else (position p (take i xs)) (if b then Some i else None)) test ∙ or_none _)
