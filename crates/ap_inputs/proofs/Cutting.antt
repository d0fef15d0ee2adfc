-- How tokens are cut into items.
use Rattle.std.proofs.Common.{◌≡◌, ℕ, suc, ◌+◌, ◌<◌, Bool, true, false, not, List, [], ◌∷◌, ◌++◌, cond, length, take, drop, refl, sym, ap, subst, ◌∙◌, arith, append-nil}
use Rattle.std.proofs.Math.ListN.{drop_of_length-le}
use Rattle.std.proofs.Math.Seq.{take-length}
use Rattle.std.specs.Prelude.{filter, fold, min}
use Rattle.std.specs.List.{flat_map, position_or_len}
use Rattle.std.proofs.lemmas.List.{drop-drop, drop-map, length-map, length-take, take-map}
use Rattle.ap_lexer.specs.declared.token.Token.{Token}
use Rattle.ap_lexer.specs.Tokens.{Lexeme, is_dot, lexeme, lexemes}
use Rattle.ap_inputs.specs.Items.{items_of_tokens, with_first}

-- how many tokens the first item has
abbrev size : List Lexeme → ℕ
size ts = min (position_or_len is_dot ts + 1) (length ts)

cut_one : (b : Bool) (t : Lexeme) → let n = min (cond (not b) (1 + 0) 0 + 1) 1 in cond b ((t ∷ []) ∷ []) ((t ∷ []) ∷ []) ≡ take n (t ∷ []) ∷ items_of_tokens (drop n (t ∷ []))
cut_one true t = refl
cut_one false t = refl

cut_more : (b : Bool) (t : Lexeme) (ts : List Lexeme) → items_of_tokens ts ≡ take (size ts) ts ∷ items_of_tokens (drop (size ts) ts)
    → let n = min (cond (not b) (1 + position_or_len is_dot ts) 0 + 1) (suc (length ts)) in cond b ((t ∷ []) ∷ items_of_tokens ts) (with_first t (items_of_tokens ts)) ≡ take n (t ∷ ts) ∷ items_of_tokens (drop n (t ∷ ts))
cut_more true t ts rest =
    let one : min (0 + 1) (suc (length ts)) ≡ 1 = omega arith in
    subst (λ n. (t ∷ []) ∷ items_of_tokens ts ≡ take n (t ∷ ts) ∷ items_of_tokens (drop n (t ∷ ts))) (sym one) refl
cut_more false t ts rest =
    let more : min (1 + position_or_len is_dot ts + 1) (suc (length ts)) ≡ suc (size ts) = omega arith in
    subst (λ n. with_first t (items_of_tokens ts) ≡ take n (t ∷ ts) ∷ items_of_tokens (drop n (t ∷ ts))) (sym more) (ap (with_first t) rest)

-- the first item is what stands before the first full stop, with it
items-cut : (ts : List Lexeme) → 0 < length ts → items_of_tokens ts ≡ take (size ts) ts ∷ items_of_tokens (drop (size ts) ts)
items-cut [] some = absurd (omega (arith, some))
items-cut (t ∷ []) some = cut_one (is_dot t) t
items-cut (t ∷ u ∷ us) some = cut_more (is_dot t) t (u ∷ us) (items-cut (u ∷ us) (omega arith))

-- the first item of tokens
pub items-first : (tokens : List Token) (n : ℕ) → 0 < length tokens → n ≡ min (position_or_len is_dot (lexemes tokens) + 1) (length tokens)
    → items_of_tokens (lexemes tokens) ≡ lexemes (take n tokens) ∷ items_of_tokens (lexemes (drop (length (take n tokens)) tokens))
items-first tokens n some e =
    let some_lexeme : 0 < length (lexemes tokens) = omega (arith, length-map tokens lexeme) in
    let same : size (lexemes tokens) ≡ n = ap (min (position_or_len is_dot (lexemes tokens) + 1)) (length-map tokens lexeme) ∙ sym e in
    let few : length (take n tokens) ≡ n = omega (arith, e, length-take n tokens) in
    let cut : items_of_tokens (lexemes tokens) ≡ take n (lexemes tokens) ∷ items_of_tokens (drop n (lexemes tokens)) =
    subst (λ k. items_of_tokens (lexemes tokens) ≡ take k (lexemes tokens) ∷ items_of_tokens (drop k (lexemes tokens))) same (items-cut (lexemes tokens) some_lexeme) in
    cut
    ∙ ap (λ i. i ∷ items_of_tokens (drop n (lexemes tokens))) (take-map lexeme n tokens)
    ∙ ap (λ ts. lexemes (take n tokens) ∷ items_of_tokens ts) (drop-map lexeme n tokens)
    ∙ ap (λ k. lexemes (take n tokens) ∷ items_of_tokens (lexemes (drop k tokens))) (sym few)

-- what is left behind the first item of what is left
pub items-left : (tokens rest item : List Token) (place : ℕ) → rest ≡ drop place tokens → items_of_tokens (lexemes rest) ≡ lexemes item ∷ items_of_tokens (lexemes (drop (length item) rest))
    → items_of_tokens (lexemes (drop place tokens)) ≡ lexemes item ∷ items_of_tokens (lexemes (drop (place + length item) tokens))
items-left tokens rest item place e cut =
    ap (λ ts. items_of_tokens (lexemes ts)) (sym e) ∙ cut
    ∙ ap (λ ts. lexemes item ∷ items_of_tokens (lexemes (drop (length item) ts))) e
    ∙ ap (λ ts. lexemes item ∷ items_of_tokens (lexemes ts)) (drop-drop (length item) place tokens)

-- what is done with the items that pass, for the first of them and then for the others
fold_by : {A B : Type 0} (f : B → A → B) (p : A → Bool) (b : Bool) (z : B) (x : A) (xs : List A)
    → fold f z (cond b (x ∷ filter p xs) (filter p xs)) ≡ fold f (fold f z (cond b (x ∷ []) [])) (filter p xs)
fold_by f p true z x xs = refl
fold_by f p false z x xs = refl

pub fold-filter_first : {A B : Type 0} (f : B → A → B) (p : A → Bool) (z : B) (x : A) (xs : List A) → fold f z (filter p (x ∷ xs)) ≡ fold f (fold f z (filter p (x ∷ []))) (filter p xs)
fold-filter_first f p z x xs = fold_by f p (p x) z x xs

flat_by : {A B : Type 0} (f : A → List B) (p : A → Bool) (b : Bool) (x : A) (xs : List A)
    → flat_map f (cond b (x ∷ filter p xs) (filter p xs)) ≡ flat_map f (cond b (x ∷ []) []) ++ flat_map f (filter p xs)
flat_by f p true x xs = ap (λ ys. ys ++ flat_map f (filter p xs)) (sym (append-nil (f x)))
flat_by f p false x xs = refl

pub flat_map-filter_first : {A B : Type 0} (f : A → List B) (p : A → Bool) (x : A) (xs : List A) → flat_map f (filter p (x ∷ xs)) ≡ flat_map f (filter p (x ∷ [])) ++ flat_map f (filter p xs)
flat_map-filter_first f p x xs = flat_by f p (p x) x xs

-- a vector whose items were lent as a slice has what the slice was given
pub lent : (n : ℕ) (new old : List ℕ) → length new ≡ n → n ≡ length old → take n (new ++ drop (length new) old) ≡ new
lent n new old as_long whole =
    ap (λ xs. take n (new ++ xs)) (drop_of_length-le old (omega arith))
    ∙ ap (take n) (append-nil new)
    ∙ ap (λ k. take k new) (sym as_long)
    ∙ take-length new
