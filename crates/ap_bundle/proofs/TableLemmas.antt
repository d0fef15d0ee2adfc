-- Tables of terms: where a term stands in one, and how one grows.
use Rattle.std.proofs.Common.{◌≡◌, ◌⊎◌, inl, inr, ℕ, suc, ◌+◌, Bool, true, false, not, ◌||◌, List, [], ◌∷◌, ◌++◌, map, length, slice_get, Some, refl, ap, sym, subst, ◌∙◌, append_assoc, arith, flat_map, if◌then◌else◌}
use Rattle.std.proofs.lemmas.List.{append-nil}
use Rattle.std.proofs.lemmas.Grind.{flat_map-append}
use Rattle.std.specs.List.{list_any, position_or_len, AllByRecursion as Each}
use Rattle.ap_defs.specs.Terms as terms
use Rattle.ap_defs.specs.Terms.{NominalTerm}
use Rattle.ap_bundle.specs.Tables.{same, with_parts, with_table_term, with_table_terms, grown, line_of, entry_words, Has, HasParts}
use Rattle.ap_bundle.proofs.SameLemmas.{cases, same_true, own_same}

or_true : (a b : Bool) → b ≡ true → (a || b) ≡ true
or_true true b h = refl
or_true false b h = h

-- a term that is there stands at its line
pub has_at : (table : List NominalTerm) (t : NominalTerm) → Has table t → slice_get table (line_of table t) ≡ Some t
has_at [] t h = cc
has_at (x ∷ table) t h = elim (cases (same t x)) [
  | inl e ↦ rw e (ap Some (sym (same_true t x e)))
  | inr e ↦ let s : 1 + line_of table t ≡ suc (line_of table t) = omega arith in rw (e, s) (has_at table t (rw e at h))
]

-- two terms at one line are one
pub one_line : (table : List NominalTerm) (t u : NominalTerm) → Has table t → Has table u → line_of table t ≡ line_of table u → t ≡ u
one_line table t u h k e =
    let here = has_at table t h in
    let there = has_at table u k in
    let found : Some t ≡ Some u = sym here ∙ ap (slice_get table) e ∙ there in
    cc

-- what is there stays where it is
pub line_more : (table more : List NominalTerm) (t : NominalTerm) → Has table t → line_of (table ++ more) t ≡ line_of table t
line_more [] more t h = cc
line_more (x ∷ table) more t h = elim (cases (same t x)) [
  | inl e ↦ rw e refl
  | inr e ↦ rw e (ap (λ (n : ℕ). 1 + n) (line_more table more t (rw e at h)))
]

pub has_more : (table more : List NominalTerm) (t : NominalTerm) → Has table t → Has (table ++ more) t
has_more [] more t h = cc
has_more (x ∷ table) more t h = elim (cases (same t x)) [
  | inl e ↦ rw e refl
  | inr e ↦ rw e (has_more table more t (rw e at h))
]

has_last : (table : List NominalTerm) (t : NominalTerm) → Has (table ++ t ∷ []) t
has_last [] t = rw (own_same t) refl
has_last (x ∷ table) t = or_true (same t x) (list_any (same t) (table ++ t ∷ [])) (has_last table t)

line_last : (table : List NominalTerm) (t : NominalTerm) → line_of (table ++ t ∷ []) t ≡ line_of table t
line_last [] t = rw (own_same t) refl
line_last (x ∷ table) t = elim (cases (same t x)) [
  | inl e ↦ rw e refl
  | inr e ↦ rw e (ap (λ (n : ℕ). 1 + n) (line_last table t))
]

-- the term that is added
pub has_term : (table : List NominalTerm) (t : NominalTerm) → Has (with_table_term table t) t
has_term table t = elim (cases (list_any (same t) table)) [
  | inl e ↦ rw e e
  | inr e ↦ rw e (has_last table t)
]

pub line_term : (table : List NominalTerm) (t : NominalTerm) → line_of (with_table_term table t) t ≡ line_of table t
line_term table t = elim (cases (list_any (same t) table)) [
  | inl e ↦ rw e refl
  | inr e ↦ rw e (line_last table t)
]

-- a table grows at its end
pub term_more : (table : List NominalTerm) (t : NominalTerm) → (more : List NominalTerm) × (with_table_term table t ≡ table ++ more)
term_more table t = elim (cases (list_any (same t) table)) [
  | inl e ↦ ([], rw e (sym (append-nil table)))
  | inr e ↦ (t ∷ [], rw e refl)
]

pub terms_more : (table ts : List NominalTerm) → (more : List NominalTerm) × (with_table_terms table ts ≡ table ++ more)
terms_more table [] = ([], sym (append-nil table))
terms_more table (t ∷ ts) =
    let first = term_more table t in
    let others = terms_more (with_table_term table t) ts in
    (first.0 ++ others.0, others.1 ∙ ap (λ z. z ++ others.0) first.1 ∙ append_assoc table first.0 others.0)

pub terms_append : (table ts us : List NominalTerm) → with_table_terms table (ts ++ us) ≡ with_table_terms (with_table_terms table ts) us
terms_append table [] us = refl
terms_append table (t ∷ ts) us = terms_append (with_table_term table t) ts us

pub grown_append : (table ts us : List NominalTerm) → grown table (ts ++ us) ≡ grown (grown table ts) us
grown_append table ts us = ap (with_table_terms table) (flat_map-append with_parts ts us) ∙ terms_append table (flat_map with_parts ts) (flat_map with_parts us)

-- one term with its parts
pub grown_one : (table : List NominalTerm) (t : NominalTerm) → grown table (t ∷ []) ≡ with_table_terms table (with_parts t)
grown_one table t = ap (with_table_terms table) (append-nil (with_parts t))

-- a term stands behind its parts
has_whole : (table : List NominalTerm) (t : NominalTerm) (front : List NominalTerm) → with_parts t ≡ front ++ t ∷ [] → Has (with_table_terms table (with_parts t)) t
has_whole table t front e = subst (λ ts. Has (with_table_terms table ts) t) (sym e) (subst (λ us. Has us t) (sym (terms_append table front (t ∷ []))) (has_term (with_table_terms table front) t))

whole_last : (t : NominalTerm) → (front : List NominalTerm) × (with_parts t ≡ front ++ t ∷ [])
whole_last terms.unit = ([], refl)
whole_last (terms.name a) = ([], refl)
whole_last (terms.pair t u) = (with_parts t ++ with_parts u, sym (append_assoc (with_parts t) (with_parts u) (terms.pair t u ∷ [])))
whole_last (terms.app f t) = (with_parts t, refl)
whole_last (terms.abs a t) = (with_parts t, refl)
whole_last (terms.susp p x) = ([], refl)

pub has_grown : (table : List NominalTerm) (t : NominalTerm) → Has (grown table (t ∷ [])) t
has_grown table t = let w = whole_last t in subst (λ us. Has us t) (sym (grown_one table t)) (has_whole table t w.0 w.1)

-- the line of a term that is there stays, however the table grows
pub line_grown : (table ts : List NominalTerm) (t : NominalTerm) → Has table t → line_of (grown table ts) t ≡ line_of table t
line_grown table ts t h = let g = terms_more table (flat_map with_parts ts) in ap (λ us. line_of us t) g.1 ∙ line_more table g.0 t h

-- the words of a line stay too
pub words_more : (table more : List NominalTerm) (t : NominalTerm) → HasParts table t → entry_words (table ++ more) t ≡ entry_words table t
words_more table more terms.unit h = refl
words_more table more (terms.name a) h = refl
words_more table more (terms.pair t u) h = rw (line_more table more t h.0, line_more table more u h.1) refl
words_more table more (terms.app f t) h = rw (line_more table more t h) refl
words_more table more (terms.abs a t) h = rw (line_more table more t h) refl
words_more table more (terms.susp p x) h = refl

pub parts_more : (table more : List NominalTerm) (t : NominalTerm) → HasParts table t → HasParts (table ++ more) t
parts_more table more terms.unit h = tt
parts_more table more (terms.name a) h = tt
parts_more table more (terms.pair t u) h = (has_more table more t h.0, has_more table more u h.1)
parts_more table more (terms.app f t) h = has_more table more t h
parts_more table more (terms.abs a t) h = has_more table more t h
parts_more table more (terms.susp p x) h = tt

pub map_words_more : (table more ts : List NominalTerm) → Each (HasParts table) ts → map (entry_words (table ++ more)) ts ≡ map (entry_words table) ts
map_words_more table more [] h = refl
map_words_more table more (t ∷ ts) h = rw (words_more table more t h.0, map_words_more table more ts h.1) refl

pub each_parts_more : (table more ts : List NominalTerm) → Each (HasParts table) ts → Each (HasParts (table ++ more)) ts
each_parts_more table more [] h = tt
each_parts_more table more (t ∷ ts) h = (parts_more table more t h.0, each_parts_more table more ts h.1)

pub each_append : {A : Type 0} (P : A → Type 0) (xs ys : List A) → Each P xs → Each P ys → Each P (xs ++ ys)
each_append P [] ys h k = k
each_append P (x ∷ xs) ys h k = (h.0, each_append P xs ys h.1 k)

-- lines of terms that are there
pub map_line_more : (table more ts : List NominalTerm) → Each (Has table) ts → map (line_of (table ++ more)) ts ≡ map (line_of table) ts
map_line_more table more [] h = refl
map_line_more table more (t ∷ ts) h = rw (line_more table more t h.0, map_line_more table more ts h.1) refl

pub each_has_more : (table more ts : List NominalTerm) → Each (Has table) ts → Each (Has (table ++ more)) ts
each_has_more table more [] h = tt
each_has_more table more (t ∷ ts) h = (has_more table more t h.0, each_has_more table more ts h.1)
