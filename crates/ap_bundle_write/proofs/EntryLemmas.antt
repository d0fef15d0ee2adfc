-- The words of a line tell the term: so a look-up of the words finds the term.
use Rattle.std.proofs.Common.{◌≡◌, ℕ, Bool, true, List, [], ◌∷◌, ◌++◌, map, length, refl, ap, sym, subst, ◌∙◌, flat_map, arith}
use Rattle.std.proofs.lemmas.List.{map-append}
use Rattle.std.specs.Bool.{one_answer}
use Rattle.std.specs.List.{list_any, position_or_len, AllByRecursion as Each}
use Rattle.std.specs.Cmp.Lexicographic.{pointwise, pointwise_decides}
use Rattle.ap_defs.specs.declared.terms.Swap.{Swap}
use Rattle.ap_defs.specs.Terms as terms
use Rattle.ap_defs.specs.Terms.{NominalTerm}
use Rattle.ap_bundle.specs.declared.words.Word.{Word}
use Rattle.ap_bundle.specs.declared.words.Word.TheVariants.{Number}
use Rattle.ap_bundle.specs.Forms.{swap_words}
use Rattle.ap_bundle.specs.Tables.{same, entry_words, line_of, HasParts}
use Rattle.ap_bundle.proofs.SameLemmas.{same_true, own_same}
use Rattle.ap_bundle.proofs.TableLemmas.{one_line, words_more, map_words_more, parts_more, each_parts_more, each_append}

swaps_one : (p q : List Swap) (m n : ℕ) → length p ≡ length q → flat_map swap_words p ++ Number m ∷ [] ≡ flat_map swap_words q ++ Number n ∷ [] → (p ≡ q) × (m ≡ n)
swaps_one [] [] m n k e = (refl, cc)
swaps_one [] (r ∷ q) m n k e = absurd (omega arith)
swaps_one (s ∷ p) [] m n k e = absurd (omega arith)
swaps_one (s ∷ p) (r ∷ q) m n k e =
    let sort : s.sort ≡ r.sort = cc in
    let left : s.left ≡ r.left = cc in
    let right : s.right ≡ r.right = cc in
    let shorter : length p ≡ length q = omega arith in
    let others : flat_map swap_words p ++ Number m ∷ [] ≡ flat_map swap_words q ++ Number n ∷ [] = cc in
    let more = swaps_one p q m n shorter others in
    let tail = more.0 in
    (λ i. record { sort = sort i; left = left i; right = right i } ∷ tail i, more.1)

pub words_one : (table : List NominalTerm) (t u : NominalTerm) → HasParts table t → HasParts table u → entry_words table t ≡ entry_words table u → t ≡ u
words_one table terms.unit terms.unit h k e = refl
words_one table (terms.name a) (terms.name b) h k e =
    let sort : a.sort ≡ b.sort = cc in
    let num : a.num ≡ b.num = cc in
    λ i. terms.name (record { sort = sort i; num = num i })
words_one table (terms.pair t u) (terms.pair v w) h k e =
    let first : line_of table t ≡ line_of table v = cc in
    let second : line_of table u ≡ line_of table w = cc in
    let left = one_line table t v h.0 k.0 first in
    let right = one_line table u w h.1 k.1 second in
    λ i. terms.pair (left i) (right i)
words_one table (terms.app f t) (terms.app g u) h k e =
    let head : f ≡ g = cc in
    let line : line_of table t ≡ line_of table u = cc in
    let part = one_line table t u h k line in
    λ i. terms.app (head i) (part i)
words_one table (terms.abs a t) (terms.abs b u) h k e =
    let sort : a.sort ≡ b.sort = cc in
    let num : a.num ≡ b.num = cc in
    let line : line_of table t ≡ line_of table u = cc in
    let part = one_line table t u h k line in
    λ i. terms.abs (record { sort = sort i; num = num i }) (part i)
words_one table (terms.susp p x) (terms.susp q y) h k e =
    let count : length p ≡ length q = cc in
    let others : flat_map swap_words p ++ Number x.num ∷ [] ≡ flat_map swap_words q ++ Number y.num ∷ [] = cc in
    let both = swaps_one p q x.num y.num count others in
    let swaps = both.0 in
    let num = both.1 in
    λ i. terms.susp (swaps i) (record { num = num i })
words_one table t u h k e = cc

-- The set compares the words of lines.
module _ {E : Word → Word → Bool} (decides : (w v : Word) → (E w v ≡ true → w ≡ v) × (w ≡ v → E w v ≡ true)) where
  pub same_words : (table : List NominalTerm) (t u : NominalTerm) → HasParts table t → HasParts table u → pointwise E (entry_words table t) (entry_words table u) ≡ same t u
  same_words table t u h k =
      let lists = pointwise_decides decides (entry_words table t) (entry_words table u) in
      one_answer (pointwise E (entry_words table t) (entry_words table u)) (same t u)
      (λ s. words_one table t u h k (lists.0 s), λ e. lists.1 (ap (entry_words table) e))
      (same_true t u, λ e. subst (λ v. same t v ≡ true) e (own_same t))

  module _ {V : Type 0} (words : V → List Word) (table : List NominalTerm) (t : NominalTerm) (w : List Word) (h : HasParts table t) (is : w ≡ entry_words table t) where
    pub found_words : (ks : List V) (ts : List NominalTerm) → map words ks ≡ map (entry_words table) ts → Each (HasParts table) ts
        → list_any (λ k. pointwise E w (words k)) ks ≡ list_any (same t) ts
    found_words [] [] e p = refl
    found_words [] (u ∷ ts) e p = cc
    found_words (k ∷ ks) [] e p = cc
    found_words (k ∷ ks) (u ∷ ts) e p =
        let head : words k ≡ entry_words table u = cc in
        let tail : map words ks ≡ map (entry_words table) ts = cc in
        let first = same_words table t u h p.0 in
        rw (head, is, first, found_words ks ts tail p.1) refl

    pub place_words : (ks : List V) (ts : List NominalTerm) → map words ks ≡ map (entry_words table) ts → Each (HasParts table) ts
        → position_or_len (λ k. pointwise E w (words k)) ks ≡ position_or_len (same t) ts
    place_words [] [] e p = refl
    place_words [] (u ∷ ts) e p = cc
    place_words (k ∷ ks) [] e p = cc
    place_words (k ∷ ks) (u ∷ ts) e p =
        let head : words k ≡ entry_words table u = cc in
        let tail : map words ks ≡ map (entry_words table) ts = cc in
        let first = same_words table t u h p.0 in
        rw (head, is, first, place_words ks ts tail p.1) refl

-- A term that is added, with the words of its line.
module _ {V : Type 0} (words : V → List Word) (table : List NominalTerm) (t : NominalTerm) (h : HasParts table t) where
  pub lines_added : (ks : List V) (k : V) → words k ≡ entry_words table t → map words ks ≡ map (entry_words table) table → Each (HasParts table) table
      → map words (ks ++ k ∷ []) ≡ map (entry_words (table ++ t ∷ [])) (table ++ t ∷ [])
  lines_added ks k is e p =
      let f = entry_words (table ++ t ∷ []) in
      let others : map f table ≡ map (entry_words table) table = map_words_more table (t ∷ []) table p in
      let own : f t ≡ entry_words table t = words_more table (t ∷ []) t h in
      map-append words ks (k ∷ []) ∙ ap (λ z. z ++ words k ∷ []) (e ∙ sym others) ∙ ap (λ z. map f table ++ z ∷ []) (is ∙ sym own) ∙ sym (map-append f table (t ∷ []))

pub parts_added : (table : List NominalTerm) (t : NominalTerm) → HasParts table t → Each (HasParts table) table → Each (HasParts (table ++ t ∷ [])) (table ++ t ∷ [])
parts_added table t h p =
    each_append (HasParts (table ++ t ∷ [])) table (t ∷ []) (each_parts_more table (t ∷ []) table p) (parts_more table (t ∷ []) t h, tt)
