-- The table of a bundle: each term stands behind its parts, and none of the bundle's is missing.
use Rattle.std.proofs.Common.{◌≡◌, ◌+◌, ◌<◌, ◌≤◌, inl, inr, List, [], ◌∷◌, ◌++◌, length, sym, subst, append_assoc, arith, length-append, flat_map}
use Rattle.std.proofs.lemmas.List.{append-nil}
use Rattle.std.proofs.lemmas.Option.{slice_get_within}
use Rattle.std.specs.List.{list_any}
use Rattle.ap_defs.specs.Terms as terms
use Rattle.ap_defs.specs.Terms.{NominalTerm}
use Rattle.ap_bundle.specs.Tables.{same, expanded_size, size_of_all, with_parts, with_table_term, with_table_terms, grown, line_of, Has, HasParts}
use Rattle.ap_bundle.proofs.SameLemmas.{cases}
use Rattle.ap_bundle.proofs.TableLemmas.{has_at, has_more, has_term, terms_more, terms_append, each_append}
use Rattle.ap_bundle_laws.specs.Laws.{Each, FitsTerm}

-- each of these terms has its parts before it, behind others
abbrev pub Ordered : List NominalTerm → List NominalTerm → Type 0
Ordered front [] = Unit {0}
Ordered front (t ∷ ts) = HasParts front t × Ordered (front ++ t ∷ []) ts

ordered_last : (front ts : List NominalTerm) (t : NominalTerm) → Ordered front ts → HasParts (front ++ ts) t → Ordered front (ts ++ t ∷ [])
ordered_last front [] t h p = (subst (λ us. HasParts us t) (append-nil front) p, tt)
ordered_last front (u ∷ ts) t h p = (h.0, ordered_last (front ++ u ∷ []) ts t h.1 (subst (λ us. HasParts us t) (sym (append_assoc front (u ∷ []) ts)) p))

ordered_term : (table : List NominalTerm) (t : NominalTerm) → Ordered [] table → HasParts table t → Ordered [] (with_table_term table t)
ordered_term table t h p = elim (cases (list_any (same t) table)) [
  | inl e ↦ rw e h
  | inr e ↦ rw e (ordered_last [] table t h p)
]

has_later : (table ts : List NominalTerm) (t : NominalTerm) → Has table t → Has (with_table_terms table ts) t
has_later table ts t h = let g = terms_more table ts in subst (λ us. Has us t) (sym g.1) (has_more table g.0 t h)

abbrev Holds : List NominalTerm → NominalTerm → Type 0
Holds table t = Ordered [] table × Has table t

-- a term behind its parts
with_last : (table front : List NominalTerm) (t : NominalTerm) → Ordered [] (with_table_terms table front) → HasParts (with_table_terms table front) t → Holds (with_table_terms table (front ++ t ∷ [])) t
with_last table front t h p =
    subst (λ us. Holds us t) (sym (terms_append table front (t ∷ []))) (ordered_term (with_table_terms table front) t h p, has_term (with_table_terms table front) t)

ordered_whole : (t : NominalTerm) (table : List NominalTerm) → Ordered [] table → Holds (with_table_terms table (with_parts t)) t
ordered_whole terms.unit table h = with_last table [] terms.unit h tt
ordered_whole (terms.name a) table h = with_last table [] (terms.name a) h tt
ordered_whole (terms.pair t u) table h =
    let first = ordered_whole t table h in
    let second = ordered_whole u (with_table_terms table (with_parts t)) first.0 in
    let left = has_later (with_table_terms table (with_parts t)) (with_parts u) t first.1 in
    let both = terms_append table (with_parts t) (with_parts u) in
    let whole = with_last table (with_parts t ++ with_parts u) (terms.pair t u) (subst (Ordered []) (sym both) second.0) (subst (λ us. HasParts us (terms.pair t u)) (sym both) (left, second.1)) in
    subst (λ us. Holds (with_table_terms table us) (terms.pair t u)) (append_assoc (with_parts t) (with_parts u) (terms.pair t u ∷ [])) whole
ordered_whole (terms.app f t) table h = let first = ordered_whole t table h in with_last table (with_parts t) (terms.app f t) first.0 first.1
ordered_whole (terms.abs a t) table h = let first = ordered_whole t table h in with_last table (with_parts t) (terms.abs a t) first.0 first.1
ordered_whole (terms.susp p x) table h = with_last table [] (terms.susp p x) h tt

pub ordered_all : (ts table : List NominalTerm) → Ordered [] table → Ordered [] (grown table ts) × Each (Has (grown table ts)) ts
ordered_all [] table h = (h, tt)
ordered_all (t ∷ ts) table h =
    let first = ordered_whole t table h in
    let mid = with_table_terms table (with_parts t) in
    let rest = ordered_all ts mid first.0 in
    let e : grown table (t ∷ ts) ≡ grown mid ts = terms_append table (with_parts t) (flat_map with_parts ts) in
    (subst (Ordered []) (sym e) rest.0, subst (λ us. Each (Has us) (t ∷ ts)) (sym e) (has_later mid (flat_map with_parts ts) t first.1, rest.1))

-- a line is one of the table
pub line_within : (table : List NominalTerm) (t : NominalTerm) → Has table t → line_of table t < length table
line_within table t h = slice_get_within table (line_of table t) t (has_at table t h)

-- the parts of a term that fits fit
parts_fit : (t : NominalTerm) → FitsTerm t → Each FitsTerm (with_parts t)
parts_fit terms.unit h = (h, tt)
parts_fit (terms.name a) h = (h, tt)
parts_fit (terms.pair t u) h = each_append FitsTerm (with_parts t) (with_parts u ++ terms.pair t u ∷ []) (parts_fit t h.0) (each_append FitsTerm (with_parts u) (terms.pair t u ∷ []) (parts_fit u h.1) (h, tt))
parts_fit (terms.app f t) h = each_append FitsTerm (with_parts t) (terms.app f t ∷ []) (parts_fit t h.1) (h, tt)
parts_fit (terms.abs a t) h = each_append FitsTerm (with_parts t) (terms.abs a t ∷ []) (parts_fit t h.1) (h, tt)
parts_fit (terms.susp p x) h = (h, tt)

term_fit : (table : List NominalTerm) (t : NominalTerm) → Each FitsTerm table → FitsTerm t → Each FitsTerm (with_table_term table t)
term_fit table t h k = elim (cases (list_any (same t) table)) [
  | inl e ↦ rw e h
  | inr e ↦ rw e (each_append FitsTerm table (t ∷ []) h (k, tt))
]

terms_fit : (table ts : List NominalTerm) → Each FitsTerm table → Each FitsTerm ts → Each FitsTerm (with_table_terms table ts)
terms_fit table [] h k = h
terms_fit table (t ∷ ts) h k = terms_fit (with_table_term table t) ts (term_fit table t h k.0) k.1

all_parts_fit : (ts : List NominalTerm) → Each FitsTerm ts → Each FitsTerm (flat_map with_parts ts)
all_parts_fit [] h = tt
all_parts_fit (t ∷ ts) h = each_append FitsTerm (with_parts t) (flat_map with_parts ts) (parts_fit t h.0) (all_parts_fit ts h.1)

pub table_fits : (ts : List NominalTerm) → Each FitsTerm ts → Each FitsTerm (grown [] ts)
table_fits ts h = terms_fit [] (flat_map with_parts ts) tt (all_parts_fit ts h)

-- a table has no more lines than its terms are large
term_length : (table : List NominalTerm) (t : NominalTerm) → length (with_table_term table t) ≤ length table + 1
term_length table t = elim (cases (list_any (same t) table)) [
  | inl e ↦ rw e (omega arith)
  | inr e ↦ rw e (omega (arith, length-append table (t ∷ [])))
]

terms_length : (table ts : List NominalTerm) → length (with_table_terms table ts) ≤ length table + length ts
terms_length table [] = omega arith
terms_length table (t ∷ ts) = omega (arith, terms_length (with_table_term table t) ts, term_length table t)

parts_length : (t : NominalTerm) → length (with_parts t) ≤ expanded_size t
parts_length terms.unit = omega arith
parts_length (terms.name a) = omega arith
parts_length (terms.pair t u) = omega (arith, length-append (with_parts t) (with_parts u ++ terms.pair t u ∷ []), length-append (with_parts u) (terms.pair t u ∷ []), parts_length t, parts_length u)
parts_length (terms.app f t) = omega (arith, length-append (with_parts t) (terms.app f t ∷ []), parts_length t)
parts_length (terms.abs a t) = omega (arith, length-append (with_parts t) (terms.abs a t ∷ []), parts_length t)
parts_length (terms.susp p x) = omega arith

all_length : (ts : List NominalTerm) → length (flat_map with_parts ts) ≤ size_of_all ts
all_length [] = omega arith
all_length (t ∷ ts) = omega (arith, length-append (with_parts t) (flat_map with_parts ts), parts_length t, all_length ts)

pub table_length : (ts : List NominalTerm) → length (grown [] ts) ≤ size_of_all ts
table_length ts = omega (arith, terms_length [] (flat_map with_parts ts), all_length ts)
