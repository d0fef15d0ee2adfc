-- Writes that follow one another, and loops that write.
use Rattle.std.proofs.Common.{◌≡◌, ℕ, zero, suc, ◌+◌, ◌<◌, ◌≤◌, List, [], ◌∷◌, ◌++◌, map, length, drop, get_or, refl, ap, ap₂, sym, ◌∙◌, append_assoc, flat_map, drop-cons, add-one, arith}
use Rattle.std.proofs.lemmas.List.{append-nil}
use Rattle.ap_defs.specs.Terms.{NominalTerm}
use Rattle.ap_bundle.specs.declared.version.Version.{Version}
use Rattle.ap_bundle.specs.declared.version.Version.TheVariants.{One, Two}
use Rattle.ap_bundle.specs.declared.words.Head.TheVariants as head
use Rattle.ap_bundle.specs.Tables.{grown, line_of, entry_words}
use Rattle.ap_bundle.specs.Written.{written_line_as, term_line, counted_line, head_line, entry_line}
use Rattle.ap_bundle_write.specs.Tables.{WritesLines, grown_as}
use Rattle.ap_bundle.proofs.TableLemmas.{grown_append, has_grown, line_grown}

pub grown_as_append : (v : Version) (table ts us : List NominalTerm) → grown_as v table (ts ++ us) ≡ grown_as v (grown_as v table ts) us
grown_as_append One table ts us = refl
grown_as_append Two table ts us = grown_append table ts us

pub grown_as_none : (v : Version) (table : List NominalTerm) → grown_as v table [] ≡ table
grown_as_none One table = refl
grown_as_none Two table = refl

abbrev pub Way : Type 0
Way = NominalTerm → List ℕ

-- text without terms
pub plain : (v : Version) (table : List NominalTerm) (out more text : List ℕ) → more ≡ out ++ text → WritesLines v table table out more [] (λ way. text)
plain v table out more text e = record { table = sym (grown_as_none v table); text = λ rest. e }

pub full_term : (table : List NominalTerm) (out more : List ℕ) (t : NominalTerm) → more ≡ out ++ term_line t → WritesLines One table table out more (t ∷ []) (λ way. way t)
full_term table out more t e = record { table = refl; text = λ rest. e }

pub shared_term : (old new : List NominalTerm) (out more : List ℕ) (t : NominalTerm) → new ≡ grown old (t ∷ []) → more ≡ out ++ counted_line head.R (line_of new t) → WritesLines Two old new out more (t ∷ []) (λ way. way t)
shared_term old new out more t g e = record {
  table = g;
  text = λ rest. e ∙ ap (λ n. out ++ counted_line head.R n) (ap (λ us. line_of us t) g ∙ sym (ap (λ us. line_of (grown us rest) t) g ∙ line_grown (grown old (t ∷ [])) rest t (has_grown old t)));
}

-- one after another
pub follows : (v : Version) (old mid new : List NominalTerm) (out between more : List ℕ) (ts us : List NominalTerm) (f g : Way → List ℕ)
    → WritesLines v old mid out between ts f → WritesLines v mid new between more us g → WritesLines v old new out more (ts ++ us) (λ way. f way ++ g way)
follows v old mid new out between more ts us f g first second = record {
  table = second.table ∙ ap (λ z. grown_as v z us) first.table ∙ sym (grown_as_append v old ts us);
  text = λ rest.
      let later : grown_as v mid (us ++ rest) ≡ grown_as v new rest = grown_as_append v mid us rest ∙ ap (λ z. grown_as v z rest) (sym second.table) in
      second.text rest ∙ ap (λ z. z ++ g (written_line_as v (grown_as v new rest))) (first.text (us ++ rest) ∙ ap (λ z. out ++ f (written_line_as v z)) later)
      ∙ append_assoc out (f (written_line_as v (grown_as v new rest))) (g (written_line_as v (grown_as v new rest)));
}

-- what was written so far, and what is left, are all
pub record Writing (v : Version) (first now : List NominalTerm) (start out : List ℕ) (all left : List NominalTerm) (whole rest : Way → List ℕ) : Type 0 where
  pub table : grown_as v now left ≡ grown_as v first all
  pub text : (later : List NominalTerm) → out ++ rest (written_line_as v (grown_as v (grown_as v first all) later)) ≡ start ++ whole (written_line_as v (grown_as v (grown_as v first all) later))

pub writing_on : (v : Version) (first table new : List NominalTerm) (start out more : List ℕ) (all lefts left ts : List NominalTerm) (whole rests rest f : Way → List ℕ)
    → lefts ≡ ts ++ left → ((way : Way) → rests way ≡ f way ++ rest way) → WritesLines v table new out more ts f
    → Writing v first table start out all lefts whole rests → Writing v first new start more all left whole rest
writing_on v first table new start out more all lefts left ts whole rests rest f e d wrote before =
    let same : grown_as v new left ≡ grown_as v first all = ap (λ z. grown_as v z left) wrote.table ∙ sym (grown_as_append v table ts left) ∙ ap (grown_as v table) (sym e) ∙ before.table in
    record {
      table = same;
      text = λ later.
          let way = written_line_as v (grown_as v (grown_as v first all) later) in
          let then : grown_as v new (left ++ later) ≡ grown_as v (grown_as v first all) later = grown_as_append v new left later ∙ ap (λ z. grown_as v z later) same in
          ap (λ z. z ++ rest way) (wrote.text (left ++ later) ∙ ap (λ z. out ++ f (written_line_as v z)) then) ∙ append_assoc out (f way) (rest way) ∙ ap (λ z. out ++ z) (sym (d way)) ∙ before.text later;
    }

pub writing_ends : (v : Version) (first table : List NominalTerm) (start out : List ℕ) (all lefts : List NominalTerm) (whole rests : Way → List ℕ)
    → lefts ≡ [] → ((way : Way) → rests way ≡ []) → Writing v first table start out all lefts whole rests → WritesLines v first table start out all whole
writing_ends v first table start out all lefts whole rests e d before =
    let end : table ≡ grown_as v first all = sym (ap (grown_as v table) e ∙ grown_as_none v table) ∙ before.table in
    record {
      table = end;
      text = λ later.
          let way = written_line_as v (grown_as v (grown_as v first all) later) in
          sym (append-nil out) ∙ ap (λ z. out ++ z) (sym (d way)) ∙ before.text later ∙ ap (λ z. start ++ whole (written_line_as v (grown_as v z later))) (sym end);
    }

pub writing_begins : (v : Version) (table : List NominalTerm) (out : List ℕ) (all : List NominalTerm) (whole : Way → List ℕ) → Writing v table table out out all all whole whole
writing_begins v table out all whole = record { table = refl; text = λ later. refl }

next_of : {A : Type 0} (xs : List A) (i : ℕ) (x : A) → i < length xs → x ≡ get_or xs i x → drop i xs ≡ x ∷ drop (i + 1) xs
next_of xs i x h e = rw (add-one, drop-cons xs i x) (ap (λ z. z ∷ drop (suc i) xs) (sym e))

none_left : {A : Type 0} (xs : List A) (i : ℕ) → length xs ≤ i → drop i xs ≡ []
none_left [] zero h = refl
none_left [] (suc i) h = refl
none_left (x ∷ xs) zero h = absurd (omega arith)
none_left (x ∷ xs) (suc i) h = none_left xs i (omega arith)

-- an item by itself
pub item_at : {A : Type 0} (xs : List A) (i : ℕ) (d : A) → i < length xs → get_or xs i d ≡ get_or xs i (get_or xs i d)
item_at [] i d h = absurd (omega arith)
item_at (x ∷ xs) zero d h = refl
item_at (x ∷ xs) (suc i) d h = item_at xs i d (omega (arith, h))

-- loops over things that have terms
module _ {A N : Type 0} (view : A → N) (terms : N → List NominalTerm) (text : Way → N → List ℕ) (v : Version) (first : List NominalTerm) (start : List ℕ) (xs : List A) where
  abbrev pub EachWriting : List NominalTerm → List ℕ → ℕ → Type 0
  EachWriting table out i = Writing v first table start out (flat_map terms (map view xs)) (flat_map terms (map view (drop i xs))) (λ way. flat_map (text way) (map view xs)) (λ way. flat_map (text way) (map view (drop i xs)))

  pub each_on : (table new : List NominalTerm) (out more : List ℕ) (i : ℕ) (x : A) → i < length xs → x ≡ get_or xs i x → WritesLines v table new out more (terms (view x)) (λ way. text way (view x))
      → EachWriting table out i → EachWriting new more (i + 1)
  each_on table new out more i x h is wrote before =
      let e = next_of xs i x h is in
      writing_on v first table new start out more (flat_map terms (map view xs)) (flat_map terms (map view (drop i xs))) (flat_map terms (map view (drop (i + 1) xs))) (terms (view x))
      (λ way. flat_map (text way) (map view xs)) (λ way. flat_map (text way) (map view (drop i xs))) (λ way. flat_map (text way) (map view (drop (i + 1) xs))) (λ way. text way (view x))
      (ap (λ ys. flat_map terms (map view ys)) e) (λ way. ap (λ ys. flat_map (text way) (map view ys)) e) wrote before

  pub each_ends : (table : List NominalTerm) (out : List ℕ) (i : ℕ) → length xs ≤ i → EachWriting table out i → WritesLines v first table start out (flat_map terms (map view xs)) (λ way. flat_map (text way) (map view xs))
  each_ends table out i h before =
      let e = none_left xs i h in
      writing_ends v first table start out (flat_map terms (map view xs)) (flat_map terms (map view (drop i xs))) (λ way. flat_map (text way) (map view xs)) (λ way. flat_map (text way) (map view (drop i xs)))
      (ap (λ ys. flat_map terms (map view ys)) e) (λ way. ap (λ ys. flat_map (text way) (map view ys)) e) before

-- a loop over terms
module _ {A : Type 0} (view : A → NominalTerm) (v : Version) (first : List NominalTerm) (start : List ℕ) (xs : List A) where
  abbrev pub TermsWriting : List NominalTerm → List ℕ → ℕ → Type 0
  TermsWriting table out i = Writing v first table start out (map view xs) (map view (drop i xs)) (λ way. flat_map way (map view xs)) (λ way. flat_map way (map view (drop i xs)))

  pub terms_on : (table new : List NominalTerm) (out more : List ℕ) (i : ℕ) (x : A) → i < length xs → x ≡ get_or xs i x → WritesLines v table new out more (view x ∷ []) (λ way. way (view x))
      → TermsWriting table out i → TermsWriting new more (i + 1)
  terms_on table new out more i x h is wrote before =
      let e = next_of xs i x h is in
      writing_on v first table new start out more (map view xs) (map view (drop i xs)) (map view (drop (i + 1) xs)) (view x ∷ [])
      (λ way. flat_map way (map view xs)) (λ way. flat_map way (map view (drop i xs))) (λ way. flat_map way (map view (drop (i + 1) xs))) (λ way. way (view x))
      (ap (map view) e) (λ way. ap (λ ys. flat_map way (map view ys)) e) wrote before

  pub terms_end : (table : List NominalTerm) (out : List ℕ) (i : ℕ) → length xs ≤ i → TermsWriting table out i → WritesLines v first table start out (map view xs) (λ way. flat_map way (map view xs))
  terms_end table out i h before =
      let e = none_left xs i h in
      writing_ends v first table start out (map view xs) (map view (drop i xs)) (λ way. flat_map way (map view xs)) (λ way. flat_map way (map view (drop i xs)))
      (ap (map view) e) (λ way. ap (λ ys. flat_map way (map view ys)) e) before

-- the lines of a table
pub entries_text : (table ts : List NominalTerm) → flat_map (head_line head.T) (map (entry_words table) ts) ≡ flat_map (entry_line table) ts
entries_text table [] = refl
entries_text table (t ∷ ts) = ap (λ z. entry_line table t ++ z) (entries_text table ts)

pub mapped : {A B : Type 0} (f : A → B) (xs : List A) → length (map f xs) ≡ length xs
mapped f [] = refl
mapped f (x ∷ xs) = ap suc (mapped f xs)

-- the parts of a bundle, one behind another
pub whole_full : (start text part out more slice : List ℕ) → out ≡ start ++ text → slice ≡ part → more ≡ out ++ slice → more ≡ start ++ (text ++ part)
whole_full start text part out more slice e d f = f ∙ ap₂ (λ x y. x ++ y) e d ∙ append_assoc start text part

pub whole_shared : (start text table part out mid more slice : List ℕ) → out ≡ start ++ text → mid ≡ out ++ table → slice ≡ part → more ≡ mid ++ slice → more ≡ start ++ (text ++ (table ++ part))
whole_shared start text table part out mid more slice e m d f =
    f ∙ ap₂ (λ x y. x ++ y) (m ∙ ap (λ z. z ++ table) e) d ∙ append_assoc (start ++ text) table part ∙ append_assoc start text (table ++ part)
