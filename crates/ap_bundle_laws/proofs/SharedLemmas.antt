-- Bundles of version 2 are read as they are written, and their prefixes are unended.
use Rattle.std.proofs.Common.{◌≡◌, ℕ, ◌+◌, ◌-◌, ◌<◌, ◌≤◌, ◌^◌, false, nat_lt, List, [], ◌∷◌, ◌++◌, length, Some, Ok, Err, refl, ap, sym, subst, ◌∙◌, append_assoc, arith, rules, flat_map, length-append}
use Rattle.std.specs.Prelude.{codes}
use Rattle.std.proofs.lemmas.Bool.{le-ltb}
use Rattle.std.proofs.lemmas.List.{append-nil}
use Rattle.ap_defs.specs.declared.terms.Swap.{Swap}
use Rattle.ap_defs.specs.Terms as terms
use Rattle.ap_defs.specs.Terms.{NominalTerm}
use Rattle.ap_bundle.specs.declared.faults.BundleKind.TheVariants.{Header, Term}
use Rattle.ap_bundle.specs.declared.version.Version.TheVariants.{Two}
use Rattle.ap_bundle.specs.declared.words.Head.TheVariants as head
use Rattle.ap_bundle.specs.declared.words.Word.TheVariants as word
use Rattle.ap_bundle.specs.Forms.{swap_words}
use Rattle.ap_bundle.specs.LineForms.{after_head, first_form}
use Rattle.ap_bundle.specs.Bundles.{NominalBundle}
use Rattle.ap_bundle.specs.Tables.{expanded_size, size_of_all, line_of, Has, HasParts, entry_words, terms_of, table_of}
use Rattle.ap_bundle.specs.TableForms.{numbers, earlier, name_entry, pair_entry, app_entry, abs_entry, susp_entry, entry_form, read_cited, read_entries, shared_form, read_shared}
use Rattle.ap_bundle.specs.Readers.{◌>>=◌, unended, read_form}
use Rattle.ap_bundle.specs.Written.{head_line, counted_line, entry_line, shared_line, proved_part, shared_part, written_shared}
use Rattle.ap_bundle.specs.Reading.{TableReader, read_count, read_rest, read_shared_rest, read_at, room_at_first}
use Rattle.ap_bundle.proofs.TableLemmas.{has_at, words_more}
use Rattle.ap_bundle_laws.specs.Laws.{Each, FitsTerm, FitsBundle, HasRoom, HasRoomEach}
use Rattle.ap_bundle_laws.proofs.GoodLemmas.{at, IsGood, good_then, free, room_for, room_free}
use Rattle.ap_bundle_laws.proofs.WordLemmas.{Fits}
use Rattle.ap_bundle_laws.proofs.FormLemmas.{small_again, name_again, swaps_again, swap_numbers}
use Rattle.ap_bundle_laws.proofs.LineLemmas.{good_line, good_form, good_count, term_fits}
use Rattle.ap_bundle_laws.proofs.BundleLemmas.{IsLast, last_then, last_rest, last_at, each_proved}
use Rattle.ap_bundle_laws.proofs.OrderLemmas.{Ordered, ordered_all, line_within, table_fits, table_length}

swap_values : (ss : List Swap) (n : ℕ) → numbers (flat_map swap_words ss ++ word.Number n ∷ []) ≡ Some (swap_numbers ss ++ n ∷ [])
swap_values [] n = refl
swap_values (s ∷ ss) n = rw (swap_values ss n) refl

earlier_again : (table : List NominalTerm) (t : NominalTerm) (ns : List ℕ) → Has table t → earlier table (line_of table t ∷ ns) ≡ Some (t, ns)
unfolding earlier
earlier_again table t ns h = rw (has_at table t h) refl

-- a line of the table is read as its term
entry_again : (table : List NominalTerm) (t : NominalTerm) → HasParts table t → FitsTerm t → entry_form table (word.Head head.T ∷ entry_words table t) ≡ Some t
unfolding entry_form after_head name_entry pair_entry app_entry abs_entry susp_entry
entry_again table terms.unit p h = refl
entry_again table (terms.name a) p h = rw (name_again a [] h) refl
entry_again table (terms.pair t u) p h = rw (earlier_again table t (line_of table u ∷ []) p.0, earlier_again table u [] p.1) refl
entry_again table (terms.app f t) p h = rw (small_again f (line_of table t ∷ []) h.0, earlier_again table t [] p) refl
entry_again table (terms.abs a t) p h = rw (name_again a (line_of table t ∷ []) h.0, earlier_again table t [] p) refl
entry_again table (terms.susp ss x) p h = rw (swap_values ss x.num, swaps_again ss (x.num ∷ []) h.0.1) refl

entry_fits : (table : List NominalTerm) (t : NominalTerm) → length table < 2 ^ 64 → HasParts table t → FitsTerm t → Each Fits (entry_words table t)
entry_fits table terms.unit l p h = term_fits terms.unit h
entry_fits table (terms.name a) l p h = term_fits (terms.name a) h
entry_fits table (terms.pair t u) l p h = (tt, (omega (arith, line_within table t p.0), (omega (arith, line_within table u p.1), tt)))
entry_fits table (terms.app f t) l p h = (tt, (omega (arith, h.0), (omega (arith, line_within table t p), tt)))
entry_fits table (terms.abs a t) l p h = (tt, (omega (arith, h.0.0), (h.0.1, (omega (arith, line_within table t p), tt))))
entry_fits table (terms.susp ss x) l p h = term_fits (terms.susp ss x) h

good_entry : (table : List NominalTerm) (room : ℕ) (t : NominalTerm) → length table < 2 ^ 64 → HasParts table t → FitsTerm t → IsGood (read_form Term (entry_form table)) room room (entry_line table t) t
good_entry table room t l p h = good_form Term (entry_form table) room (word.Head head.T) (entry_words table t) t (tt, entry_fits table t l p h) (entry_again table t p h)

-- the table, line by line
good_entries : (room : ℕ) (front ts : List NominalTerm) → length (front ++ ts) < 2 ^ 64 → Ordered front ts → Each FitsTerm ts
    → IsGood (read_entries (length ts) front) room room (flat_map (entry_line (front ++ ts)) ts) (front ++ ts)
unfolding read_entries
good_entries room front [] l o h = record {
  whole = λ rest. ap (λ z. Ok (z, at rest room)) (sym (append-nil front));
  part = λ v u e some. absurd (omega (arith, ap length e, length-append v u));
}
good_entries room front (t ∷ ts) l o h =
    let regroup = append_assoc front (t ∷ []) ts in
    let long : length front < 2 ^ 64 = omega (arith, l, ap length regroup, length-append front (t ∷ ts)) in
    let words : entry_words (front ++ (t ∷ ts)) t ≡ entry_words front t = words_more front (t ∷ ts) t o.0 in
    let first : IsGood (read_form Term (entry_form front)) room room (entry_line (front ++ (t ∷ ts)) t) t =
    subst (λ ws. IsGood (read_form Term (entry_form front)) room room (head_line head.T ws) t) (sym words) (good_entry front room t long o.0 h.0) in
    let more = good_entries room (front ++ t ∷ []) ts (subst (λ us. length us < 2 ^ 64) (sym regroup) l) o.1 h.1 in
    let others : IsGood (read_entries (length ts) (front ++ t ∷ [])) room room (flat_map (entry_line (front ++ (t ∷ ts))) ts) (front ++ (t ∷ ts)) =
    subst (λ us. IsGood (read_entries (length ts) (front ++ t ∷ [])) room room (flat_map (entry_line us) ts) us) regroup more in
    good_then (read_form Term (entry_form front)) (λ u p. read_entries (length ts) (front ++ u ∷ []) p) room room room (entry_line (front ++ (t ∷ ts)) t) (flat_map (entry_line (front ++ (t ∷ ts))) ts) t (front ++ (t ∷ ts)) first others

-- the line of a term is read as the term, and takes its room
abbrev before : NominalTerm → ℕ → ℕ
before t left = expanded_size t + left

shared_again : (table : List NominalTerm) (t : NominalTerm) → Has table t → shared_form table (word.Head head.R ∷ word.Number (line_of table t) ∷ []) ≡ Some t
unfolding shared_form after_head
shared_again table t h = rw (has_at table t h) refl

good_shared : (table : List NominalTerm) → length table < 2 ^ 64 → (left : ℕ) (t : NominalTerm) → Has table t → IsGood (read_shared table) (before t left) left (shared_line table t) t
unfolding read_shared
good_shared table l left t h =
    let small : line_of table t < 2 ^ 64 = omega (arith, line_within table t h) in
    let good = good_form Term (shared_form table) (before t left) (word.Head head.R) (word.Number (line_of table t) ∷ []) t (tt, (small, tt)) (shared_again table t h) in
    let fits : nat_lt (expanded_size t + left) (expanded_size t) ≡ false = le-ltb (expanded_size t + left) (expanded_size t) (omega arith) in
    let less : expanded_size t + left - expanded_size t ≡ left = omega arith in
    record {
      whole = λ rest. rw (good.whole rest, fits, less) refl;
      part = λ v u e some. rw (good.part v u e some) refl;
    }

room_sum : (ts : List NominalTerm) (left : ℕ) → room_for before ts left ≡ size_of_all ts + left
room_sum [] left = omega arith
room_sum (t ∷ ts) left = omega (arith, room_sum ts left)

-- the same where each term may be as large, and takes no room
abbrev pub Small : List NominalTerm → NominalTerm → Type 0
Small table t = Has table t × (expanded_size t ≤ room_at_first)

good_cited : (table : List NominalTerm) → length table < 2 ^ 64 → (left : ℕ) (t : NominalTerm) → Small table t → IsGood (read_cited table) (free t left) left (shared_line table t) t
unfolding read_cited
good_cited table l left t h =
    let small : line_of table t < 2 ^ 64 = omega (arith, line_within table t h.0) in
    let good = good_form Term (shared_form table) left (word.Head head.R) (word.Number (line_of table t) ∷ []) t (tt, (small, tt)) (shared_again table t h.0) in
    let fits : nat_lt room_at_first (expanded_size t) ≡ false = le-ltb room_at_first (expanded_size t) h.1 in
    record {
      whole = λ rest. rw (good.whole rest, fits) refl;
      part = λ v u e some. rw (good.part v u e some) refl;
    }

-- a bundle behind its table, by any reader of the table's lines
module _ (shared : TableReader) (before : NominalTerm → ℕ → ℕ) (P : List NominalTerm → NominalTerm → Type 0)
    (good : (table : List NominalTerm) → length table < 2 ^ 64 → (left : ℕ) (t : NominalTerm) → P table t → IsGood (shared table) (before t left) left (shared_line table t) t) where
  last_part : (left : ℕ) (b : NominalBundle) → FitsBundle b → length (table_of b.proved) < 2 ^ 64 → Each (P (table_of b.proved)) (flat_map terms_of b.proved)
      → IsLast (read_shared_rest shared) (room_for before (flat_map terms_of b.proved) left) (shared_part (table_of b.proved) b.proved) b.proved
  unfolding read_shared_rest after_head
  last_part left b h few each =
      let ts = flat_map terms_of b.proved in
      let table = table_of b.proved in
      let room = room_for before ts left in
      let ordered = ordered_all ts [] tt in
      let count = good_count head.Terms room (length table) few refl in
      let entries = good_entries room [] table few ordered.0 (table_fits ts (each_proved b.proved h.1.1)) in
      let rest = last_rest (shared table) (shared_line table) before (P table) (good table few) left b.proved h.1 each in
      let behind = last_then (read_entries (length table) []) (λ us p. read_rest (shared us) p) room room (flat_map (entry_line table) table) (proved_part (shared_line table) b.proved) table b.proved entries rest in
      let all = last_then (read_count head.Terms) (λ n p. read_entries n [] p >>= λ us. read_rest (shared us.0) us.1) room room (counted_line head.Terms (length table)) (flat_map (entry_line table) table ++ proved_part (shared_line table) b.proved) (length table) b.proved count behind in
      subst (λ w. IsLast (read_shared_rest shared) room w b.proved) (sym (append_assoc (counted_line head.Terms (length table)) (flat_map (entry_line table) table) (proved_part (shared_line table) b.proved))) all

  -- and all of it
  last_bundle : (left room : ℕ) (b : NominalBundle) → FitsBundle b → length (table_of b.proved) < 2 ^ 64 → Each (P (table_of b.proved)) (flat_map terms_of b.proved)
      → room_for before (flat_map terms_of b.proved) left ≡ room → IsLast (read_at shared) room (written_shared b) b
  unfolding first_form
  last_bundle left room b h few each enough =
      let version = good_line Header first_form room (codes "alphaprolog bundle 2") Two (search rules) refl in
      last_at shared Two room b (shared_part (table_of b.proved) b.proved) h (subst (λ n. IsLast (read_shared_rest shared) n (shared_part (table_of b.proved) b.proved) b.proved) enough (last_part left b h few each)) version

module _ (b : NominalBundle) (h : FitsBundle b) (fits : HasRoom b) where
  last_shared : IsLast (read_at read_shared) room_at_first (written_shared b) b
  last_shared =
      let ts = flat_map terms_of b.proved in
      let left = room_at_first - size_of_all ts in
      let few : length (table_of b.proved) < 2 ^ 64 = omega (arith, table_length ts, fits) in
      let enough : room_for before ts left ≡ room_at_first = room_sum ts left ∙ omega (arith, fits) in
      last_bundle read_shared before Has good_shared left room_at_first b h few (ordered_all ts [] tt).1 enough

  pub again : read_at read_shared (at (written_shared b) room_at_first) ≡ Ok b
  again = let last = last_shared in last.whole

  pub prefix : (v u : List ℕ) → written_shared b ≡ v ++ u → 0 < length u → read_at read_shared (at v room_at_first) ≡ Err unended
  prefix = let last = last_shared in last.part

each_small : (table ts : List NominalTerm) → Each (Has table) ts → Each (λ t. expanded_size t ≤ room_at_first) ts → Each (Small table) ts
each_small table [] h small = tt
each_small table (t ∷ ts) h small = ((h.0, small.0), each_small table ts h.1 small.1)

module _ (b : NominalBundle) (h : FitsBundle b) (fits : HasRoomEach b) where
  last_cited : IsLast (read_at read_cited) room_at_first (written_shared b) b
  last_cited =
      let ts = flat_map terms_of b.proved in
      last_bundle read_cited free Small good_cited room_at_first room_at_first b h fits.few (each_small (table_of b.proved) ts (ordered_all ts [] tt).1 fits.small) (room_free ts room_at_first)

  pub cited_again : read_at read_cited (at (written_shared b) room_at_first) ≡ Ok b
  cited_again = let last = last_cited in last.whole

  pub cited_prefix : (v u : List ℕ) → written_shared b ≡ v ++ u → 0 < length u → read_at read_cited (at v room_at_first) ≡ Err unended
  cited_prefix = let last = last_cited in last.part

-- no term is larger than all together
each_together : (ts : List NominalTerm) (n : ℕ) → size_of_all ts ≤ n → Each (λ t. expanded_size t ≤ n) ts
each_together [] n few = tt
each_together (t ∷ ts) n few = (omega (arith, few), each_together ts n (omega (arith, few)))

pub room_each : (b : NominalBundle) → HasRoom b → HasRoomEach b
room_each b fits = record {
  few = omega (arith, table_length (flat_map terms_of b.proved), fits);
  small = each_together (flat_map terms_of b.proved) room_at_first fits;
}
