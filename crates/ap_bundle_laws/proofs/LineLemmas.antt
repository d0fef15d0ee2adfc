-- Lines are read as they are written.
use Rattle.std.proofs.Common.{◌≡◌, ℕ, ◌<◌, ◌^◌, ◌==◌, true, List, [], ◌∷◌, ◌++◌, length, map, Option, None, Some, refl, ap, sym, ◌∙◌, append_assoc, arith, nat_lt, lt-ltb, length-append}
use Rattle.std.specs.List.{flat_map, join_with_byte}
use Rattle.ap_defs.specs.declared.terms.Name.{Name}
use Rattle.ap_defs.specs.declared.terms.Var.{Var}
use Rattle.ap_defs.specs.declared.terms.Cond.{Cond}
use Rattle.ap_defs.specs.declared.terms.Swap.{Swap}
use Rattle.ap_defs.specs.Terms as terms
use Rattle.ap_defs.specs.Terms.{NominalTerm}
use Rattle.ap_defs.specs.Types as types
use Rattle.ap_defs.specs.Types.{NominalType}
use Rattle.ap_bundle.specs.declared.faults.BundleKind.{BundleKind}
use Rattle.ap_bundle.specs.declared.faults.BundleKind.TheVariants.{Header, Term}
use Rattle.ap_bundle.specs.declared.words.Head.{Head}
use Rattle.ap_bundle.specs.declared.words.Head.TheVariants as head
use Rattle.ap_bundle.specs.declared.words.Word.{Word}
use Rattle.ap_bundle.specs.declared.words.Word.TheVariants as word
use Rattle.ap_bundle.specs.Words.{line, line_words, word_text}
use Rattle.ap_bundle.specs.Forms.{term_words, type_words, name_words, swap_words}
use Rattle.ap_bundle.specs.LineForms.{small_number, name, after_head, count_form, query_form, var_form, cond_form, name_form, term_form, end_form}
use Rattle.ap_bundle.specs.Readers.{first_line, read_line, read_form}
use Rattle.ap_bundle.specs.Written.{head_line, counted_line, var_line, cond_line, name_line, term_line}
use Rattle.ap_bundle.specs.Reading.{read_count, read_name, read_term}
use Rattle.ap_bundle_laws.specs.Laws.{Each, FitsName, FitsSwap, FitsCond, FitsVar, FitsTerm, FitsType}
use Rattle.ap_bundle_laws.proofs.GoodLemmas.{IsGood}
use Rattle.ap_bundle_laws.proofs.WordLemmas.{lacks, Fits, line_words_again, joined_lacks_lf}
use Rattle.ap_bundle_laws.proofs.FormLemmas.{term_again, type_again}

-- a line is cut off whole
cut_off : (bs rest : List ℕ) → lacks 10 bs → first_line (bs ++ (10 ∷ rest)) ≡ Some (bs, rest)
cut_off [] rest h = refl
cut_off (b ∷ bs) rest h = rw (h.0, cut_off bs rest h.1) refl

-- without an LF nothing is
no_line : (bs : List ℕ) → lacks 10 bs → first_line bs ≡ None
no_line [] h = refl
no_line (b ∷ bs) h = rw (h.0, no_line bs h.1) refl

-- a proper prefix of a line has no LF
prefix_lacks : (bs v u : List ℕ) → lacks 10 bs → bs ++ 10 ∷ [] ≡ v ++ u → 0 < length u → lacks 10 v
prefix_lacks bs [] u h e some = tt
prefix_lacks [] (c ∷ v) u h e some = absurd (omega (arith, ap length e, length-append v u))
prefix_lacks (b ∷ bs) (c ∷ v) u h e some =
    let heads : b ≡ c = cc in
    let tails : bs ++ 10 ∷ [] ≡ v ++ u = cc in
    (ap (λ (z : ℕ). z == 10) (sym heads) ∙ h.0, prefix_lacks bs v u h.1 tails some)

pub good_line : {A : Type 0} (kind : BundleKind) (form : List ℕ → Option A) (room : ℕ) (bs : List ℕ) (x : A) → lacks 10 bs → form bs ≡ Some x
    → IsGood (read_line kind form) room room (bs ++ 10 ∷ []) x
unfolding read_line
good_line kind form room bs x h e = record {
  whole = λ rest. rw (append_assoc bs (10 ∷ []) rest, cut_off bs rest h, e) refl;
  part = λ v u eq some. rw (no_line v (prefix_lacks bs v u h eq some)) refl;
}

pub good_form : {A : Type 0} (kind : BundleKind) (form : List Word → Option A) (room : ℕ) (w : Word) (ws : List Word) (x : A) → Each Fits (w ∷ ws) → form (w ∷ ws) ≡ Some x
    → IsGood (read_form kind form) room room (line (w ∷ ws)) x
unfolding read_form line
good_form kind form room w ws x h e =
    let words = good_line kind line_words room (join_with_byte 32 (map word_text (w ∷ ws))) (w ∷ ws) (joined_lacks_lf w ws h) (line_words_again w ws h) in
    record {
      whole = λ rest. rw (words.whole rest, e) refl;
      part = λ v u eq some. rw (words.part v u eq some) refl;
    }

pub each_append : (xs ys : List Word) → Each Fits xs → Each Fits ys → Each Fits (xs ++ ys)
each_append [] ys h k = k
each_append (x ∷ xs) ys h k = (h.0, each_append xs ys h.1 k)

pub name_fits : (a : Name) → FitsName a → Each Fits (name_words a)
name_fits a h = (omega (arith, h.0), (h.1, tt))

pub small_read : (n : ℕ) (ws : List Word) → n < 2 ^ 32 → small_number (word.Number n ∷ ws) ≡ Some (n, ws)
unfolding small_number
small_read n ws h = let yes : nat_lt n (2 ^ 32) ≡ true = lt-ltb n (2 ^ 32) h in rw yes refl

pub name_read : (a : Name) (ws : List Word) → FitsName a → name (name_words a ++ ws) ≡ Some (a, ws)
unfolding name
name_read a ws h = rw (small_read a.sort (word.Number a.num ∷ ws) h.0) refl

pub good_count : (h : Head) (room n : ℕ) → n < 2 ^ 64 → after_head h (word.Head h ∷ word.Number n ∷ []) ≡ Some (word.Number n ∷ []) → IsGood (read_count h) room room (counted_line h n) n
unfolding count_form
good_count h room n small e = good_form Header (count_form h) room (word.Head h) (word.Number n ∷ []) n (tt, (small, tt)) (rw e refl)

pub good_query : (room n : ℕ) → n < 2 ^ 32 → IsGood (read_form Header query_form) room room (counted_line head.Derivation n) n
unfolding query_form after_head
good_query room n h = good_form Header query_form room (word.Head head.Derivation) (word.Number n ∷ []) n (tt, (omega arith, tt)) (rw (small_read n [] h) refl)

pub good_name : (room : ℕ) (a : Name) → FitsName a → IsGood read_name room room (name_line a) a
unfolding name_form after_head
good_name room a h = good_form Term name_form room (word.Head head.M) (name_words a) a (tt, name_fits a h) (rw (name_read a [] h) refl)

pub good_cond : (room : ℕ) (c : Cond) → FitsCond c → IsGood (read_form Term cond_form) room room (cond_line c) c
unfolding cond_form after_head
good_cond room c h =
    good_form Term cond_form room (word.Head head.C) (name_words c.name ++ word.Number c.var.num ∷ []) c (tt, each_append (name_words c.name) (word.Number c.var.num ∷ []) (name_fits c.name h.0) (h.1, tt))
    (rw (name_read c.name (word.Number c.var.num ∷ []) h.0) refl)

pub type_fits : (t : NominalType) → FitsType t → Each Fits (type_words t)
type_fits types.unit h = (tt, tt)
type_fits (types.names s) h = (tt, (omega arith, tt))
type_fits (types.base d) h = (tt, (omega arith, tt))
type_fits (types.pair t u) h = (tt, each_append (type_words t) (type_words u) (type_fits t h.0) (type_fits u h.1))
type_fits (types.list t) h = (tt, type_fits t h)
type_fits (types.abs s t) h = (tt, (omega (arith, h.0), type_fits t h.1))

swaps_fit : (ss : List Swap) → Each FitsSwap ss → Each Fits (flat_map swap_words ss)
swaps_fit [] h = tt
swaps_fit (s ∷ ss) h = (omega (arith, h.0.0), (h.0.1, (h.0.2, swaps_fit ss h.1)))

pub term_fits : (t : NominalTerm) → FitsTerm t → Each Fits (term_words t)
term_fits terms.unit h = (tt, tt)
term_fits (terms.name a) h = (tt, name_fits a h)
term_fits (terms.pair t u) h = (tt, each_append (term_words t) (term_words u) (term_fits t h.0) (term_fits u h.1))
term_fits (terms.app f t) h = (tt, (omega (arith, h.0), term_fits t h.1))
term_fits (terms.abs a t) h = (tt, each_append (name_words a) (term_words t) (name_fits a h.0) (term_fits t h.1))
term_fits (terms.susp ss x) h = (tt, (h.0.0, each_append (flat_map swap_words ss) (word.Number x.num ∷ []) (swaps_fit ss h.0.1) (h.1, tt)))

pub good_var : (room : ℕ) (v : Var × NominalType) → FitsVar v → IsGood (read_form Term var_form) room room (var_line v) v
unfolding var_form after_head
good_var room v h =
    good_form Term var_form room (word.Head head.V) (word.Number v.0.num ∷ type_words v.1) v (tt, (h.0, type_fits v.1 h.1)) (rw (type_again v.1 h.1) refl)

pub good_term : (room : ℕ) (t : NominalTerm) → FitsTerm t → IsGood read_term room room (term_line t) t
unfolding term_form after_head
good_term room t h = good_form Term term_form room (word.Head head.T) (term_words t) t (tt, term_fits t h) (rw (term_again t h) refl)

pub good_end : (room : ℕ) → IsGood (read_form Header end_form) room room (head_line head.End []) []
unfolding end_form after_head
good_end room = good_form Header end_form room (word.Head head.End) [] [] (tt, tt) refl
