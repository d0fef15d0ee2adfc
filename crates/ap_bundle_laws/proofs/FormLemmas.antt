-- Terms and types are read as their words.
use Rattle.std.proofs.Common.{◌≡◌, ℕ, ◌<◌, ◌^◌, true, List, [], ◌∷◌, ◌++◌, length, Option, Some, refl, sym, append_assoc, nat_lt, lt-ltb}
use Rattle.std.proofs.lemmas.List.{append-nil}
use Rattle.std.specs.List.{flat_map}
use Rattle.ap_defs.specs.declared.terms.Name.{Name}
use Rattle.ap_defs.specs.declared.terms.Swap.{Swap}
use Rattle.ap_defs.specs.Terms as terms
use Rattle.ap_defs.specs.Terms.{NominalTerm}
use Rattle.ap_defs.specs.Types as types
use Rattle.ap_defs.specs.Types.{NominalType}
use Rattle.ap_bundle.specs.declared.words.Word.{Word}
use Rattle.ap_bundle.specs.declared.words.Word.TheVariants as word
use Rattle.ap_bundle.specs.Forms.{term_words, type_words, swap_words, Forms, small, a_name, a_swap, swaps, name_onto, pair_onto, app_onto, abs_onto, susp_onto, term_onto, names_onto, base_onto, pair_type_onto, list_onto, abs_type_onto, type_onto, forms, form}
use Rattle.ap_bundle_laws.specs.Laws.{Each, FitsName, FitsSwap, FitsTerm, FitsType}

pub small_again : (n : ℕ) (ns : List ℕ) → n < 2 ^ 32 → small (n ∷ ns) ≡ Some (n, ns)
unfolding small
small_again n ns h = let yes : nat_lt n (2 ^ 32) ≡ true = lt-ltb n (2 ^ 32) h in rw yes refl

pub name_again : (a : Name) (ns : List ℕ) → FitsName a → a_name (a.sort ∷ a.num ∷ ns) ≡ Some (a, ns)
unfolding a_name
name_again a ns h = rw (small_again a.sort (a.num ∷ ns) h.0) refl

swap_again : (s : Swap) (ns : List ℕ) → FitsSwap s → a_swap (s.sort ∷ s.left ∷ s.right ∷ ns) ≡ Some (s, ns)
unfolding a_swap
swap_again s ns h = rw (small_again s.sort (s.left ∷ s.right ∷ ns) h.0) refl

abbrev pub swap_numbers : List Swap → List ℕ
swap_numbers [] = []
swap_numbers (s ∷ ss) = s.sort ∷ s.left ∷ s.right ∷ swap_numbers ss

pub swaps_again : (ss : List Swap) (ns : List ℕ) → Each FitsSwap ss → swaps (length ss) (swap_numbers ss ++ ns) ≡ Some (ss, ns)
swaps_again [] ns h = refl
swaps_again (s ∷ ss) ns h = rw (swap_again s (swap_numbers ss ++ ns) h.0, swaps_again ss ns h.1) refl

abbrev behind : {T : Type 0} → List ℕ → List T → Option (Forms T)
behind ns ts = Some (record { numbers = ns; whole = ts })

-- the words of swappings, before numbers and terms
swaps_behind : (ss : List Swap) (ws : List Word) (ns : List ℕ) (ts : List NominalTerm) → forms term_onto ws ≡ behind ns ts
    → forms term_onto (flat_map swap_words ss ++ ws) ≡ behind (swap_numbers ss ++ ns) ts
swaps_behind [] ws ns ts e = e
swaps_behind (s ∷ ss) ws ns ts e = rw (swaps_behind ss ws ns ts e) refl

-- the words of a term, before terms
pub term_behind : (t : NominalTerm) (ws : List Word) (ts : List NominalTerm) → FitsTerm t → forms term_onto ws ≡ behind [] ts → forms term_onto (term_words t ++ ws) ≡ behind [] (t ∷ ts)
unfolding name_onto pair_onto app_onto abs_onto susp_onto
term_behind terms.unit ws ts h e = rw e refl
term_behind (terms.name a) ws ts h e = rw (e, name_again a [] h) refl
term_behind (terms.pair t u) ws ts h e =
    let right = term_behind u ws ts h.1 e in
    let left = term_behind t (term_words u ++ ws) (u ∷ ts) h.0 right in
    rw (append_assoc (term_words t) (term_words u) ws, left) refl
term_behind (terms.app f t) ws ts h e = rw (term_behind t ws ts h.1 e, small_again f [] h.0) refl
term_behind (terms.abs a t) ws ts h e = rw (term_behind t ws ts h.1 e, name_again a [] h.0) refl
term_behind (terms.susp ss x) ws ts h e =
    let num : forms term_onto (word.Number x.num ∷ ws) ≡ behind (x.num ∷ []) ts = rw e refl in
    let all = swaps_behind ss (word.Number x.num ∷ ws) (x.num ∷ []) ts num in
    rw (append_assoc (flat_map swap_words ss) (word.Number x.num ∷ []) ws, all, swaps_again ss (x.num ∷ []) h.0.1) refl

pub term_again : (t : NominalTerm) → FitsTerm t → form term_onto (term_words t) ≡ Some t
unfolding form
term_again t h = let e = term_behind t [] [] h refl in rw (sym (append-nil (term_words t)), e) refl

pub type_behind : (t : NominalType) (ws : List Word) (ts : List NominalType) → FitsType t → forms type_onto ws ≡ behind [] ts → forms type_onto (type_words t ++ ws) ≡ behind [] (t ∷ ts)
unfolding names_onto base_onto pair_type_onto list_onto abs_type_onto
type_behind types.unit ws ts h e = rw e refl
type_behind (types.names s) ws ts h e = rw (e, small_again s [] h) refl
type_behind (types.base d) ws ts h e = rw (e, small_again d [] h) refl
type_behind (types.pair t u) ws ts h e =
    let right = type_behind u ws ts h.1 e in
    let left = type_behind t (type_words u ++ ws) (u ∷ ts) h.0 right in
    rw (append_assoc (type_words t) (type_words u) ws, left) refl
type_behind (types.list t) ws ts h e = rw (type_behind t ws ts h e) refl
type_behind (types.abs s t) ws ts h e = rw (type_behind t ws ts h.1 e, small_again s [] h.0) refl

pub type_again : (t : NominalType) → FitsType t → form type_onto (type_words t) ≡ Some t
unfolding form
type_again t h = let e = type_behind t [] [] h refl in rw (sym (append-nil (type_words t)), e) refl
