-- Steps of the loops that read.
use Rattle.std.proofs.Common.{◌≡◌, ℕ, zero, suc, ◌+◌, List, [], ◌∷◌, ◌++◌, Option, None, Some, Ok, Err, refl, ap, ap₂, sym, ◌∙◌, add-one, map, append_assoc, drop, drop-cons, get_or, length, ◌<◌}
use Rattle.std.proofs.lemmas.List.{append-nil}
use Rattle.std.specs.Option.{option_map}
use Rattle.ap_defs.specs.declared.terms.Swap.{Swap}
use Rattle.ap_defs.specs.Terms.{NominalTerm}
use Rattle.ap_bundle.specs.declared.words.Word.{Word}
use Rattle.ap_bundle.specs.Words.{word_of, words_spelled}
use Rattle.ap_bundle.specs.Forms.{a_swap, swaps, with_swaps, Onto, forms}
use Rattle.ap_bundle.specs.Nodes.{Node, children}
use Rattle.ap_bundle.specs.declared.faults.BundleKind.TheVariants.{Term}
use Rattle.ap_bundle.specs.declared.words.Word.TheVariants as words
use Rattle.ap_bundle.specs.TableForms.{numbers, entry_form, read_entries}
use Rattle.ap_bundle.specs.Readers.{Unread, Wrong, Reader, with_front, unended, read_form}
use Rattle.ap_bundle.specs.Reading.{read_node, read_nodes}
use Rattle.ap_bundle_read.proofs.RepeatLemmas.{with_front-append}

with_swaps-append : (front more : List Swap) (read : Option (List Swap × List ℕ)) → with_swaps front (with_swaps more read) ≡ with_swaps (front ++ more) read
with_swaps-append front more None = refl
with_swaps-append front more (Some x) = ap (λ all. Some (all, x.1)) (sym (append_assoc front more x.0))

pub with_swaps-nil : (read : Option (List Swap × List ℕ)) → with_swaps [] read ≡ read
with_swaps-nil None = refl
with_swaps-nil (Some x) = refl

pub swaps_on : (n k : ℕ) (front : List Swap) (ns ms : List ℕ) (s : Swap) → n ≡ suc k → a_swap ns ≡ Some (s, ms) → with_swaps (front ++ s ∷ []) (swaps k ms) ≡ with_swaps front (swaps n ns)
swaps_on n k front ns ms s e got = rw (e, got) (sym (with_swaps-append front (s ∷ []) (swaps k ms)))

pub swaps_fail : (n k : ℕ) (front : List Swap) (ns : List ℕ) → n ≡ suc k → a_swap ns ≡ None → with_swaps front (swaps n ns) ≡ None
swaps_fail n k front ns e got = rw (e, got) refl

words_on : (front : List Word) (text : List ℕ) (texts : List (List ℕ)) (w : Word) → word_of text ≡ Some w
    → option_map (λ ws. (front ++ w ∷ []) ++ ws) (words_spelled texts) ≡ option_map (λ ws. front ++ ws) (words_spelled (text ∷ texts))
words_on front text texts w got = rw got (joined (words_spelled texts))
  where
    joined : (o : Option (List Word)) → option_map (λ ws. (front ++ w ∷ []) ++ ws) o ≡ option_map (λ ws. front ++ ws) (option_map (λ ws. w ∷ ws) o)
    joined None = refl
    joined (Some ws) = ap Some (append_assoc front (w ∷ []) ws)

words_fail : (front : List Word) (text : List ℕ) (texts : List (List ℕ)) → word_of text ≡ None → option_map (λ ws. front ++ ws) (words_spelled (text ∷ texts)) ≡ None
words_fail front text texts got = rw got refl

-- the words so far, and those of the texts that are left
module _ {X : Type 0} (view : X → List ℕ) (texts : List X) (i : ℕ) (d : X) (h : i < length texts) (front : List Word) (whole : Option (List Word))
    (so_far : option_map (λ ws. front ++ ws) (words_spelled (map view (drop i texts))) ≡ whole) where
  all_left : option_map (λ ws. front ++ ws) (words_spelled (view (get_or texts i d) ∷ map view (drop (suc i) texts))) ≡ whole
  all_left = ap (λ ts. option_map (λ ws. front ++ ws) (words_spelled (map view ts))) (sym (drop-cons texts i d h)) ∙ so_far

  pub words_next : (all : List Word) (w : Word) → word_of (view (get_or texts i d)) ≡ Some w → all ≡ front ++ w ∷ []
      → option_map (λ ws. all ++ ws) (words_spelled (map view (drop (i + 1) texts))) ≡ whole
  words_next all w got put =
      ap₂ (λ (bs : List Word) (j : ℕ). option_map (λ ws. bs ++ ws) (words_spelled (map view (drop j texts)))) put (add-one i)
      ∙ words_on front (view (get_or texts i d)) (map view (drop (suc i) texts)) w got ∙ all_left

  pub words_stop : word_of (view (get_or texts i d)) ≡ None → None ≡ whole
  words_stop got = sym (words_fail front (view (get_or texts i d)) (map view (drop (suc i) texts)) got) ∙ all_left

nodes_step : (term : Reader NominalTerm) (b k : ℕ) (front : List (Node NominalTerm)) (p q : Unread) (n : Node NominalTerm) → read_node term p ≡ Ok (n, q)
    → with_front (front ++ n ∷ []) (read_nodes term b (k + children n) q) ≡ with_front front (read_nodes term (suc b) (suc k) p)
unfolding read_nodes
nodes_step term b k front p q n got = rw got (sym (with_front-append front (n ∷ []) (read_nodes term b (k + children n) q)))

pub nodes_on : (term : Reader NominalTerm) (bound b wanted k more : ℕ) (front : List (Node NominalTerm)) (p q : Unread) (n : Node NominalTerm) → bound ≡ suc b → wanted ≡ suc k → more ≡ k + children n
    → read_node term p ≡ Ok (n, q) → with_front (front ++ n ∷ []) (read_nodes term b more q) ≡ with_front front (read_nodes term bound wanted p)
nodes_on term bound b wanted k more front p q n e d m got = rw (e, d, m) (nodes_step term b k front p q n got)

nodes_stop : (term : Reader NominalTerm) (b k : ℕ) (front : List (Node NominalTerm)) (p : Unread) (w : Wrong) → read_node term p ≡ Err w → with_front front (read_nodes term (suc b) (suc k) p) ≡ Err w
unfolding read_nodes
nodes_stop term b k front p w got = rw got refl

pub nodes_fail : (term : Reader NominalTerm) (bound b wanted k : ℕ) (front : List (Node NominalTerm)) (p : Unread) (w : Wrong) → bound ≡ suc b → wanted ≡ suc k → read_node term p ≡ Err w
    → with_front front (read_nodes term bound wanted p) ≡ Err w
nodes_fail term bound b wanted k front p w e d got = rw (e, d) (nodes_stop term b k front p w got)

-- where words at the end are no forms, all of them are none
pub forms_none : {T : Type 0} (onto : Onto T) (i : ℕ) (ws : List Word) → forms onto (drop i ws) ≡ None → forms onto ws ≡ None
forms_none onto zero ws h = h
forms_none onto (suc i) [] h = h
forms_none onto (suc i) (w ∷ ws) h = rw (forms_none onto i ws h) refl

pub nodes_done : (term : Reader NominalTerm) (bound wanted : ℕ) (front : List (Node NominalTerm)) (p : Unread) → wanted ≡ 0 → with_front front (read_nodes term bound wanted p) ≡ Ok (front, p)
unfolding read_nodes
nodes_done term bound wanted front p e = rw e (ap (λ all. Ok (all, p)) (append-nil front))

nodes_short : (term : Reader NominalTerm) (k : ℕ) (front : List (Node NominalTerm)) (p : Unread) → with_front front (read_nodes term zero (suc k) p) ≡ Err unended
unfolding read_nodes
nodes_short term k front p = refl

pub nodes_unended : (term : Reader NominalTerm) (bound wanted k : ℕ) (front : List (Node NominalTerm)) (p : Unread) → bound ≡ 0 → wanted ≡ suc k → with_front front (read_nodes term bound wanted p) ≡ Err unended
nodes_unended term bound wanted k front p e d = rw (e, d) (nodes_short term k front p)

-- a line of the table
pub entries_on : (n k : ℕ) (table : List NominalTerm) (p q : Unread) (t : NominalTerm) → n ≡ suc k → read_form Term (entry_form table) p ≡ Ok (t, q) → read_entries k (table ++ t ∷ []) q ≡ read_entries n table p
unfolding read_entries
entries_on n k table p q t e got = rw (e, read_entries, got) refl

pub entries_fail : (n k : ℕ) (table : List NominalTerm) (p : Unread) (w : Wrong) → n ≡ suc k → read_form Term (entry_form table) p ≡ Err w → read_entries n table p ≡ Err w
unfolding read_entries
entries_fail n k table p w e got = rw (e, read_entries, got) refl

pub entries_end : (n : ℕ) (table : List NominalTerm) (p : Unread) → n ≡ 0 → read_entries n table p ≡ Ok (table, p)
unfolding read_entries
entries_end n table p e = rw e refl

-- where words at the end are no numbers, all of them are none
pub numbers_none : (i : ℕ) (ws : List Word) → numbers (drop i ws) ≡ None → numbers ws ≡ None
numbers_none zero ws h = h
numbers_none (suc i) [] h = h
numbers_none (suc i) (words.Number n ∷ ws) h = rw (numbers_none i ws h) refl
numbers_none (suc i) (words.Letter l ∷ ws) h = refl
numbers_none (suc i) (words.Node k ∷ ws) h = refl
numbers_none (suc i) (words.Head h' ∷ ws) h = refl

pub numbers_stop : (i : ℕ) (ws : List Word) (d w : Word) → i < length ws → get_or ws i d ≡ w → numbers (w ∷ drop (suc i) ws) ≡ None → numbers ws ≡ None
numbers_stop i ws d w h e none = numbers_none i ws (rw (drop-cons ws i d, e) none)
