-- One item more, or a faulty one.
use Rattle.std.proofs.Common.{◌≡◌, inl, inr, ℕ, zero, suc, ◌+◌, ◌<◌, ◌≤◌, length, drop, take, get_or, List, [], ◌∷◌, ◌++◌, None, refl, sym, ap, subst, ◌∙◌, arith, append-nil, append_assoc, length-append, take-append-drop}
use Rattle.std.proofs.lemmas.List.{map-append}
use Rattle.ap_defs.specs.RawTerms.{RawTerm}
use Rattle.ap_defs.specs.Goals.{ProgramOver}
use Rattle.ap_defs.specs.Limits.{size_limit}
use Rattle.ap_defs.specs.declared.faults.Place.{Place}
use Rattle.ap_defs.specs.declared.faults.TypeFault.{TypeFault}
use Rattle.ap_trees.specs.Items.{ItemOf}
use Rattle.ap_trees.specs.declared.trees.Item.{Item}
use Rattle.ap_trees.specs.Trees.{item_of, items_of_text}
use Rattle.ap_scopes.specs.Flaws.{item_flaw}
use Rattle.ap_scopes.specs.Views.{words_in, IsSmall}
use Rattle.ap_scopes.specs.Words.{saying_words, text_words, with_words, words_of}
use Rattle.ap_scopes.proofs.Tables.{with_words_append}
use Rattle.ap_typecheck.specs.declared.error.Refusal.{Refusal}
use Rattle.ap_typecheck.specs.declared.error.Refusal.TheVariants as refusals
use Rattle.ap_typecheck.specs.declared.texts.Typing.{Typing}
use Rattle.ap_typecheck.specs.Views.{AreTablesKept, IsRefusedItem, IsRefusedByTypes, made_of, made_count, text_error}
use Rattle.ap_typecheck.specs.Declaring.{Made, nothing_made, program_made}
use Rattle.ap_typecheck.specs.Checking.{Says, Makes, MakesAll, IsTypeFaultOf, IsFaultAmong, IsProgramOf}
use Rattle.ap_typecheck.specs.Typings.{IsTypingOf}
use Rattle.ap_typecheck.proofs.Counting.{all_count}

-- one more at the end
makes_on : (m : Made) (n : ℕ) (is : List ItemOf) (between : Made) (i : ItemOf) (after : Made) → MakesAll m n is between → Makes between (n + length is) i after → MakesAll m n (is ++ i ∷ []) after
makes_on m n [] between i after e h =
    let same : n + 0 ≡ n = omega arith in
    (after, subst (λ x. Makes x n i after) e (subst (λ k. Makes between k i after) same h), refl)
makes_on m n (j ∷ js) between i after e h =
    let same : n + suc (length js) ≡ suc n + length js = omega arith in
    (e.0, e.1, makes_on e.0 (suc n) js between i after e.2 (subst (λ k. Makes between k i after) same h))

fault_on : (m : Made) (n : ℕ) (is : List ItemOf) (between : Made) (i : ItemOf) (more : List ItemOf) (f : TypeFault) → MakesAll m n is between → f.place ≡ record { item = n + length is; line = i.line }
    → IsTypeFaultOf f.kind between.declared i.form → IsFaultAmong m n (is ++ i ∷ more) f
fault_on m n [] between i more f e place kind =
    let same : n + 0 ≡ n = omega arith in
    inl (subst (λ k. f.place ≡ record { item = k; line = i.line }) same place, subst (λ (x : Made). IsTypeFaultOf f.kind x.declared i.form) e kind)
fault_on m n (j ∷ js) between i more f e place kind =
    let same : n + suc (length js) ≡ suc n + length js = omega arith in
    inr (e.0, e.1, fault_on e.0 (suc n) js between i more f e.2 (subst (λ k. f.place ≡ record { item = k; line = i.line }) same place) kind)

refused_on : (e : Refusal) (is more : List ItemOf) (between : Made) (i : ItemOf) (at : Place) → MakesAll nothing_made 1 is between → at ≡ record { item = 1 + length is; line = i.line }
    → IsRefusedItem e between.declared i.form → IsRefusedByTypes (text_error e at) (is ++ i ∷ more)
refused_on (refusals.Kind k) is more between i at made place h = fault_on nothing_made 1 is between i more (record { place = at; kind = k }) made place h
refused_on refusals.Memory is more between i at made place h = tt

text_words-more : (is : List ItemOf) (i : ItemOf) → text_words (is ++ i ∷ []) ≡ text_words is ++ saying_words i.form
text_words-more [] i = append-nil (saying_words i.form)
text_words-more (j ∷ js) i = ap (λ ws. saying_words j.form ++ ws) (text_words-more js i) ∙ sym (append_assoc (saying_words j.form) (text_words js) (saying_words i.form))

-- the words of one item more
words_on : (is : List ItemOf) (i : ItemOf) → words_of (is ++ i ∷ []) ≡ with_words (words_of is) (saying_words i.form)
words_on is i = ap (with_words []) (text_words-more is i) ∙ with_words_append [] (text_words is) (saying_words i.form)

-- a typing with one item more
pub typing_on : (old new : Typing) (is : List ItemOf) (i : ItemOf) → IsTypingOf is old → item_flaw (made_of old.state).declared i.form ≡ None → Says (made_of old.state) (old.items + 1) i.line i.form (made_of new.state)
    → words_in new.words ≡ with_words (words_in old.words) (saying_words i.form) → new.items ≡ old.items + 1 → AreTablesKept new.state → IsTypingOf (is ++ i ∷ []) new
typing_on old new is i t flawless says words items kept =
    let number : old.items + 1 ≡ 1 + length is = omega (arith, t.count) in
    record {
      made = makes_on nothing_made 1 is (made_of old.state) i (made_of new.state) t.made (flawless, subst (λ n. Says (made_of old.state) n i.line i.form (made_of new.state)) number says);
      words = words ∙ ap (λ ws. with_words ws (saying_words i.form)) t.words ∙ sym (words_on is i);
      count = omega (arith, items, t.count, length-append is (i ∷ []));
      kept = kept;
    }

-- an item that makes nothing
pub typing_refused : (e : Refusal) (old : Typing) (is more : List ItemOf) (i : ItemOf) (at : Place) → IsTypingOf is old → at ≡ record { item = old.items + 1; line = i.line }
    → IsRefusedItem e (made_of old.state).declared i.form → IsRefusedByTypes (text_error e at) (is ++ i ∷ more)
typing_refused e old is more i at t place h =
    let number : old.items + 1 ≡ 1 + length is = omega (arith, t.count) in
    refused_on e is more (made_of old.state) i at t.made (subst (λ n. at ≡ record { item = n; line = i.line }) number place) h

-- what a typing declares is few
pub typing_small : (old : Typing) (is : List ItemOf) → IsTypingOf is old → length is ≤ size_limit → IsSmall old.state.declared
typing_small old is t few =
    let made : made_count (made_of old.state) ≤ size_limit = omega (arith, all_count nothing_made 1 is (made_of old.state) t.made, few) in
    omega (arith, made)

-- the program of a typing
pub typing_program : (old : Typing) (is : List ItemOf) (p : ProgramOver RawTerm) → IsTypingOf is old → p ≡ program_made (words_in old.words) (made_of old.state) → IsProgramOf is p
typing_program old is p t e = (made_of old.state, t.made, e ∙ ap (λ ws. program_made ws (made_of old.state)) t.words)

dropped-suc : (xs : List Item) (i : ℕ) (x : Item) → i < length xs → x ≡ get_or xs i x → items_of_text (drop i xs) ≡ item_of x ∷ items_of_text (drop (suc i) xs)
dropped-suc [] i x l e = absurd (omega arith)
dropped-suc (y ∷ ys) zero x l e = ap (λ z. item_of z ∷ items_of_text ys) (sym e)
dropped-suc (y ∷ ys) (suc i) x l e = dropped-suc ys i x (omega arith) e

pub dropped : (xs : List Item) (i : ℕ) (x : Item) → i < length xs → x ≡ get_or xs i x → items_of_text (drop i xs) ≡ item_of x ∷ items_of_text (drop (i + 1) xs)
dropped xs i x l e = dropped-suc xs i x l e ∙ ap (λ j. item_of x ∷ items_of_text (drop j xs)) (let k : suc i ≡ i + 1 = omega arith in k)

taken-suc : (xs : List Item) (i : ℕ) (x : Item) → i < length xs → x ≡ get_or xs i x → items_of_text (take (suc i) xs) ≡ items_of_text (take i xs) ++ item_of x ∷ []
taken-suc [] i x l e = absurd (omega arith)
taken-suc (y ∷ ys) zero x l e = ap (λ z. item_of z ∷ []) (sym e)
taken-suc (y ∷ ys) (suc i) x l e = ap (λ is. item_of y ∷ is) (taken-suc ys i x (omega arith) e)

pub taken : (xs : List Item) (i : ℕ) (x : Item) → i < length xs → x ≡ get_or xs i x → items_of_text (take (i + 1) xs) ≡ items_of_text (take i xs) ++ item_of x ∷ []
taken xs i x l e = ap (λ j. items_of_text (take j xs)) (let k : i + 1 ≡ suc i = omega arith in k) ∙ taken-suc xs i x l e

-- all items, around one
pub around : (xs : List Item) (i : ℕ) (x : Item) → i < length xs → x ≡ get_or xs i x → items_of_text (take i xs) ++ item_of x ∷ items_of_text (drop (i + 1) xs) ≡ items_of_text xs
around xs i x l e = ap (λ is. items_of_text (take i xs) ++ is) (sym (dropped xs i x l e)) ∙ sym (map-append item_of (take i xs) (drop i xs)) ∙ ap items_of_text (take-append-drop i xs)
