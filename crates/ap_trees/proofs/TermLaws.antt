-- What is read is in the grammar of terms, and what is in it is read.
use Rattle.std.proofs.Common.{◌≡◌, ℕ, zero, suc, ◌<◌, ◌≤◌, List, [], ◌∷◌, length, Option, None, Some, IfSome, refl, sym, ◌∙◌, arith, subst}
use Rattle.ap_trees.specs.Readers.{SymbolReader, with_before, further, separated, after_comma, after_lambda, after_close, after_close_list, at_end, after_open}
use Rattle.ap_trees.specs.declared.symbols.Symbol.{Symbol}
use Rattle.ap_trees.specs.Symbols.{Sym, Swap, Var, Ident, Open, Close, OpenList, CloseList, Comma, Bar, Lambda, syms, sym as symbol}
use Rattle.ap_trees.specs.TermReader.{read_id, side, both_sides, swapped, abstraction, list_within, application, word_term, variable, group, list_end, full_list, list_of, read_term, all_term}
use Rattle.ap_trees.specs.Terms.{Name, Swapped, Term, OfWord, OfVar, Unit, Variable, Word, Apply, Nil, Abs, argument_terms, tuple, cells}
use Rattle.ap_trees.specs.TermGrammar.{IsTerm, IsEnd, AreTerms, a_variable, a_word, under, applied, the_unit, grouped, the_nil, listed, swapping, IsId, an_ident, a_var, no_bar, behind_bar, only_one, and_more}
use Rattle.std.proofs.lemmas.List.{length-map}
use Rattle.ap_trees.proofs.Lists.{some_is}
use Rattle.ap_trees.proofs.TypeLaws.{bind_if, close_is, close_list_is, read_sole, read_several}

pub if_also : {A : Type 0} (r : Option A) (P Q : A → Type 0) → IfSome r P → ((x : A) → P x → Q x) → IfSome r Q
if_also None P Q p also = tt
if_also (Some x) P Q p also = also x p

pub open_is : (ts : List Sym) → IfSome (after_open ts) (λ us. ts ≡ Open ∷ us)
open_is (Open ∷ us) = refl
open_is ts = tt

pub comma_is : (ts : List Sym) → IfSome (after_comma ts) (λ us. ts ≡ Comma ∷ us)
comma_is (Comma ∷ us) = refl
comma_is ts = tt

abbrev pub Sound : SymbolReader Term → Type 0
Sound read = (ts : List Sym) → IfSome (read ts) (λ x. IsTerm ts x.0 x.1)

further_sound : (others : SymbolReader (List Term)) → ((us : List Sym) → IfSome (others us) (λ y. AreTerms us y.0 y.1)) → (ts : List Sym) (x : Term) (after : List Sym) → IsTerm ts x after
    → IfSome (with_before (x ∷ []) (further after_comma others after)) (λ y. AreTerms ts y.0 y.1)
further_sound others sound ts x (Comma ∷ us) h = bind_if (others us) _ _ _ (sound us) (λ y g. and_more h g)
further_sound others sound ts x after h = only_one h

pub terms_sound : (read : SymbolReader Term) → Sound read → (k : ℕ) (ts : List Sym) → IfSome (separated after_comma read k ts) (λ x. AreTerms ts x.0 x.1)
unfolding separated
terms_sound read sound zero ts = tt
terms_sound read sound (suc k) ts = bind_if (read ts) _ _ _ (sound ts) (λ first h. further_sound (separated after_comma read k) (terms_sound read sound k) ts first.0 first.1 h)

within_sound : (read : SymbolReader Term) → Sound read → (ts : List Sym) → IfSome (list_within read ts) (λ x. AreTerms ts x.0 x.1)
within_sound read sound ts = terms_sound read sound (length ts) ts

variable_sound : (read : SymbolReader Term) → Sound read → (w : List ℕ) (ts : List Sym) → IfSome (variable read w ts) (λ x. IsTerm (Var w ∷ ts) x.0 x.1)
unfolding variable abstraction
variable_sound read sound w (Lambda ∷ us) = bind_if (read us) _ _ _ (sound us) (λ x h. under a_var h)
variable_sound read sound w ts = a_variable

word_sound : (read : SymbolReader Term) → Sound read → (w : List ℕ) (ts : List Sym) → IfSome (word_term read w ts) (λ x. IsTerm (Ident w ∷ ts) x.0 x.1)
unfolding word_term abstraction application
word_sound read sound w (Lambda ∷ us) = bind_if (read us) _ _ _ (sound us) (λ x h. under an_ident h)
word_sound read sound w (Open ∷ us) =
    bind_if (list_within read us) _ _ _ (within_sound read sound us)
    (λ parts h. bind_if (after_close parts.1) _ _ _ (close_is parts.1) (λ rest e. applied parts.0 (subst (AreTerms us parts.0) e h)))
word_sound read sound w ts = a_word

group_sound : (read : SymbolReader Term) → Sound read → (ts : List Sym) → IfSome (group read ts) (λ x. IsTerm (Open ∷ ts) x.0 x.1)
unfolding group
group_sound read sound (Close ∷ us) = the_unit
group_sound read sound ts =
    bind_if (list_within read ts) _ _ _ (within_sound read sound ts)
    (λ parts h. bind_if (after_close parts.1) _ _ _ (close_is parts.1) (λ rest e. grouped parts.0 (subst (AreTerms ts parts.0) e h)))

end_sound : (read : SymbolReader Term) → Sound read → (ts : List Sym) → IfSome (list_end read ts) (λ x. IsEnd ts x.0 x.1)
unfolding list_end
end_sound read sound (Bar ∷ us) = if_also (read us) _ _ (sound us) (λ x h. behind_bar h)
end_sound read sound ts = no_bar

full_sound : (read : SymbolReader Term) → Sound read → (ts : List Sym) → IfSome (full_list read ts) (λ x. IsTerm (OpenList ∷ ts) x.0 x.1)
unfolding full_list
full_sound read sound ts =
    bind_if (list_within read ts) _ _ _ (within_sound read sound ts)
    (λ parts h. bind_if (list_end read parts.1) _ _ _ (end_sound read sound parts.1)
    (λ end g. bind_if (after_close_list end.1) _ _ _ (close_list_is end.1) (λ rest e. listed parts.0 end.0 h (subst (IsEnd parts.1 end.0) e g))))

id_sound : (ts : List Sym) → IfSome (read_id ts) (λ x. IsId ts x.0 x.1)
id_sound (Ident w ∷ us) = an_ident
id_sound (Var w ∷ us) = a_var
id_sound ts = tt

side_sound : (ts : List Sym) → IfSome (side ts) (λ x. IsId ts x.0 (Comma ∷ x.1))
unfolding side
side_sound ts = bind_if (read_id ts) _ _ _ (id_sound ts) (λ name i. bind_if (after_comma name.1) _ _ _ (comma_is name.1) (λ rest e. subst (IsId ts name.0) e i))

-- both identifiers of a swapping
record AreSides (ts : List Sym) (both : Name × Name) (rest : List Sym) : Type 0 where
  inside : List Sym
  after : List Sym
  opens : ts ≡ Open ∷ inside
  left : IsId inside both.0 (Comma ∷ after)
  right : IsId after both.1 (Comma ∷ rest)

sides_sound : (ts : List Sym) → IfSome (both_sides ts) (λ x. AreSides ts x.0 x.1)
unfolding both_sides
sides_sound ts =
    bind_if (after_open ts) _ _ _ (open_is ts)
    (λ inside o. bind_if (side inside) _ _ _ (side_sound inside)
    (λ left i. bind_if (side left.1) _ _ _ (side_sound left.1) (λ right j. record { inside = inside; after = left.1; opens = o; left = i; right = j })))

swapped_sound : (read : SymbolReader Term) → Sound read → (ts : List Sym) → IfSome (swapped read ts) (λ x. IsTerm (Swap ∷ ts) x.0 x.1)
unfolding swapped
swapped_sound read sound ts =
    bind_if (both_sides ts) _ _ _ (sides_sound ts)
    (λ both s. bind_if (read both.1) _ _ _ (sound both.1)
    (λ body h. bind_if (after_close body.1) _ _ _ (close_is body.1)
    (λ rest e. subst (λ us. IsTerm (Swap ∷ us) (Swapped both.0.0 both.0.1 body.0) rest) (sym s.opens) (swapping s.left s.right (subst (IsTerm both.1 body.0) e h)))))

list_sound : (read : SymbolReader Term) → Sound read → (ts : List Sym) → IfSome (list_of read ts) (λ x. IsTerm (OpenList ∷ ts) x.0 x.1)
unfolding list_of
list_sound read sound (CloseList ∷ us) = the_nil
list_sound read sound ts = full_sound read sound ts

-- What is read is in the grammar.
pub term_sound : (n : ℕ) → Sound (read_term n)
unfolding read_term
term_sound zero ts = tt
term_sound (suc n) (Var w ∷ ts) = variable_sound (read_term n) (term_sound n) w ts
term_sound (suc n) (Ident w ∷ ts) = word_sound (read_term n) (term_sound n) w ts
term_sound (suc n) (Open ∷ ts) = group_sound (read_term n) (term_sound n) ts
term_sound (suc n) (OpenList ∷ ts) = list_sound (read_term n) (term_sound n) ts
term_sound (suc n) (Swap ∷ ts) = swapped_sound (read_term n) (term_sound n) ts
term_sound (suc n) ts = tt

id_shrinks : {ts rest : List Sym} {name : Name} → IsId ts name rest → length rest < length ts
id_shrinks an_ident = omega arith
id_shrinks a_var = omega arith

mutual
  pub term_shrinks : {ts rest : List Sym} {t : Term} → IsTerm ts t rest → length rest < length ts
  term_shrinks a_variable = omega arith
  term_shrinks a_word = omega arith
  term_shrinks (under i h) = omega (arith, id_shrinks i, term_shrinks h)
  term_shrinks (applied parts h) = omega (arith, terms_shrink h)
  term_shrinks the_unit = omega arith
  term_shrinks (grouped parts h) = omega (arith, terms_shrink h)
  term_shrinks the_nil = omega arith
  term_shrinks (listed parts end h g) = omega (arith, terms_shrink h, end_shrinks g)
  term_shrinks (swapping i j h) = omega (arith, id_shrinks i, id_shrinks j, term_shrinks h)

  end_shrinks : {ts rest : List Sym} {t : Term} → IsEnd ts t rest → length rest ≤ length ts
  end_shrinks no_bar = omega arith
  end_shrinks (behind_bar h) = omega (arith, term_shrinks h)

  pub terms_shrink : {ts rest : List Sym} {parts : List Term} → AreTerms ts parts rest → length rest < length ts
  terms_shrink (only_one h) = term_shrinks h
  terms_shrink (and_more h g) = omega (arith, term_shrinks h, terms_shrink g)

-- What follows what is read is shorter.
pub term_shorter : (n : ℕ) (ts us : List Symbol) (t : Term) → read_term n (syms ts) ≡ Some (t, syms us) → length us < length ts
term_shorter n ts us t got =
    let h : IsTerm (syms ts) t (syms us) = some_is (read_term n (syms ts)) (t, syms us) (λ x. IsTerm (syms ts) x.0 x.1) got (term_sound n (syms ts)) in
    omega (arith, term_shrinks h, length-map ts symbol, length-map us symbol)

pub terms_shorter : (n k : ℕ) (ts us : List Symbol) (parts : List Term) → separated after_comma (read_term n) k (syms ts) ≡ Some (parts, syms us) → length us < length ts
terms_shorter n k ts us parts got =
    let h : AreTerms (syms ts) parts (syms us) = some_is (separated after_comma (read_term n) k (syms ts)) (parts, syms us) (λ x. AreTerms (syms ts) x.0 x.1) got (terms_sound (read_term n) (term_sound n) k (syms ts)) in
    omega (arith, terms_shrink h, length-map ts symbol, length-map us symbol)

-- no term begins with `)` or `]`
record Begins (ts : List Sym) : Type 0 where
  round : after_close ts ≡ None
  square : after_close_list ts ≡ None

term_begins : {ts rest : List Sym} {t : Term} → IsTerm ts t rest → Begins ts
term_begins a_variable = record { round = refl; square = refl }
term_begins a_word = record { round = refl; square = refl }
term_begins (under an_ident h) = record { round = refl; square = refl }
term_begins (under a_var h) = record { round = refl; square = refl }
term_begins (applied parts h) = record { round = refl; square = refl }
term_begins the_unit = record { round = refl; square = refl }
term_begins (grouped parts h) = record { round = refl; square = refl }
term_begins the_nil = record { round = refl; square = refl }
term_begins (listed parts end h g) = record { round = refl; square = refl }
term_begins (swapping i j h) = record { round = refl; square = refl }

terms_begin : {ts rest : List Sym} {parts : List Term} → AreTerms ts parts rest → Begins ts
terms_begin (only_one h) = term_begins h
terms_begin (and_more h g) = term_begins h

-- a term may end before these symbols
pub record Ends (rest : List Sym) : Type 0 where
  pub lambda : after_lambda rest ≡ None
  pub bracket : after_open rest ≡ None

-- what may stand after the terms of a list
end_follows : {after rest : List Sym} {end : Term} → IsEnd after end (CloseList ∷ rest) → Ends after × (after_comma after ≡ None)
end_follows no_bar = (record { lambda = refl; bracket = refl }, refl)
end_follows (behind_bar h) = (record { lambda = refl; bracket = refl }, refl)

-- one step of reading for each form
read_variable : (n : ℕ) (w : List ℕ) (ts : List Sym) → Ends ts → read_term (suc n) (Var w ∷ ts) ≡ Some (Variable w, ts)
unfolding read_term variable
read_variable n w ts ends = rw ends.lambda refl

read_word : (n : ℕ) (w : List ℕ) (ts : List Sym) → Ends ts → read_term (suc n) (Ident w ∷ ts) ≡ Some (Word w, ts)
unfolding read_term word_term
read_word n w ts ends = rw (ends.lambda, ends.bracket) refl

read_under_variable : (n : ℕ) (w : List ℕ) (ts rest : List Sym) (t : Term) → read_term n ts ≡ Some (t, rest) → read_term (suc n) (Var w ∷ Lambda ∷ ts) ≡ Some (Abs (OfVar w) t, rest)
unfolding read_term variable abstraction
read_under_variable n w ts rest t got = rw got refl

read_under_word : (n : ℕ) (w : List ℕ) (ts rest : List Sym) (t : Term) → read_term n ts ≡ Some (t, rest) → read_term (suc n) (Ident w ∷ Lambda ∷ ts) ≡ Some (Abs (OfWord w) t, rest)
unfolding read_term word_term abstraction
read_under_word n w ts rest t got = rw got refl

read_applied : (n : ℕ) (w : List ℕ) (ts rest : List Sym) (parts : List Term) → separated after_comma (read_term n) (length ts) ts ≡ Some (parts, Close ∷ rest)
    → read_term (suc n) (Ident w ∷ Open ∷ ts) ≡ Some (Apply w (argument_terms parts), rest)
unfolding read_term word_term application
read_applied n w ts rest parts got = rw got refl

read_unit : (n : ℕ) (ts : List Sym) → read_term (suc n) (Open ∷ Close ∷ ts) ≡ Some (Unit, ts)
unfolding read_term group
read_unit n ts = refl

read_grouped : (n : ℕ) (ts rest : List Sym) (parts : List Term) → after_close ts ≡ None → separated after_comma (read_term n) (length ts) ts ≡ Some (parts, Close ∷ rest) → read_term (suc n) (Open ∷ ts) ≡ Some (tuple parts, rest)
unfolding read_term group
read_grouped n ts rest parts other got = rw other (rw got refl)

read_nil : (n : ℕ) (ts : List Sym) → read_term (suc n) (OpenList ∷ CloseList ∷ ts) ≡ Some (Nil, ts)
unfolding read_term list_of
read_nil n ts = refl

read_listed : (n : ℕ) (ts after rest : List Sym) (parts : List Term) (end : Term) → after_close_list ts ≡ None → separated after_comma (read_term n) (length ts) ts ≡ Some (parts, after)
    → list_end (read_term n) after ≡ Some (end, CloseList ∷ rest) → read_term (suc n) (OpenList ∷ ts) ≡ Some (cells parts end, rest)
unfolding read_term list_of full_list
read_listed n ts after rest parts end other got last = rw other (rw got (rw last refl))

read_no_bar : (n : ℕ) (rest : List Sym) → list_end (read_term n) (CloseList ∷ rest) ≡ Some (Nil, CloseList ∷ rest)
unfolding list_end
read_no_bar n rest = refl

read_behind_bar : (n : ℕ) (ts rest : List Sym) (t : Term) → read_term n ts ≡ Some (t, rest) → list_end (read_term n) (Bar ∷ ts) ≡ Some (t, rest)
unfolding list_end
read_behind_bar n ts rest t got = got

side_only : {ts rest : List Sym} {name : Name} → IsId ts name (Comma ∷ rest) → side ts ≡ Some (name, rest)
unfolding side
side_only an_ident = refl
side_only a_var = refl

read_swapped : (n : ℕ) (ts us vs rest : List Sym) (left right : Name) (t : Term) → side ts ≡ Some (left, us) → side us ≡ Some (right, vs) → read_term n vs ≡ Some (t, Close ∷ rest)
    → read_term (suc n) (Swap ∷ Open ∷ ts) ≡ Some (Swapped left right t, rest)
unfolding read_term swapped both_sides
read_swapped n ts us vs rest left right t first second got = rw first (rw second (rw got refl))

pub closes : {rest : List Sym} → Ends (Close ∷ rest)
closes = record { lambda = refl; bracket = refl }

pub closes_list : {rest : List Sym} → Ends (CloseList ∷ rest)
closes_list = record { lambda = refl; bracket = refl }

pub goes_on : {rest : List Sym} → Ends (Comma ∷ rest)
goes_on = record { lambda = refl; bracket = refl }

-- What is in the grammar is read, where neither `\\` nor `(` follows.
mutual
  pub term_only : {ts rest : List Sym} {t : Term} → IsTerm ts t rest → (n : ℕ) → length ts ≤ n → Ends rest → read_term n ts ≡ Some (t, rest)
  term_only h zero fits ends = absurd (omega (arith, term_shrinks h))
  term_only a_variable (suc n) fits ends = read_variable n _ _ ends
  term_only a_word (suc n) fits ends = read_word n _ _ ends
  term_only (under a_var h) (suc n) fits ends = read_under_variable n _ _ _ _ (term_only h n (omega arith) ends)
  term_only (under an_ident h) (suc n) fits ends = read_under_word n _ _ _ _ (term_only h n (omega arith) ends)
  term_only (applied {ts = ts} parts h) (suc n) fits ends = read_applied n _ _ _ parts (terms_only h n (length ts) (omega arith) (omega arith) closes refl)
  term_only the_unit (suc n) fits ends = read_unit n _
  term_only (grouped {ts = ts} parts h) (suc n) fits ends = read_grouped n _ _ parts (terms_begin h).round (terms_only h n (length ts) (omega arith) (omega arith) closes refl)
  term_only the_nil (suc n) fits ends = read_nil n _
  term_only (listed {ts = ts} parts end h g) (suc n) fits ends =
      let follows = end_follows g in
      read_listed n _ _ _ parts end (terms_begin h).square (terms_only h n (length ts) (omega arith) (omega arith) follows.0 follows.1) (end_only g n (omega (arith, terms_shrink h)))
  term_only (swapping i j h) (suc n) fits ends =
      read_swapped n _ _ _ _ _ _ _ (side_only i) (side_only j) (term_only h n (omega (arith, id_shrinks i, id_shrinks j)) closes)

  end_only : {ts rest : List Sym} {t : Term} → IsEnd ts t (CloseList ∷ rest) → (n : ℕ) → length ts ≤ n → list_end (read_term n) ts ≡ Some (t, CloseList ∷ rest)
  end_only no_bar n fits = read_no_bar n _
  end_only (behind_bar h) n fits = read_behind_bar n _ _ _ (term_only h n (omega arith) closes_list)

  pub terms_only : {ts rest : List Sym} {parts : List Term} → AreTerms ts parts rest → (n k : ℕ) → length ts ≤ n → length ts ≤ k → Ends rest → after_comma rest ≡ None
      → separated after_comma (read_term n) k ts ≡ Some (parts, rest)
  terms_only h n zero fits few ends stops = absurd (omega (arith, terms_shrink h))
  terms_only (only_one h) n (suc k) fits few ends stops = read_sole after_comma (read_term n) k _ _ _ (term_only h n fits ends) stops
  terms_only (and_more h g) n (suc k) fits few ends stops =
      read_several after_comma (read_term n) k _ _ _ _ _ _ (term_only h n fits goes_on) refl (terms_only g n k (omega (arith, term_shrinks h)) (omega (arith, term_shrinks h)) ends stops)

at_end_sound : {ts : List Sym} {x : Term} (rest : List Sym) → IsTerm ts x rest → IfSome (at_end x rest) (λ t. IsTerm ts t [])
at_end_sound [] h = h
at_end_sound (t ∷ rest) h = tt

pub all_sound : (ts : List Sym) → IfSome (all_term ts) (λ t. IsTerm ts t [])
unfolding all_term
all_sound ts = bind_if (read_term (length ts) ts) _ _ _ (term_sound (length ts) ts) (λ x h. at_end_sound x.1 h)

pub at_last : Ends []
at_last = record { lambda = refl; bracket = refl }

pub all_only : (ts : List Sym) (t : Term) → IsTerm ts t [] → all_term ts ≡ Some t
unfolding all_term
all_only ts t h = rw (term_only h (length ts) (omega arith) at_last) refl

-- There is one reading.
pub one_term : {ts : List Sym} {t u : Term} → IsTerm ts t [] → IsTerm ts u [] → t ≡ u
one_term {ts} {t} {u} h g = let both : Some t ≡ Some u = sym (all_only ts t h) ∙ all_only ts u g in cc both
