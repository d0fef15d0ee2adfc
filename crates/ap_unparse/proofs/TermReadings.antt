-- A term that is written is in the grammar.
use Rattle.std.proofs.Common.{◌≡◌, ℕ, List, [], ◌∷◌, ◌++◌, refl, sym, ap, ◌∙◌, subst, append_assoc, append-nil}
use Rattle.ap_trees.specs.Symbols.{Sym}
use Rattle.ap_trees.specs.Terms.{Name, OfWord, OfVar, Term, Terms, Unit, Variable, Word, Apply, Pair, Nil, Cell, Abs, Swapped, Last, More, argument_terms, tuple, cells}
use Rattle.ap_trees.specs.TermGrammar.{IsId, an_ident, a_var, IsTerm, under, a_word, applied, a_variable, the_unit, grouped, the_nil, listed, swapping, IsEnd, no_bar, behind_bar, AreTerms, only_one, and_more}
use Rattle.ap_unparse.specs.declared.context.Context.TheVariants.{Whole, Part, Rest}
use Rattle.ap_unparse.specs.Written.{Written, ident, comma, round_open, round_close, square_open, square_close, bar, lambda_word, swap, symbols_of}
use Rattle.ap_unparse.specs.WrittenTerms.{written_name, term_at, arguments_of, written_term}

-- the parts of a tuple, of arguments, and of a list before its end
abbrev pub parts_of : Term → List Term
parts_of (Pair t u) = t ∷ parts_of u
parts_of t = t ∷ []

abbrev pub given : Terms → List Term
given (Last t) = t ∷ []
given (More t ts) = t ∷ given ts

abbrev pub heads_of : Term → List Term
heads_of (Cell t u) = t ∷ heads_of u
heads_of t = []

abbrev pub end_of : Term → Term
end_of (Cell t u) = end_of u
end_of t = t

tuple_more : (t u : Term) → tuple (t ∷ parts_of u) ≡ Pair t (tuple (parts_of u))
tuple_more t Unit = refl
tuple_more t (Variable w) = refl
tuple_more t (Word w) = refl
tuple_more t (Apply w args) = refl
tuple_more t (Pair a b) = refl
tuple_more t Nil = refl
tuple_more t (Cell a b) = refl
tuple_more t (Abs n a) = refl
tuple_more t (Swapped l r a) = refl

tuple-parts_of : (t : Term) → tuple (parts_of t) ≡ t
tuple-parts_of Unit = refl
tuple-parts_of (Variable w) = refl
tuple-parts_of (Word w) = refl
tuple-parts_of (Apply w args) = refl
tuple-parts_of (Pair t u) = tuple_more t u ∙ ap (λ v. Pair t v) (tuple-parts_of u)
tuple-parts_of Nil = refl
tuple-parts_of (Cell a b) = refl
tuple-parts_of (Abs n a) = refl
tuple-parts_of (Swapped l r a) = refl

given_more : (t : Term) (ts : Terms) → argument_terms (t ∷ given ts) ≡ More t (argument_terms (given ts))
given_more t (Last u) = refl
given_more t (More u ts) = refl

arguments-given : (ts : Terms) → argument_terms (given ts) ≡ ts
arguments-given (Last t) = refl
arguments-given (More t ts) = given_more t ts ∙ ap (λ us. More t us) (arguments-given ts)

cells-heads_of : (t : Term) → cells (heads_of t) (end_of t) ≡ t
cells-heads_of Unit = refl
cells-heads_of (Variable w) = refl
cells-heads_of (Word w) = refl
cells-heads_of (Apply w args) = refl
cells-heads_of (Pair a b) = refl
cells-heads_of Nil = refl
cells-heads_of (Cell a b) = ap (λ v. Cell a v) (cells-heads_of b)
cells-heads_of (Abs n a) = refl
cells-heads_of (Swapped l r a) = refl

-- The first element of a list is written, then the rest of the list, and then more.
pub record Lists (vs : List Written) (h t : Term) (ws : List Written) : Type 0 where
  pub after : List Sym
  pub elements : AreTerms (symbols_of (vs ++ (term_at Rest t ++ ws))) (h ∷ heads_of t) after
  pub end : IsEnd after (end_of t) (symbols_of ws)

abbrev pub Alone : List Written → Term → Type 0
Alone vs t = (ws : List Written) → IsTerm (symbols_of (vs ++ ws)) t (symbols_of ws)

-- Before anything that is written next it is a spelling of the term: alone, as the end of a tuple, and as the rest of a list.
pub record Spells (t : Term) : Type 0 where
  pub alone : Alone (term_at Whole t) t
  pub inner : (ws : List Written) → AreTerms (symbols_of (term_at Part t ++ ws)) (parts_of t) (symbols_of ws)
  pub further : (vs : List Written) (h : Term) (ws : List Written) → Alone vs h → Lists vs h t ws

pub record SpellsAll (ts : Terms) : Type 0 where
  pub all : (ws : List Written) → AreTerms (symbols_of (arguments_of ts ++ ws)) (given ts) (symbols_of ws)

is_name : (name : Name) (ws : List Written) → IsId (symbols_of (written_name name ∷ ws)) name (symbols_of ws)
is_name (OfWord w) ws = an_ident
is_name (OfVar w) ws = a_var

-- the rest of a list that is written behind a bar
behind : (t : Term) → Alone (term_at Whole t) t → heads_of t ≡ [] → end_of t ≡ t → term_at Rest t ≡ bar ∷ term_at Whole t
    → (vs : List Written) (h : Term) (ws : List Written) → Alone vs h → Lists vs h t ws
behind t alone heads end text vs h ws first = record {
  after = symbols_of (bar ∷ (term_at Whole t ++ ws));
  elements =
      subst (λ us. AreTerms (symbols_of (vs ++ (us ++ ws))) (h ∷ heads_of t) (symbols_of (bar ∷ (term_at Whole t ++ ws)))) (sym text)
      (subst (λ hs. AreTerms (symbols_of (vs ++ (bar ∷ (term_at Whole t ++ ws)))) (h ∷ hs) (symbols_of (bar ∷ (term_at Whole t ++ ws)))) (sym heads) (only_one (first (bar ∷ (term_at Whole t ++ ws)))));
  end = subst (λ e. IsEnd (symbols_of (bar ∷ (term_at Whole t ++ ws))) e (symbols_of ws)) (sym end) (behind_bar (alone ws));
}

simple : (t : Term) → Alone (term_at Whole t) t → parts_of t ≡ t ∷ [] → term_at Part t ≡ term_at Whole t → heads_of t ≡ [] → end_of t ≡ t → term_at Rest t ≡ bar ∷ term_at Whole t → Spells t
simple t alone parts part heads end text = record {
  alone = alone;
  inner = λ ws.
      subst (λ us. AreTerms (symbols_of (us ++ ws)) (parts_of t) (symbols_of ws)) (sym part)
      (subst (λ ps. AreTerms (symbols_of (term_at Whole t ++ ws)) ps (symbols_of ws)) (sym parts) (only_one (alone ws)));
  further = behind t alone heads end text;
}

pair_inner : (t u : Term) → Spells t → Spells u → (ws : List Written) → AreTerms (symbols_of (term_at Part (Pair t u) ++ ws)) (t ∷ parts_of u) (symbols_of ws)
pair_inner t u first second ws =
    let same : term_at Part (Pair t u) ++ ws ≡ term_at Whole t ++ comma ∷ (term_at Part u ++ ws) = append_assoc (term_at Whole t) (comma ∷ term_at Part u) ws in
    subst (λ vs. AreTerms (symbols_of vs) (t ∷ parts_of u) (symbols_of ws)) (sym same) (and_more (first.alone (comma ∷ (term_at Part u ++ ws))) (second.inner ws))

pair_alone : (t u : Term) → Spells t → Spells u → Alone (term_at Whole (Pair t u)) (Pair t u)
pair_alone t u first second ws =
    let inside = term_at Part (Pair t u) in
    let same : (inside ++ round_close ∷ []) ++ ws ≡ inside ++ round_close ∷ ws = append_assoc inside (round_close ∷ []) ws in
    let whole = grouped (t ∷ parts_of u) (pair_inner t u first second (round_close ∷ ws)) in
    subst (λ v. IsTerm (symbols_of (term_at Whole (Pair t u) ++ ws)) v (symbols_of ws)) (tuple_more t u ∙ ap (λ v. Pair t v) (tuple-parts_of u))
    (subst (λ vs. IsTerm (symbols_of (round_open ∷ vs)) (tuple (t ∷ parts_of u)) (symbols_of ws)) (sym same) whole)

cell_alone : (t u : Term) → Spells t → Spells u → Alone (term_at Whole (Cell t u)) (Cell t u)
cell_alone t u first second ws =
    let inside = term_at Whole t ++ term_at Rest u in
    let same : (inside ++ square_close ∷ []) ++ ws ≡ term_at Whole t ++ (term_at Rest u ++ square_close ∷ ws) =
    append_assoc inside (square_close ∷ []) ws ∙ append_assoc (term_at Whole t) (term_at Rest u) (square_close ∷ ws)
    in
    let parts = second.further (term_at Whole t) t (square_close ∷ ws) first.alone in
    subst (λ v. IsTerm (symbols_of (term_at Whole (Cell t u) ++ ws)) v (symbols_of ws)) (ap (λ v. Cell t v) (cells-heads_of u))
    (subst (λ vs. IsTerm (symbols_of (square_open ∷ vs)) (cells (t ∷ heads_of u) (end_of u)) (symbols_of ws)) (sym same) (listed (t ∷ heads_of u) (end_of u) parts.elements parts.end))

cell_further : (t u : Term) → Spells t → Spells u → (vs : List Written) (h : Term) (ws : List Written) → Alone vs h → Lists vs h (Cell t u) ws
cell_further t u first second vs h ws head =
    let parts = second.further (term_at Whole t) t ws first.alone in
    let same : (term_at Whole t ++ term_at Rest u) ++ ws ≡ term_at Whole t ++ (term_at Rest u ++ ws) = append_assoc (term_at Whole t) (term_at Rest u) ws in
    record {
      after = parts.after;
      elements =
          subst (λ us. AreTerms (symbols_of (vs ++ (comma ∷ us))) (h ∷ t ∷ heads_of u) parts.after) (sym same)
          (and_more (head (comma ∷ (term_at Whole t ++ (term_at Rest u ++ ws)))) parts.elements);
      end = parts.end;
    }

apply_alone : (w : List ℕ) (args : Terms) → SpellsAll args → Alone (term_at Whole (Apply w args)) (Apply w args)
apply_alone w args each ws =
    let same : (arguments_of args ++ round_close ∷ []) ++ ws ≡ arguments_of args ++ round_close ∷ ws = append_assoc (arguments_of args) (round_close ∷ []) ws in
    subst (λ v. IsTerm (symbols_of (term_at Whole (Apply w args) ++ ws)) v (symbols_of ws)) (ap (λ us. Apply w us) (arguments-given args))
    (subst (λ vs. IsTerm (symbols_of (ident w ∷ round_open ∷ vs)) (Apply w (argument_terms (given args))) (symbols_of ws)) (sym same) (applied (given args) (each.all (round_close ∷ ws))))

swap_alone : (l r : Name) (t : Term) → Spells t → Alone (term_at Whole (Swapped l r t)) (Swapped l r t)
swap_alone l r t inner ws =
    let same : (term_at Whole t ++ round_close ∷ []) ++ ws ≡ term_at Whole t ++ round_close ∷ ws = append_assoc (term_at Whole t) (round_close ∷ []) ws in
    subst (λ vs. IsTerm (symbols_of (swap ∷ round_open ∷ written_name l ∷ comma ∷ written_name r ∷ comma ∷ vs)) (Swapped l r t) (symbols_of ws)) (sym same)
    (swapping (is_name l (comma ∷ written_name r ∷ comma ∷ (term_at Whole t ++ round_close ∷ ws))) (is_name r (comma ∷ (term_at Whole t ++ round_close ∷ ws))) (inner.alone (round_close ∷ ws)))

abs_alone : (n : Name) (t : Term) → Spells t → Alone (term_at Whole (Abs n t)) (Abs n t)
abs_alone n t inner ws = under (is_name n (lambda_word ∷ (term_at Whole t ++ ws))) (inner.alone ws)

more_all : (t : Term) (ts : Terms) → Spells t → SpellsAll ts → (ws : List Written) → AreTerms (symbols_of (arguments_of (More t ts) ++ ws)) (t ∷ given ts) (symbols_of ws)
more_all t ts first others ws =
    let same : arguments_of (More t ts) ++ ws ≡ term_at Whole t ++ comma ∷ (arguments_of ts ++ ws) = append_assoc (term_at Whole t) (comma ∷ arguments_of ts) ws in
    subst (λ vs. AreTerms (symbols_of vs) (t ∷ given ts) (symbols_of ws)) (sym same) (and_more (first.alone (comma ∷ (arguments_of ts ++ ws))) (others.all ws))

mutual
  pub spells : (t : Term) → Spells t
  spells Unit = simple Unit (λ ws. the_unit) refl refl refl refl refl
  spells (Variable w) = simple (Variable w) (λ ws. a_variable) refl refl refl refl refl
  spells (Word w) = simple (Word w) (λ ws. a_word) refl refl refl refl refl
  spells (Apply w args) = simple (Apply w args) (apply_alone w args (spells_all args)) refl refl refl refl refl
  spells (Pair t u) = record {
    alone = pair_alone t u (spells t) (spells u);
    inner = pair_inner t u (spells t) (spells u);
    further = behind (Pair t u) (pair_alone t u (spells t) (spells u)) refl refl refl;
  }
  spells Nil = record {
    alone = λ ws. the_nil;
    inner = λ ws. only_one the_nil;
    further = λ vs h ws first. record { after = symbols_of ws; elements = only_one (first ws); end = no_bar };
  }
  spells (Cell t u) = record {
    alone = cell_alone t u (spells t) (spells u);
    inner = λ ws. only_one (cell_alone t u (spells t) (spells u) ws);
    further = cell_further t u (spells t) (spells u);
  }
  spells (Abs n t) = simple (Abs n t) (abs_alone n t (spells t)) refl refl refl refl refl
  spells (Swapped l r t) = simple (Swapped l r t) (swap_alone l r t (spells t)) refl refl refl refl refl

  pub spells_all : (ts : Terms) → SpellsAll ts
  spells_all (Last t) = record { all = λ ws. only_one ((spells t).alone ws) }
  spells_all (More t ts) = record { all = more_all t ts (spells t) (spells_all ts) }

pub term_is_read : (t : Term) → IsTerm (symbols_of (written_term t)) t []
term_is_read t = subst (λ vs. IsTerm (symbols_of vs) t []) (append-nil (written_term t)) ((spells t).alone [])
