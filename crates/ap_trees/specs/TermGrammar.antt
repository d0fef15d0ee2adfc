-- The grammar of terms. `IsTerm ts t rest`: the symbols ts are a spelling of the term t, and then rest.
use Rattle.std.specs.Prelude.{ℕ, List, [], ◌∷◌}
use Rattle.ap_trees.specs.Symbols.{Sym, Var, Ident, Swap, Open, Close, OpenList, CloseList, Comma, Bar, Lambda}
use Rattle.ap_trees.specs.Terms.{Name, Term, OfWord, OfVar, Unit, Variable, Word, Apply, Nil, Abs, Swapped, argument_terms, tuple, cells}

-- id = IDENT | VAR
pub data IsId : List Sym → Name → List Sym → Type 0 where
  an_ident : {w : List ℕ} {ts : List Sym} → IsId (Ident w ∷ ts) (OfWord w) ts
  a_var : {w : List ℕ} {ts : List Sym} → IsId (Var w ∷ ts) (OfVar w) ts

mutual
  pub data IsTerm : List Sym → Term → List Sym → Type 0 where
    -- id "\" term
    under : {ts us rest : List Sym} {name : Name} {t : Term} → IsId ts name (Lambda ∷ us) → IsTerm us t rest → IsTerm ts (Abs name t) rest
    -- IDENT
    a_word : {w : List ℕ} {ts : List Sym} → IsTerm (Ident w ∷ ts) (Word w) ts
    -- IDENT "(" term { "," term } ")"
    applied : {w : List ℕ} {ts rest : List Sym} (parts : List Term) → AreTerms ts parts (Close ∷ rest) → IsTerm (Ident w ∷ Open ∷ ts) (Apply w (argument_terms parts)) rest
    -- VAR
    a_variable : {w : List ℕ} {ts : List Sym} → IsTerm (Var w ∷ ts) (Variable w) ts
    -- "(" ")"
    the_unit : {ts : List Sym} → IsTerm (Open ∷ Close ∷ ts) Unit ts
    -- "(" term { "," term } ")"
    grouped : {ts rest : List Sym} (parts : List Term) → AreTerms ts parts (Close ∷ rest) → IsTerm (Open ∷ ts) (tuple parts) rest
    -- "[" "]"
    the_nil : {ts : List Sym} → IsTerm (OpenList ∷ CloseList ∷ ts) Nil ts
    -- "[" term { "," term } [ "|" term ] "]"
    listed : {ts after rest : List Sym} (parts : List Term) (end : Term) → AreTerms ts parts after → IsEnd after end (CloseList ∷ rest) → IsTerm (OpenList ∷ ts) (cells parts end) rest
    -- "swap" "(" id "," id "," term ")"
    swapping : {ts us vs rest : List Sym} {left right : Name} {t : Term} → IsId ts left (Comma ∷ us) → IsId us right (Comma ∷ vs) → IsTerm vs t (Close ∷ rest)
        → IsTerm (Swap ∷ Open ∷ ts) (Swapped left right t) rest

  -- [ "|" term ]
  pub data IsEnd : List Sym → Term → List Sym → Type 0 where
    no_bar : {ts : List Sym} → IsEnd ts Nil ts
    behind_bar : {ts rest : List Sym} {t : Term} → IsTerm ts t rest → IsEnd (Bar ∷ ts) t rest

  -- term { "," term }
  pub data AreTerms : List Sym → List Term → List Sym → Type 0 where
    only_one : {ts rest : List Sym} {t : Term} → IsTerm ts t rest → AreTerms ts (t ∷ []) rest
    and_more : {ts us rest : List Sym} {t : Term} {others : List Term} → IsTerm ts t (Comma ∷ us) → AreTerms us others rest → AreTerms ts (t ∷ others) rest
