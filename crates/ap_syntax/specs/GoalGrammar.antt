-- The grammar of goals. `IsGoal ts g rest`: the symbols ts are a spelling of the goal g, and then rest.
use Rattle.std.specs.Prelude.{ℕ, List, [], ◌∷◌, false, None, ◌≡◌, ◌≢◌}
use Rattle.ap_trees.specs.Symbols.{Sym, Var, Ident, New, Exists, Open, Close, Comma, Semicolon, Equal, Fresh}
use Rattle.ap_trees.specs.Terms.{Term}
use Rattle.ap_trees.specs.TermGrammar.{IsTerm, AreTerms}
use Rattle.ap_trees.specs.Goals.{Goal, Atom, Equation, Freshness, Both, Either, Some_variable, New_name, joined_goals}
use Rattle.ap_syntax.specs.Marks.{blank}
use Rattle.ap_syntax.specs.Matching.{begins_term, after_group}

-- atom = IDENT [ "(" term { "," term } ")" ]
pub data IsAtom : List Sym → List ℕ → List Term → List Sym → Type 0 where
  bare : {w : List ℕ} {ts : List Sym} → IsAtom (Ident w ∷ ts) w [] ts
  with_arguments : {w : List ℕ} {ts rest : List Sym} {args : List Term} → AreTerms ts args (Close ∷ rest) → IsAtom (Ident w ∷ Open ∷ ts) w args rest

mutual
  -- goal = conj { ";" conj }
  pub data IsGoal : List Sym → Goal → List Sym → Type 0 where
    disjunction : {ts rest : List Sym} (first : Goal) (others : List Goal) → AreConjs ts (first ∷ others) rest → IsGoal ts (joined_goals Either first others) rest

  pub data AreConjs : List Sym → List Goal → List Sym → Type 0 where
    last_conj : {ts rest : List Sym} {g : Goal} → IsConj ts g rest → AreConjs ts (g ∷ []) rest
    next_conj : {ts us rest : List Sym} {g : Goal} {gs : List Goal} → IsConj ts g (Semicolon ∷ us) → AreConjs us gs rest → AreConjs ts (g ∷ gs) rest

  -- conj = simple { "," simple }
  pub data IsConj : List Sym → Goal → List Sym → Type 0 where
    conjunction : {ts rest : List Sym} (first : Goal) (others : List Goal) → AreSimples ts (first ∷ others) rest → IsConj ts (joined_goals Both first others) rest

  pub data AreSimples : List Sym → List Goal → List Sym → Type 0 where
    last_simple : {ts rest : List Sym} {g : Goal} → IsSimple ts g rest → AreSimples ts (g ∷ []) rest
    next_simple : {ts us rest : List Sym} {g : Goal} {gs : List Goal} → IsSimple ts g (Comma ∷ us) → AreSimples us gs rest → AreSimples ts (g ∷ gs) rest

  pub data IsSimple : List Sym → Goal → List Sym → Type 0 where
    -- "new" IDENT "(" goal ")"
    new_name : {w : List ℕ} {ts rest : List Sym} {g : Goal} → IsGoal ts g (Close ∷ rest) → IsSimple (New ∷ Ident w ∷ Open ∷ ts) (New_name w g) rest
    -- "exists" VAR "(" goal ")", where the VAR isn't `_`
    some_variable : {w : List ℕ} {ts rest : List Sym} {g : Goal} → w ≢ blank → IsGoal ts g (Close ∷ rest) → IsSimple (Exists ∷ Var w ∷ Open ∷ ts) (Some_variable w g) rest
    -- "(" goal ")", where neither `=` nor `#` comes after the `)`
    in_parentheses : {ts rest : List Sym} {g : Goal} → begins_term ts ≡ false → IsGoal ts g (Close ∷ rest) → IsSimple (Open ∷ ts) g rest
    -- term "=" term, where no goal in parentheses begins
    equation : {ts us rest : List Sym} {t u : Term} → after_group ts ≡ None → IsTerm ts t (Equal ∷ us) → IsTerm us u rest → IsSimple ts (Equation t u) rest
    -- term "#" term, where no goal in parentheses begins
    freshness : {ts us rest : List Sym} {t u : Term} → after_group ts ≡ None → IsTerm ts t (Fresh ∷ us) → IsTerm us u rest → IsSimple ts (Freshness t u) rest
    -- atom
    an_atom : {w : List ℕ} {ts rest : List Sym} {args : List Term} → IsAtom ts w args rest → IsSimple ts (Atom w args) rest
