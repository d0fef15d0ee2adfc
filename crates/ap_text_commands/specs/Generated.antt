-- Texts that are made from a number: the calculus of substitution on lambda terms, and queries for the terms in which the
-- substitution of `var(b)` for `a` gives a term that is drawn.
use Rattle.std.specs.Prelude.{ℕ, zero, suc, ◌+◌, ◌*◌, ◌/◌, ◌%◌, List, [], ◌++◌, codes}

-- the state after a draw, and what is drawn of so many
abbrev pub next_draw : ℕ → ℕ
next_draw x = (75 * x + 74) % 65537

abbrev pub drawn : ℕ → ℕ → ℕ
drawn m x = next_draw x / 16 % m

-- What is made from a state, and the state after it.
pub record Drawn : Type 0 where
  pub text : List ℕ
  pub state : ℕ

abbrev pub bound_name : ℕ → List ℕ
bound_name zero = codes "b"
bound_name (suc zero) = codes "c"
bound_name (suc (suc n)) = codes "d"

-- a variable
abbrev pub leaf : ℕ → Drawn
leaf x = record { text = codes "var(" ++ bound_name (drawn 3 x) ++ codes ")"; state = next_draw x }

-- an abstraction of what is made, and an application of it to another
abbrev pub lambda : (ℕ → Drawn) → ℕ → Drawn
lambda make x = record {
  text = codes "lam(" ++ bound_name (drawn 3 x) ++ codes "\\" ++ (make (next_draw x)).text ++ codes ")";
  state = (make (next_draw x)).state;
}

abbrev pub application : (ℕ → Drawn) → ℕ → Drawn
application make x = record {
  text = codes "app(" ++ (make x).text ++ codes "," ++ (make (make x).state).text ++ codes ")";
  state = (make (make x).state).state;
}

-- a variable, an abstraction or an application, by what was drawn of four
abbrev pub by_kind : ℕ → (ℕ → Drawn) → ℕ → Drawn
by_kind zero make x = leaf x
by_kind (suc zero) make x = lambda make x
by_kind (suc (suc k)) make x = application make x

-- a term of at most this height
abbrev pub term : ℕ → ℕ → Drawn
term zero x = leaf x
term (suc h) x = by_kind (drawn 4 x) (term h) (next_draw x)

-- a query, and so many of them, from a state
abbrev pub query : ℕ → List ℕ
query x = codes "?- subst(M,a,var(b)," ++ (term 3 x).text ++ codes ").\n"

abbrev pub queries : ℕ → ℕ → List ℕ
queries zero x = []
queries (suc n) x = query x ++ queries n (term 3 x).state

-- substitution on lambda terms
abbrev pub calculus : List ℕ
calculus = codes "id : name_type.\nexp : type.\nvar : id -> exp.\napp : (exp, exp) -> exp.\nlam : id\\exp -> exp.\n"
    ++ codes "pred subst(exp, id, exp, exp).\nsubst(var(X), X, E, E).\nsubst(var(Y), X, E, var(Y)) :- X # Y.\n"
    ++ codes "subst(app(M,N), X, E, app(M2,N2)) :- subst(M,X,E,M2), subst(N,X,E,N2).\n"
    ++ codes "subst(lam(y\\M), X, E, lam(y\\M2)) :- y # X, y # E, subst(M,X,E,M2).\n"

-- the text of a seed, with so many queries
abbrev pub generated : ℕ → ℕ → List ℕ
generated seed size = calculus ++ queries size (seed % 65537)
