-- What the identifiers of the items of a derivation stand for: names, and variables that stand there by themselves.
use Rattle.std.specs.Prelude.{ℕ, List, [], ◌∷◌, ◌++◌, slice_get, Option, Some, None}
use Rattle.ap_defs.specs.declared.terms.Name.{Name}
use Rattle.ap_defs.specs.Derivations as nodes
use Rattle.ap_defs.specs.Derivations.{NominalDerivation}
use Rattle.ap_defs.specs.Goals as goals
use Rattle.ap_defs.specs.Goals.{Clauses, NominalClause, NominalGoal, clauses_of}
use Rattle.ap_defs.specs.GroundProofs.{clause_at}
use Rattle.ap_defs.specs.Lines.{name_texts, var_texts}
use Rattle.ap_defs.specs.Terms.{NominalTerm, susp}
use Rattle.ap_defs.specs.Types.{NominalLocal}
use Rattle.ap_spelling.specs.Words.{NominalGiven, name, var}

-- a variable that a term is
abbrev pub var_given : NominalTerm → List ℕ → List NominalGiven
var_given (susp [] x) w = var x w ∷ []
var_given _ w = []

-- the names and terms for the free identifiers of an item with these words
abbrev pub names_given : List Name → List (List ℕ) → List NominalGiven
names_given (a ∷ as') (w ∷ ws) = name a w ∷ names_given as' ws
names_given _ _ = []

abbrev pub vars_given : List NominalTerm → List (List ℕ) → List NominalGiven
vars_given (t ∷ ts) (w ∷ ws) = var_given t w ++ vars_given ts ws
vars_given _ _ = []

-- what is given by the identifier of this number, if there is one
abbrev pub by_local : Option NominalLocal → (List ℕ → List NominalGiven) → List NominalGiven
by_local None given = []
by_local (Some l) given = given l.text

-- what is given by a clause, if there is one
abbrev pub of_clause : Option NominalClause → (NominalClause → List NominalGiven) → List NominalGiven
of_clause None given = []
of_clause (Some c) given = given c

-- what is given in a derivation of a goal of an item with these identifiers, in preorder
abbrev pub givens : Clauses → List NominalLocal → NominalDerivation → NominalGoal → List NominalGiven
givens cs ls (nodes.atom k names ts d) (goals.atom q us) =
    of_clause (clause_at (clauses_of cs q) k) (λ c. names_given names (name_texts c.locals) ++ (vars_given ts (var_texts c.locals) ++ givens cs c.locals d c.body))
givens cs ls (nodes.both d f) (goals.both g h) = givens cs ls d g ++ givens cs ls f h
givens cs ls (nodes.left d) (goals.either g h) = givens cs ls d g
givens cs ls (nodes.right d) (goals.either g h) = givens cs ls d h
givens cs ls (nodes.exists t d) (goals.exists x g) = by_local (slice_get ls x.num) (var_given t) ++ givens cs ls d g
givens cs ls (nodes.new c d) (goals.new b g) = by_local (slice_get ls b.num) (λ w. name c w ∷ []) ++ givens cs ls d g
givens cs ls _ _ = []

-- what is given by a clause and below it, with these names and terms for its free identifiers
abbrev pub clause_givens : Clauses → NominalClause → List Name → List NominalTerm → NominalDerivation → List NominalGiven
clause_givens cs c names ts d = names_given names (name_texts c.locals) ++ (vars_given ts (var_texts c.locals) ++ givens cs c.locals d c.body)
