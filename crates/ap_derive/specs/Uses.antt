-- Which clauses derivations use, and how often.
use Rattle.std.specs.Prelude.{ℕ, suc, ◌-◌, ◌^◌, min, Bool, ◌==◌, ◌&&◌, if◌then◌else◌, List, [], ◌∷◌, ◌++◌, Option, Some, None}
use Rattle.ap_defs.specs.Derivations as nodes
use Rattle.ap_defs.specs.Derivations.{NominalDerivation}
use Rattle.ap_defs.specs.Goals as goals
use Rattle.ap_defs.specs.Goals.{Clauses, NominalClause, NominalGoal, clauses_of}
use Rattle.ap_defs.specs.GroundProofs.{clause_at}

-- an atom's node: the predicate, and the number of the clause among its clauses, from 1
pub record ClauseUse : Type 0 where
  pub pred : ℕ
  pub number : ℕ

-- those of a clause's body, if there is one
abbrev pub of_body : Option NominalClause → (NominalGoal → List ClauseUse) → List ClauseUse
of_body None uses_of = []
of_body (Some c) uses_of = uses_of c.body

-- The uses in a derivation of a goal, in preorder. A node that isn't of the goal's form has none.
abbrev pub uses : Clauses → NominalDerivation → NominalGoal → List ClauseUse
uses program (nodes.atom k as' us d) (goals.atom p ts) = record { pred = p; number = k } ∷ of_body (clause_at (clauses_of program p) k) (uses program d)
uses program (nodes.both d e) (goals.both g h) = uses program d g ++ uses program e h
uses program (nodes.left d) (goals.either g h) = uses program d g
uses program (nodes.right d) (goals.either g h) = uses program d h
uses program (nodes.exists t d) (goals.exists x g) = uses program d g
uses program (nodes.new a d) (goals.new b g) = uses program d g
uses program _ _ = []

-- those of an atom of this predicate by its clause of this number, and below it
abbrev pub uses_of_clause : Clauses → ℕ → ℕ → NominalDerivation → List ClauseUse
uses_of_clause program p k d = record { pred = p; number = k } ∷ of_body (clause_at (clauses_of program p) k) (uses program d)

-- the uses in derivations of one goal
abbrev pub uses_in_each : Clauses → NominalGoal → List NominalDerivation → List ClauseUse
uses_in_each program g [] = []
uses_in_each program g (d ∷ ds) = uses program d g ++ uses_in_each program g ds

abbrev pub is_use : ℕ → ℕ → ClauseUse → Bool
is_use p k u = (u.pred == p) && (u.number == k)

-- how often the clause with this number of this predicate is used
abbrev pub times_used : ℕ → ℕ → List ClauseUse → ℕ
times_used p k [] = 0
times_used p k (u ∷ us) = if is_use p k u then suc (times_used p k us) else times_used p k us

-- a number that doesn't fit in 64 bits is given as the greatest that does
abbrev pub saturated : ℕ → ℕ
saturated n = min n (2 ^ 64 - 1)

-- how often each of a predicate's clauses is used, of which the first has this number
abbrev pub use_row : ℕ → ℕ → List NominalClause → List ClauseUse → List ℕ
use_row p k [] us = []
use_row p k (c ∷ cs) us = saturated (times_used p k us) ∷ use_row p (suc k) cs us

abbrev pub use_rows : ℕ → Clauses → List ClauseUse → List (List ℕ)
use_rows p [] us = []
use_rows p (cs ∷ css) us = use_row p 1 cs us ∷ use_rows (suc p) css us

-- how often each clause is used: a list a predicate, with a number a clause
abbrev pub use_table : Clauses → List ClauseUse → List (List ℕ)
use_table program us = use_rows 0 program us
