-- Completeness of answers, the converse of their soundness: what is derivable in nominal logic is an instance of what is shown.
use Rattle.std.specs.Prelude.{◌⊎◌, ℕ, List, [], ◌∷◌}
use Rattle.ap_defs.specs.Answers.{query_outs}
use Rattle.ap_defs.specs.Goals.{NominalProgram, NominalQuery}
use Rattle.ap_defs.specs.Terms.{GroundTerm}
use Rattle.ap_ground.specs.ShownInstances.{IsTypedDerivable}
use Rattle.ap_search.specs.Depths.{HasNoCutOut}
use Rattle.ap_complete.specs.Coverings.{HasNoStuckOut, IsShownInstance, SomeAnswer, SomeStuck}

-- ground terms for the query's free variables are among those that are shown
abbrev pub IsShown : NominalProgram → ℕ → NominalQuery → List GroundTerm → Type 0
IsShown p depth q gs = SomeAnswer (λ a. IsShownInstance p.signature.constructors q.locals a gs) (query_outs p.clauses depth q)

-- The answers of a query to a depth are complete: for all ground terms of the types of its free variables for which the query is
-- derivable, no higher than the depth, an answer is shown, or a branch is stuck. Where nothing was cut and nothing is stuck an answer is
-- shown for all those for which it is derivable at any height.
pub record HasCompleteAnswers (p : NominalProgram) (depth : ℕ) (q : NominalQuery) : Type 0 where
  pub shown : (gs : List GroundTerm) → IsTypedDerivable p q depth gs → IsShown p depth q gs ⊎ SomeStuck (query_outs p.clauses depth q)
  pub whole : HasNoCutOut (query_outs p.clauses depth q) → HasNoStuckOut (query_outs p.clauses depth q)
      → (height : ℕ) (gs : List GroundTerm) → IsTypedDerivable p q height gs → IsShown p depth q gs

-- each query has complete answers
abbrev pub HaveCompleteAnswers : NominalProgram → ℕ → List NominalQuery → Type 0
HaveCompleteAnswers p depth [] = Unit {0}
HaveCompleteAnswers p depth (q ∷ qs) = HasCompleteAnswers p depth q × HaveCompleteAnswers p depth qs

-- the queries of the program have, whose report to a depth is written
abbrev pub IsCompleteProgram : NominalProgram → ℕ → Type 0
IsCompleteProgram p depth = HaveCompleteAnswers p depth p.queries
