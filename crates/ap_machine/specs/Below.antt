-- Numbers of identifiers that were given.
use Rattle.std.specs.Prelude.{ℕ, List, [], ◌∷◌, length}
use Rattle.ap_defs.specs.Goals.{NominalQuery, Clauses}
use Rattle.ap_defs.specs.Renaming.{IsGoalBelow}
use Rattle.ap_search.specs.Continuations.{Waiting}
use Rattle.ap_search.specs.FitStates.{AreShort, IsFitProgram}

abbrev pub AreWaitingBelow : ℕ → List Waiting → Type 0
AreWaitingBelow n [] = Unit {0}
AreWaitingBelow n (w ∷ ws) = IsGoalBelow n w.goal × AreWaitingBelow n ws

-- each number in a clause is that of one of its identifiers, and the clauses of a predicate can be numbered
abbrev pub AreClausesBelow : Clauses → Type 0
AreClausesBelow css = IsFitProgram css × AreShort css

abbrev pub IsQueryBelow : NominalQuery → Type 0
IsQueryBelow q = IsGoalBelow (length q.locals) q.goal
