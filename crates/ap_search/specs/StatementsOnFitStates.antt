-- What is proved of the states of a search.
use Rattle.std.specs.Prelude.{◌≡◌, ◌≤◌, ℕ, List, Some, length}
use Rattle.ap_defs.specs.Freshness.{Conds}
use Rattle.ap_defs.specs.Goals.{Clauses, NominalGoal, NominalQuery}
use Rattle.ap_defs.specs.Renaming.{AreBelow, AreBindingsBelow, IsGoalBelow}
use Rattle.ap_defs.specs.Resolution.{State, next_number, solve, solve_query}
use Rattle.ap_defs.specs.Substitution.{Binding}
use Rattle.ap_defs.specs.Terms.{NominalTerm}
use Rattle.ap_defs.specs.Unification.{Unified, unify}
use Rattle.ap_search.specs.FitStates.{AllFound, AreCondsBelow, IsFitProgram, IsFitState}

-- unification brings no number of its own
abbrev pub UnifiedIsBelow : Type 0
UnifiedIsBelow = (n : ℕ) (bs : List Binding) (ds : Conds) (ts us : List NominalTerm) (r : Unified) → AreBindingsBelow n bs → AreCondsBelow n ds → AreBelow n ts → AreBelow n us
    → unify bs ds ts us ≡ Some r → AreBindingsBelow n r.bindings × AreCondsBelow n r.conditions

-- from a fit state a search finds fit states, and no number is given twice
abbrev pub SearchFindsFitStates : Type 0
SearchFindsFitStates = (program : Clauses) → IsFitProgram program → (d : ℕ) (g : NominalGoal) (s : State) → IsFitState s → IsGoalBelow (next_number s) g
    → AllFound (λ r. IsFitState r × (next_number s ≤ next_number r)) (solve program d g s)

abbrev pub QueryFindsFitStates : Type 0
QueryFindsFitStates = (program : Clauses) → IsFitProgram program → (d : ℕ) (q : NominalQuery) → IsGoalBelow (length q.locals) q.goal → AllFound IsFitState (solve_query program d q)
