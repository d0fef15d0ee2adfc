-- What is proved of resolution along a path.
use Rattle.std.specs.Prelude.{◌≡◌, ℕ, List, ◌++◌, ◌↔◌, Some}
use Rattle.ap_defs.specs.Goals.{Clauses, NominalGoal}
use Rattle.ap_defs.specs.Resolution.{State, solve}
use Rattle.ap_checks.specs.Traces.{Finds, Traced, traced}

-- a path leads somewhere just where the search finds that state, with that derivation, at the part of the path that was taken
abbrev pub PathsLeadToFoundStates : Type 0
PathsLeadToFoundStates = (program : Clauses) (depth : ℕ) (goal : NominalGoal) (s : State) (path : List ℕ) (r : Traced)
    → traced program depth goal s path ≡ Some r ↔ ((q : List ℕ) × (path ≡ q ++ r.rest) × Finds (solve program depth goal s) q r.state r.derivation)
