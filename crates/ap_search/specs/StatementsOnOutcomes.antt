-- What is proved of the marks of a search.
use Rattle.std.specs.Prelude.{◌≡◌, ℕ}
use Rattle.ap_defs.specs.Goals.{Clauses, NominalGoal}
use Rattle.ap_defs.specs.Paths.{marked_solve, unmarked}
use Rattle.ap_defs.specs.Resolution.{State, solve}

-- the outputs among the marks are those of the search
abbrev pub OutputsAmongMarks : Type 0
OutputsAmongMarks = (program : Clauses) (d : ℕ) (g : NominalGoal) (s : State) → unmarked (marked_solve program d g s) ≡ solve program d g s
