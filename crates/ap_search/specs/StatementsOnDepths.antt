-- What is proved of greater depths.
use Rattle.std.specs.Prelude.{◌≡◌, ◌≤◌, ℕ}
use Rattle.ap_defs.specs.Answers.{query_outs}
use Rattle.ap_defs.specs.Goals.{Clauses, NominalGoal, NominalQuery}
use Rattle.ap_defs.specs.Resolution.{State, solve}
use Rattle.ap_search.specs.Depths.{HasNoCut, HasNoCutOut}

-- where nothing was cut, a greater depth gives the same outputs
abbrev pub DeeperIsTheSame : Type 0
DeeperIsTheSame = (program : Clauses) (d e : ℕ) (g : NominalGoal) (s : State) → d ≤ e → HasNoCut (solve program d g s) → solve program e g s ≡ solve program d g s

-- with their answers too
abbrev pub DeeperQueryIsTheSame : Type 0
DeeperQueryIsTheSame = (program : Clauses) (d e : ℕ) (q : NominalQuery) → d ≤ e → HasNoCutOut (query_outs program d q) → query_outs program e q ≡ query_outs program d q
