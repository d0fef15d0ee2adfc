-- What is proved of answers by the variables that were brought.
use Rattle.std.specs.Prelude.{◌≡◌, List}
use Rattle.ap_defs.specs.declared.terms.Var.{Var}
use Rattle.ap_defs.specs.Answers.{answer_in}
use Rattle.ap_defs.specs.Derivations.{NominalDerivation}
use Rattle.ap_defs.specs.Resolution.{State}
use Rattle.ap_defs.specs.Types.{NominalLocal}
use Rattle.ap_search.specs.Records.{SameVars, answer_with, vars_brought}

-- of a derivation an answer sees no more than its variables
abbrev pub AnswerSeesVariables : Type 0
AnswerSeesVariables = (locals : List NominalLocal) (s : State) (d : NominalDerivation) → answer_in locals s d ≡ answer_with locals s (vars_brought d)

-- in any order, and however often
abbrev pub AnswerSeesASet : Type 0
AnswerSeesASet = (locals : List NominalLocal) (s : State) (xs ys : List Var) → SameVars xs ys → answer_with locals s xs ≡ answer_with locals s ys
