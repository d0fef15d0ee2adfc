-- What is proved of states that count as equal.
use Rattle.std.specs.Prelude.{◌≡◌, ℕ, List, map}
use Rattle.ap_defs.specs.Answers.{answer_in, out_in}
use Rattle.ap_defs.specs.Derivations.{NominalDerivation}
use Rattle.ap_defs.specs.Goals.{Clauses, NominalGoal}
use Rattle.ap_defs.specs.Resolution.{State, Output, Call, outputs, calls, solve}
use Rattle.ap_defs.specs.Types.{NominalLocal}
use Rattle.ap_defs.specs.declared.terms.Var.{Var}
use Rattle.ap_search.specs.Records.{answer_with}
use Rattle.ap_search.specs.SameStates.{SameState, SameGoal, SameOutputs, Respects}

abbrev pub OutputsRespectEqualStates : Type 0
OutputsRespectEqualStates = (call : Call) → Respects call → (g h : NominalGoal) (s r : State) → SameGoal g h → SameState s r
    → SameOutputs (outputs call g s) (outputs call h r)

abbrev pub CallsRespectEqualStates : Type 0
CallsRespectEqualStates = (program : Clauses) (d : ℕ) → Respects (calls program d)

-- search does not see how permutations are listed, nor in which order variables were bound
abbrev pub SearchRespectsEqualStates : Type 0
SearchRespectsEqualStates = (program : Clauses) (d : ℕ) (g h : NominalGoal) (s r : State) → SameGoal g h → SameState s r
    → SameOutputs (solve program d g s) (solve program d h r)

-- nor do answers
abbrev pub EqualStatesHaveOneAnswer : Type 0
EqualStatesHaveOneAnswer = (locals : List NominalLocal) (s r : State) (d : NominalDerivation) → SameState s r → answer_in locals s d ≡ answer_in locals r d

abbrev pub AnswerWithRespectsEqualStates : Type 0
AnswerWithRespectsEqualStates = (locals : List NominalLocal) (s r : State) (xs : List Var) → SameState s r → answer_with locals s xs ≡ answer_with locals r xs

abbrev pub EqualOutputsHaveEqualAnswers : Type 0
EqualOutputsHaveEqualAnswers = (locals : List NominalLocal) (os qs : List Output) → SameOutputs os qs → map (out_in locals) os ≡ map (out_in locals) qs
