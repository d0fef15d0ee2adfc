-- Soundness of what is written for a text: each ground instance of what is shown of an answer is derivable in nominal logic.
use Rattle.std.specs.Prelude.{ℕ, List, [], ◌∷◌}
use Rattle.ap_defs.specs.Answers.{query_outs}
use Rattle.ap_defs.specs.Goals.{NominalProgram, NominalQuery}
use Rattle.ap_ground.specs.ShownInstances.{InEachShownInstance, IsTypedDerivable}
use Rattle.ap_paths.specs.Limits.{part}
use Rattle.ap_paths.specs.declared.limits.Limit.{Limit}
use Rattle.ap_text.specs.Texts.{IsProgramOfText}
use Rattle.ap_soundness.specs.FoundStates.{EachAnswer}

-- for each instance of what is shown of an answer there are terms for the query's free variables, with those that are shown among
-- them, for which the query is derivable, no higher than the depth
abbrev pub HasSoundAnswers : NominalProgram → ℕ → Limit → NominalQuery → Type 0
HasSoundAnswers p depth limit q =
    EachAnswer (λ a. InEachShownInstance p.signature.constructors q.locals a (IsTypedDerivable p q depth)) (part limit (query_outs p.clauses depth q))

-- each query has sound answers
abbrev pub HaveSoundAnswers : NominalProgram → ℕ → Limit → List NominalQuery → Type 0
HaveSoundAnswers p depth limit [] = Unit {0}
HaveSoundAnswers p depth limit (q ∷ qs) = HasSoundAnswers p depth limit q × HaveSoundAnswers p depth limit qs

-- the queries of the program have, whose report to a depth is written
abbrev pub IsSoundProgram : NominalProgram → ℕ → Limit → Type 0
IsSoundProgram p depth limit = HaveSoundAnswers p depth limit p.queries

-- the program of the text is sound, where the text has no fault
abbrev pub IsSoundText : ℕ → Limit → List ℕ → Type 0
IsSoundText depth limit text = (p : NominalProgram) → IsProgramOfText text p → IsSoundProgram p depth limit
