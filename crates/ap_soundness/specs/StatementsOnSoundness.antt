-- What is proved of the states and the answers that a search finds.
use Rattle.std.specs.Prelude.{ℕ}
use Rattle.ap_defs.specs.Answers.{query_outs}
use Rattle.ap_defs.specs.Goals.{NominalProgram, NominalQuery}
use Rattle.ap_defs.specs.GroundProofs.{IsDerivable}
use Rattle.ap_defs.specs.Resolution.{solve_query}
use Rattle.ap_program.specs.Typed.{IsTypedProgram, IsTypedQuery, term_form}
use Rattle.ap_ground.specs.ShownInstances.{InEachInstance, InEachShownInstance, IsTypedDerivable}
use Rattle.ap_soundness.specs.FoundStates.{EachAnswer, EachFound, IsDerivableState}

-- a query is derivable in each state that was found for it
abbrev pub FoundStatesAreDerivable : Type 0
FoundStatesAreDerivable = (p : NominalProgram) → IsTypedProgram p → (d : ℕ) (q : NominalQuery) → IsTypedQuery term_form p.signature q
    → EachFound (IsDerivableState p q d) (solve_query p.clauses d q)

-- and in each instance of each answer
abbrev pub AnswersAreSound : Type 0
AnswersAreSound = (p : NominalProgram) → IsTypedProgram p → (d : ℕ) (q : NominalQuery) → IsTypedQuery term_form p.signature q
    → EachAnswer (λ a. InEachInstance p.signature.constructors a (λ gs. IsDerivable p q gs d)) (query_outs p.clauses d q)

-- for terms that have the types of the query's free variables
abbrev pub AnswersAreSoundAndTyped : Type 0
AnswersAreSoundAndTyped = (p : NominalProgram) → IsTypedProgram p → (d : ℕ) (q : NominalQuery) → IsTypedQuery term_form p.signature q
    → EachAnswer (λ a. InEachInstance p.signature.constructors a (IsTypedDerivable p q d)) (query_outs p.clauses d q)

-- so it is in each instance of what is shown of an answer
abbrev pub ShownAnswersAreSound : Type 0
ShownAnswersAreSound = (p : NominalProgram) → IsTypedProgram p → (d : ℕ) (q : NominalQuery) → IsTypedQuery term_form p.signature q
    → EachAnswer (λ a. InEachShownInstance p.signature.constructors q.locals a (IsTypedDerivable p q d)) (query_outs p.clauses d q)
