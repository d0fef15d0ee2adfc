-- What is proved of properties.
use Rattle.std.specs.Prelude.{◌≡◌, ℕ, List, []}
use Rattle.ap_defs.specs.Answers.{NominalAnswer, query_outs}
use Rattle.ap_defs.specs.Goals.{NominalProgram, NominalQuery}
use Rattle.ap_defs.specs.GroundProofs.{IsDerivable}
use Rattle.ap_defs.specs.Types.{NominalConstructor, NominalKind}
use Rattle.ap_program.specs.RawTyping.{AreVarsOf}
use Rattle.ap_program.specs.Typed.{IsTypedProgram, IsTypedQuery, term_form}
use Rattle.ap_ground.specs.ShownInstances.{IsTypedDerivable}
use Rattle.ap_ground.specs.TypedGroundings.{HaveInhabitants}
use Rattle.ap_soundness.specs.FoundStates.{EachAnswer}
use Rattle.ap_complete.specs.Restriction.{KeepsRestriction}
use Rattle.ap_property.specs.Fitting.{FitsLocals}
use Rattle.ap_property.specs.Properties.{conclusion_query, hypothesis_query}
use Rattle.ap_property.specs.PutIn.{query_put_in}
use Rattle.ap_property.specs.Stated.{stated}

-- the hypothesis and the conclusion of a typed query are typed
abbrev pub PartsAreTyped : Type 0
PartsAreTyped = (p : NominalProgram) (q : NominalQuery) → IsTypedQuery term_form p.signature q
    → IsTypedQuery term_form p.signature (hypothesis_query q) × IsTypedQuery term_form p.signature (conclusion_query q)

-- each variable of the answer has the type beside it, by some kinds, and that is inhabited
pub record HasTypedVars (cs : List NominalConstructor) (a : NominalAnswer) : Type 0 where
  pub kinds : List NominalKind
  pub typed : AreVarsOf kinds a.vars
  pub inhabited : HaveInhabitants cs a.vars

abbrev pub AnswersHaveTypes : Type 0
AnswersHaveTypes = (p : NominalProgram) → IsTypedProgram p → (q : NominalQuery) → IsTypedQuery term_form p.signature q → (depth : ℕ)
    → EachAnswer (HasTypedVars p.signature.constructors) (query_outs p.clauses depth q)

-- the stated instance of each answer fits the query
abbrev pub StatedInstancesFit : Type 0
StatedInstancesFit = (p : NominalProgram) → IsTypedProgram p → (q : NominalQuery) → IsTypedQuery term_form p.signature q → (depth : ℕ)
    → EachAnswer (λ a. FitsLocals p.signature.constructors q.locals (stated p.signature.constructors q.locals a)) (query_outs p.clauses depth q)

-- the query is derivable for the stated instance of each of its answers
abbrev pub StatedInstancesAreDerivable : Type 0
StatedInstancesAreDerivable = (p : NominalProgram) → IsTypedProgram p → (q : NominalQuery) → IsTypedQuery term_form p.signature q → (depth : ℕ)
    → EachAnswer (λ a. IsTypedDerivable p q depth (stated p.signature.constructors q.locals a).terms) (query_outs p.clauses depth q)

-- where the conclusion is put in a typed query's answers, it is typed
abbrev pub ConclusionsAreTyped : Type 0
ConclusionsAreTyped = (p : NominalProgram) → IsTypedProgram p → (q : NominalQuery) → IsTypedQuery term_form p.signature q → (depth : ℕ)
    → EachAnswer (λ a. IsTypedQuery term_form p.signature (query_put_in q (stated p.signature.constructors q.locals a))) (query_outs p.clauses depth (hypothesis_query q))

-- where it then has no output at a depth, not even a cut, it has no ground proof under the stated instance, of any height
abbrev pub CountersHaveNoProof : Type 0
CountersHaveNoProof = (p : NominalProgram) → KeepsRestriction p → (q : NominalQuery) → IsTypedQuery term_form p.signature q → (depth : ℕ)
    → EachAnswer (λ a. query_outs p.clauses depth (query_put_in q (stated p.signature.constructors q.locals a)) ≡ []
    → (height : ℕ) → IsDerivable p (conclusion_query q) (stated p.signature.constructors q.locals a).terms height → ⊥)
    (query_outs p.clauses depth (hypothesis_query q))

-- for each answer that it has there, the conclusion is derivable for the stated instance, no higher than the depth
abbrev pub AnsweredConclusionsAreDerivable : Type 0
AnsweredConclusionsAreDerivable = (p : NominalProgram) → IsTypedProgram p → (q : NominalQuery) → IsTypedQuery term_form p.signature q → (depth : ℕ)
    → EachAnswer (λ a. EachAnswer (λ b. IsTypedDerivable p (conclusion_query q) depth (stated p.signature.constructors q.locals a).terms)
    (query_outs p.clauses depth (query_put_in q (stated p.signature.constructors q.locals a))))
    (query_outs p.clauses depth (hypothesis_query q))
