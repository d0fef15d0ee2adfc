-- What is proved of ground proofs and of the answers that a search finds.
use Rattle.std.specs.Prelude.{◌≡◌, ◌⊎◌, ◌≤◌, ℕ, true, List, [], ◌∷◌}
use Rattle.ap_defs.specs.Answers as answers
use Rattle.ap_defs.specs.declared.terms.Swap.{Swap}
use Rattle.ap_defs.specs.Answers.{NominalAnswer, NominalOut, out_path, outs_at, query_outs}
use Rattle.ap_defs.specs.Derivations.{GroundProof, height, path}
use Rattle.ap_defs.specs.Goals.{NominalProgram, NominalQuery, ProgramOver}
use Rattle.ap_defs.specs.RawTerms.{RawTerm}
use Rattle.ap_defs.specs.GroundProofs.{AreOfTypes, IsDerivable, IsValid, environment}
use Rattle.ap_defs.specs.PathOrder.{has_prefix}
use Rattle.ap_defs.specs.Renaming.{local_names, local_vars}
use Rattle.ap_defs.specs.Resolution.{kinds_of}
use Rattle.ap_defs.specs.Terms.{GroundTerm}
use Rattle.ap_ground.specs.ShownInstances.{IsTypedDerivable}
use Rattle.ap_complete.specs.Restriction.{KeepsRestriction}
use Rattle.ap_program.specs.CarryingOut.{carried_out_program}
use Rattle.ap_program.specs.NameRestriction.{AllPass, items_of}
use Rattle.ap_program.specs.Typed.{IsTypedProgram, IsTypedQuery, term_form}
use Rattle.ap_search.specs.Depths.{HasNoCutOut}
use Rattle.ap_complete.specs.CompleteAnswers.{HasCompleteAnswers, IsCompleteProgram}
use Rattle.ap_complete.specs.Coverings.{HasNoStuckOut, IsCovered, IsGroundInstance, IsInstanceBy, SomeAnswer, SomeStuck, TakesApart}
use Rattle.ap_complete.specs.NumberedProofs.{IsAmong}

-- every ground proof no higher than the depth is covered
abbrev pub ProofsAreCovered : Type 0
ProofsAreCovered = (p : NominalProgram) → KeepsRestriction p → (q : NominalQuery) → IsTypedQuery term_form p.signature q
    → (depth : ℕ) (gs : List GroundTerm) → AreOfTypes p.signature.constructors (kinds_of q.locals) (local_vars 0 q.locals) gs
    → (proof : GroundProof) → IsValid p (kinds_of q.locals) proof q.goal (environment q.locals (local_names 0 q.locals) gs) → height proof ≤ depth
    → IsCovered p q depth gs (path proof)

-- The answer at the path of a ground proof covers it whatever its names are exchanged for: under all swappings that leave the query's
-- names, and take the other ones to names that are fresh for the terms.
abbrev pub EachExchangeCovers : Type 0
EachExchangeCovers = (p : NominalProgram) → KeepsRestriction p → (q : NominalQuery) → IsTypedQuery term_form p.signature q
    → (depth : ℕ) (gs : List GroundTerm) → AreOfTypes p.signature.constructors (kinds_of q.locals) (local_vars 0 q.locals) gs
    → (proof : GroundProof) → IsValid p (kinds_of q.locals) proof q.goal (environment q.locals (local_names 0 q.locals) gs) → height proof ≤ depth
    → (a : NominalAnswer) → IsAmong (answers.found (path proof) a) (query_outs p.clauses depth q)
    → (swaps : List Swap) → TakesApart q.locals a gs swaps → IsInstanceBy p.signature.constructors q.locals a gs swaps

-- no other output stands at the path of an output or below it, and none at a beginning of it: so it is covered in one way only
abbrev pub OutputsStandAlone : Type 0
OutputsStandAlone = (p : NominalProgram) (q : NominalQuery) (depth : ℕ) (o : NominalOut) → IsAmong o (query_outs p.clauses depth q)
    → (outs_at p.clauses depth q (out_path o) ≡ o ∷ []) × ((l : List ℕ) → IsAmong (answers.stuck l) (query_outs p.clauses depth q) → has_prefix l (out_path o) ≡ true → o ≡ answers.stuck l)

-- so each derivable instance of a query is an instance of an answer, or a branch is stuck
abbrev pub DerivableIsAnswered : Type 0
DerivableIsAnswered = (p : NominalProgram) → KeepsRestriction p → (q : NominalQuery) → IsTypedQuery term_form p.signature q → (depth : ℕ) (gs : List GroundTerm)
    → IsTypedDerivable p q depth gs → SomeAnswer (λ a. IsGroundInstance p.signature.constructors q.locals a gs) (query_outs p.clauses depth q) ⊎ SomeStuck (query_outs p.clauses depth q)

-- and, where nothing was cut and nothing is stuck, of an answer, at any height
abbrev pub WholeAnswersAreAll : Type 0
WholeAnswersAreAll = (p : NominalProgram) → KeepsRestriction p → (q : NominalQuery) → IsTypedQuery term_form p.signature q → (depth : ℕ)
    → HasNoCutOut (query_outs p.clauses depth q) → HasNoStuckOut (query_outs p.clauses depth q)
    → (height : ℕ) (gs : List GroundTerm) → IsTypedDerivable p q height gs → SomeAnswer (λ a. IsGroundInstance p.signature.constructors q.locals a gs) (query_outs p.clauses depth q)

-- and no other one is: an instance of an answer is derivable
abbrev pub InstancesAreDerivable : Type 0
InstancesAreDerivable = (p : NominalProgram) → IsTypedProgram p → (q : NominalQuery) → IsTypedQuery term_form p.signature q → (depth : ℕ) (gs : List GroundTerm)
    → SomeAnswer (λ a. IsGroundInstance p.signature.constructors q.locals a gs) (query_outs p.clauses depth q) → IsDerivable p q gs depth

-- the same in the terms of what is shown
abbrev pub AnswersAreComplete : Type 0
AnswersAreComplete = (p : NominalProgram) → KeepsRestriction p → (depth : ℕ) (q : NominalQuery) → IsTypedQuery term_form p.signature q → HasCompleteAnswers p depth q

abbrev pub ProgramsAreComplete : Type 0
ProgramsAreComplete = (p : NominalProgram) → KeepsRestriction p → (depth : ℕ) → IsCompleteProgram p depth

-- so is the program of items that keep the restriction, once its swappings are carried out
abbrev pub KeptProgramsAreComplete : Type 0
KeptProgramsAreComplete = (p : ProgramOver RawTerm) → IsTypedProgram (carried_out_program p) → AllPass p.signature.constructors (items_of p) → (depth : ℕ)
    → IsCompleteProgram (carried_out_program p) depth

-- without the restriction they need not be
abbrev pub RestrictionIsNeeded : Type 0
RestrictionIsNeeded = (p : NominalProgram) × IsTypedProgram p × (IsCompleteProgram p 1 → ⊥)
