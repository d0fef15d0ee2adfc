-- What is proved of the types of states and answers.
use Rattle.std.specs.Prelude.{◌≡◌, ℕ, List, Some, length}
use Rattle.ap_defs.specs.Answers.{query_outs}
use Rattle.ap_defs.specs.Freshness.{Conds}
use Rattle.ap_defs.specs.Goals.{Clauses, NominalProgram, NominalQuery}
use Rattle.ap_defs.specs.Lines.{var_texts}
use Rattle.ap_defs.specs.Renaming.{IsGoalBelow}
use Rattle.ap_defs.specs.Resolution.{solve_query}
use Rattle.ap_defs.specs.Substitution.{Binding}
use Rattle.ap_defs.specs.Terms.{NominalTerm}
use Rattle.ap_defs.specs.Types.{NominalConstructor, NominalKind, NominalType}
use Rattle.ap_defs.specs.Unification.{Unified, unify}
use Rattle.ap_program.specs.RawTyping.{HasTermType}
use Rattle.ap_program.specs.Typed.{HaveTypes, IsTypedProgram, IsTypedQuery, term_form}
use Rattle.ap_search.specs.FitStates.{AllFound, IsFitProgram}
use Rattle.ap_search.specs.TypedStates.{AreTypedBindings, AreTypedConds, AreTypedOuts, HaveBindings, IsTypedState}

-- unification keeps types
abbrev pub UnificationKeepsTypes : Type 0
UnificationKeepsTypes = (cs : List NominalConstructor) (kinds : List NominalKind) (bs : List Binding) (ds : Conds) (ts us : List NominalTerm) (as' : List NominalType) (r : Unified)
    → AreTypedBindings cs kinds bs → AreTypedConds kinds ds → HaveTypes (HasTermType cs kinds) ts as' → HaveTypes (HasTermType cs kinds) us as'
    → unify bs ds ts us ≡ Some r → AreTypedBindings cs kinds r.bindings × AreTypedConds kinds r.conditions

-- so the search of a typed query of a typed program finds typed states
abbrev pub SearchFindsTypedStates : Type 0
SearchFindsTypedStates = (p : NominalProgram) → IsTypedProgram p → (d : ℕ) (q : NominalQuery) → IsTypedQuery term_form p.signature q
    → AllFound (IsTypedState p.signature.constructors) (solve_query p.clauses d q)

-- and its answers are typed
abbrev pub AnswersAreTyped : Type 0
AnswersAreTyped = (p : NominalProgram) → IsTypedProgram p → (d : ℕ) (q : NominalQuery) → IsTypedQuery term_form p.signature q
    → AreTypedOuts p.signature.constructors q.locals (query_outs p.clauses d q)

-- the numbers of what is typed are those of its identifiers
abbrev pub TypedIsFit : Type 0
TypedIsFit = (p : NominalProgram) → IsTypedProgram p → IsFitProgram p.clauses

abbrev pub TypedQueryIsFit : Type 0
TypedQueryIsFit = (p : NominalProgram) (q : NominalQuery) → IsTypedQuery term_form p.signature q → IsGoalBelow (length q.locals) q.goal

-- each answer has one binding for each free variable of the query
abbrev pub AnswersHaveBindings : Type 0
AnswersHaveBindings = (program : Clauses) (d : ℕ) (q : NominalQuery) → HaveBindings (length (var_texts q.locals)) (query_outs program d q)
