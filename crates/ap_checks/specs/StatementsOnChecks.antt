-- What is proved of derivations that check.
use Rattle.std.specs.Prelude.{◌≡◌, ℕ, true, List, ◌↔◌}
use Rattle.ap_defs.specs.Answers.{NominalAnswer, answer_in, derivation_in}
use Rattle.ap_defs.specs.Derivations.{NominalDerivation, height}
use Rattle.ap_defs.specs.Goals.{NominalProgram, NominalQuery}
use Rattle.ap_defs.specs.Resolution.{solve_query}
use Rattle.ap_defs.specs.Terms.{NominalTerm}
use Rattle.ap_defs.specs.Types.{NominalConstructor}
use Rattle.ap_defs.specs.Typing.{IsTyped, VarTypes, Want}
use Rattle.ap_program.specs.Typed.{IsTypedProgram, IsTypedQuery, term_form}
use Rattle.ap_ground.specs.ShownInstances.{InEachInstance, InEachShownInstance, IsTypedDerivable}
use Rattle.ap_ground.specs.TypedGroundings.{HaveInhabitants}
use Rattle.ap_soundness.specs.FoundStates.{EachFound}
use Rattle.ap_checks.specs.Checks.{Checks, each_once}
use Rattle.ap_checks.specs.TypeTests.{is_typed}

-- the test of types is true just where a term is typed
abbrev pub TypesAreTested : Type 0
TypesAreTested = (cs : List NominalConstructor) (vars : VarTypes) (t : NominalTerm) (w : Want) → is_typed cs vars t w ≡ true ↔ IsTyped cs vars t w

-- the derivation of each state that was found checks against its answer
abbrev pub FoundDerivationsCheck : Type 0
FoundDerivationsCheck = (p : NominalProgram) → IsTypedProgram p → (depth : ℕ) (q : NominalQuery) → IsTypedQuery term_form p.signature q
    → EachFound (λ s d. Checks p q (answer_in q.locals s d) (derivation_in s d)) (solve_query p.clauses depth q)

-- a derivation that checks, whoever made it, has only derivable instances, within its own height
abbrev pub CheckedIsDerivable : Type 0
CheckedIsDerivable = (p : NominalProgram) (q : NominalQuery) (a : NominalAnswer) (d : NominalDerivation) → Checks p q a d
    → InEachInstance p.signature.constructors a (IsTypedDerivable p q (height d))

-- so are the instances of what is shown of the answer, where each of its variables has an inhabited type
abbrev pub CheckedIsDerivableAsShown : Type 0
CheckedIsDerivableAsShown = (p : NominalProgram) → IsTypedProgram p → (q : NominalQuery) → IsTypedQuery term_form p.signature q
    → (a : NominalAnswer) (d : NominalDerivation) → Checks p q a d → HaveInhabitants p.signature.constructors a.vars
    → InEachShownInstance p.signature.constructors q.locals a (IsTypedDerivable p q (height d))

-- where a query is derivable in each instance of an answer, whoever made it, it is in each instance of what is shown of it, if each
-- of the answer's variables has one type, and that is inhabited
abbrev pub DerivableIsDerivableAsShown : Type 0
DerivableIsDerivableAsShown = (p : NominalProgram) → IsTypedProgram p → (q : NominalQuery) → IsTypedQuery term_form p.signature q
    → (a : NominalAnswer) → each_once a.vars ≡ true → HaveInhabitants p.signature.constructors a.vars → (depth : ℕ)
    → InEachInstance p.signature.constructors a (IsTypedDerivable p q depth) → InEachShownInstance p.signature.constructors q.locals a (IsTypedDerivable p q depth)
