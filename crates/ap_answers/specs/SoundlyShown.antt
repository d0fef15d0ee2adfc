-- What is shown of an answer keeps what the answer says.
use Rattle.std.specs.Prelude.{◌≡◌, ℕ, true, List, map, Some}
use Rattle.ap_defs.specs.declared.terms.Var.{Var}
use Rattle.ap_defs.specs.Answers.{NominalAnswer}
use Rattle.ap_defs.specs.Goals.{NominalProgram, NominalQuery}
use Rattle.ap_defs.specs.Groundings.{Grounding, grounded, meets}
use Rattle.ap_defs.specs.Lines.{NominalShown, terms_of_binds, var_texts}
use Rattle.ap_defs.specs.Terms.{GroundTerm}
use Rattle.ap_defs.specs.Types.{NominalType}
use Rattle.ap_ground.specs.ShownInstances.{InEachInstance, IsTypedDerivable, shown_terms, vars_among}
use Rattle.ap_ground.specs.TypedGroundings.{GivesTypes, HaveInhabitants}
use Rattle.ap_checks.specs.Checks.{each_once, query_at}

-- For all ground terms of the types of the shown variables that meet the shown conditions there are terms for the query's variables for
-- which it is derivable to the depth, and those of the variables that are shown are the instances of the shown bindings.
abbrev pub IsDerivableAsShown : NominalProgram → NominalQuery → List (Var × NominalType) → ℕ → NominalShown → Type 0
IsDerivableAsShown p q vars depth s = (g : Grounding) → GivesTypes p.signature.constructors (vars_among s.vars vars) g → meets g s.conds ≡ true
    → (gs : List GroundTerm) × IsTypedDerivable p q depth gs × (shown_terms (var_texts q.locals) gs ≡ map (grounded g) (terms_of_binds s.binds))

-- Where the query of this number is derivable in each instance of the answer, and each of the answer's variables has one type, which is
-- inhabited, the query is derivable as the answer is shown.
abbrev pub IsSoundlyShown : NominalProgram → ℕ → NominalAnswer → NominalShown → Type 0
IsSoundlyShown p k a s = (q : NominalQuery) → query_at p.queries k ≡ Some q → each_once a.vars ≡ true → HaveInhabitants p.signature.constructors a.vars
    → (depth : ℕ) → InEachInstance p.signature.constructors a (IsTypedDerivable p q depth) → IsDerivableAsShown p q a.vars depth s
