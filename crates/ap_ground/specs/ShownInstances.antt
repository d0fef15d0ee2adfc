-- Instances of an answer, and what is shown of them.
use Rattle.std.specs.Prelude.{◌≡◌, ℕ, true, if◌then◌else◌, List, [], ◌∷◌, map, filter, codes}
use Rattle.std.specs.Str.{bytes_eq}
use Rattle.ap_defs.specs.declared.terms.Var.{Var}
use Rattle.ap_defs.specs.Answers.{NominalAnswer}
use Rattle.ap_defs.specs.Goals.{NominalProgram, NominalQuery}
use Rattle.ap_defs.specs.GroundProofs.{AreOfTypes, IsDerivable}
use Rattle.ap_defs.specs.Groundings.{Grounding, grounded, meets}
use Rattle.ap_defs.specs.Lines.{shown_in, terms_of_binds, var_texts}
use Rattle.ap_defs.specs.Renaming.{local_vars}
use Rattle.ap_defs.specs.Resolution.{kinds_of}
use Rattle.ap_defs.specs.Terms.{GroundTerm}
use Rattle.ap_defs.specs.Types.{NominalConstructor, NominalLocal, NominalType}
use Rattle.ap_defs.specs.Unification.{has_var}
use Rattle.ap_ground.specs.TypedGroundings.{GivesTypes}

-- of terms for variables with these spellings, those of the variables that are shown
abbrev pub shown_terms : {T : Type 0} → List (List ℕ) → List T → List T
shown_terms (w ∷ ws) (t ∷ ts) = if bytes_eq w (codes "_") then shown_terms ws ts else (t ∷ shown_terms ws ts)
shown_terms _ _ = []

-- those of the typed variables that stand in a list
abbrev pub vars_among : List Var → List (Var × NominalType) → List (Var × NominalType)
vars_among xs vs = filter (λ v. has_var v.0 xs) vs

-- The grounding gives each variable of the answer a term of its type, and meets the conditions.
pub record IsInstanceOf (cs : List NominalConstructor) (a : NominalAnswer) (g : Grounding) : Type 0 where
  pub types : GivesTypes cs a.vars g
  pub conditions : meets g a.conds ≡ true

-- The grounding does so as far as variables and conditions are shown.
pub record IsShownInstanceOf (cs : List NominalConstructor) (locals : List NominalLocal) (a : NominalAnswer) (g : Grounding) : Type 0 where
  pub types : GivesTypes cs (vars_among (shown_in locals a).vars a.vars) g
  pub conditions : meets g (shown_in locals a).conds ≡ true

-- the terms of a query's free variables have the property in each instance of the answer
abbrev pub InEachInstance : List NominalConstructor → NominalAnswer → (List GroundTerm → Type 0) → Type 0
InEachInstance cs a P = (g : Grounding) → IsInstanceOf cs a g → P (map (grounded g) a.binds)

-- for each instance of what is shown there are terms that have the property, and those that are shown are the instances of the shown bindings
abbrev pub InEachShownInstance : List NominalConstructor → List NominalLocal → NominalAnswer → (List GroundTerm → Type 0) → Type 0
InEachShownInstance cs locals a P = (g : Grounding) → IsShownInstanceOf cs locals a g
    → (gs : List GroundTerm) × P gs × (shown_terms (var_texts locals) gs ≡ map (grounded g) (terms_of_binds (shown_in locals a).binds))

-- the terms have the types of the query's free variables, and the query is derivable for them
abbrev pub IsTypedDerivable : NominalProgram → NominalQuery → ℕ → List GroundTerm → Type 0
IsTypedDerivable p q d gs = AreOfTypes p.signature.constructors (kinds_of q.locals) (local_vars 0 q.locals) gs × IsDerivable p q gs d
