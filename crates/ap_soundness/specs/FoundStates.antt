-- Properties of each state and of each answer among outputs, and what is proved of them.
use Rattle.std.specs.Prelude.{◌≡◌, ℕ, true, List, [], ◌∷◌, map}
use Rattle.ap_defs.specs.Answers as answers
use Rattle.ap_defs.specs.Answers.{NominalAnswer, NominalOut}
use Rattle.ap_defs.specs.Derivations.{NominalDerivation, terms_in}
use Rattle.ap_defs.specs.Goals.{NominalProgram, NominalQuery}
use Rattle.ap_defs.specs.GroundProofs.{IsDerivable}
use Rattle.ap_defs.specs.Groundings.{Grounding, agrees, meets}
use Rattle.ap_defs.specs.Occurrences.{vars_of_terms}
use Rattle.ap_defs.specs.Renaming.{local_vars}
use Rattle.ap_defs.specs.Resolution as search
use Rattle.ap_defs.specs.Resolution.{Output, State}
use Rattle.ap_ground.specs.TypedGroundings.{GivesKinds}

-- each state that was found, with its derivation, has the property
abbrev pub EachFound : (State → NominalDerivation → Type 0) → List Output → Type 0
EachFound P [] = Unit {0}
EachFound P (search.found p s d ∷ os) = P s d × EachFound P os
EachFound P (search.cut p ∷ os) = EachFound P os
EachFound P (search.stuck p ∷ os) = EachFound P os
EachFound P (search.chose p c ∷ os) = EachFound P os

-- each answer has the property
abbrev pub EachAnswer : (NominalAnswer → Type 0) → List NominalOut → Type 0
EachAnswer P [] = Unit {0}
EachAnswer P (answers.found p a ∷ os) = P a × EachAnswer P os
EachAnswer P (answers.cut p ∷ os) = EachAnswer P os
EachAnswer P (answers.stuck p ∷ os) = EachAnswer P os

-- the grounding agrees with the state's bindings and meets its conditions
pub record Solves (g : Grounding) (s : State) : Type 0 where
  pub agreeing : agrees g s.bindings ≡ true
  pub meeting : meets g s.conditions ≡ true

-- each grounding that solves the state, typed on the variables of the derivation, gives the query's free variables terms for
-- which the query is derivable
abbrev pub IsDerivableState : NominalProgram → NominalQuery → ℕ → State → NominalDerivation → Type 0
IsDerivableState p q depth s d = (g : Grounding) → Solves g s → GivesKinds p.signature.constructors s.kinds (vars_of_terms (terms_in d)) g
    → IsDerivable p q (map g (local_vars 0 q.locals)) depth
