-- Groundings that give variables ground terms of their types.
use Rattle.std.specs.Prelude.{◌≡◌, true, List, [], ◌∷◌}
use Rattle.ap_defs.specs.declared.terms.Var.{Var}
use Rattle.ap_defs.specs.Answers.{kind_at}
use Rattle.ap_defs.specs.GroundProofs.{HasTypeOf}
use Rattle.ap_defs.specs.Groundings.{Grounding}
use Rattle.ap_defs.specs.Types.{NominalConstructor, NominalKind, NominalType}
use Rattle.ap_defs.specs.Typing.{IsOfType}
use Rattle.ap_defs.specs.Unification.{has_var}
use Rattle.ap_types.specs.Inhabited.{IsInhabited}

-- the grounding gives each of the variables a ground term of its type by the kinds
abbrev pub GivesKinds : List NominalConstructor → List NominalKind → List Var → Grounding → Type 0
GivesKinds cs kinds xs g = (x : Var) → has_var x xs ≡ true → HasTypeOf cs (kind_at kinds x.num) (g x)

-- the grounding gives each variable a ground term of the type beside it
abbrev pub GivesTypes : List NominalConstructor → List (Var × NominalType) → Grounding → Type 0
GivesTypes cs [] g = Unit {0}
GivesTypes cs (v ∷ vs) g = IsOfType cs (g v.0) v.1 × GivesTypes cs vs g

-- the type beside each variable is inhabited
abbrev pub HaveInhabitants : List NominalConstructor → List (Var × NominalType) → Type 0
HaveInhabitants cs [] = Unit {0}
HaveInhabitants cs (v ∷ vs) = IsInhabited cs v.1 × HaveInhabitants cs vs
