-- What is proved of ground terms that have types.
use Rattle.std.specs.Prelude.{◌≡◌, true, List, [], map}
use Rattle.ap_defs.specs.declared.terms.Name.{Name}
use Rattle.ap_defs.specs.declared.terms.Swap.{Swap}
use Rattle.ap_defs.specs.Alpha.{fresh}
use Rattle.ap_defs.specs.Groundings.{Grounding, grounded}
use Rattle.ap_defs.specs.Occurrences.{vars_of_terms}
use Rattle.ap_defs.specs.Permutations.{has_name}
use Rattle.ap_defs.specs.Terms.{GroundTerm, NominalTerm, act_ground}
use Rattle.ap_defs.specs.Types.{NominalConstructor, NominalKind, NominalType}
use Rattle.ap_defs.specs.Typing.{IsOfType}
use Rattle.ap_defs.specs.Unification.{vars_then}
use Rattle.ap_program.specs.RawTyping.{HasTermType}
use Rattle.ap_program.specs.Typed.{HaveTypes}
use Rattle.ap_types.specs.Inhabited.{IsInhabited}
use Rattle.ap_ground.specs.TypedGroundings.{GivesKinds}

-- a permutation keeps the type of a ground term
abbrev pub TypesAreEquivariant : Type 0
TypesAreEquivariant = (cs : List NominalConstructor) (s : List Swap) (g : GroundTerm) (a : NominalType) → IsOfType cs g a → IsOfType cs (act_ground s g) a

-- an inhabited type has a ground term for which any given names are fresh
abbrev pub InhabitedAvoidsNames : Type 0
InhabitedAvoidsNames = (cs : List NominalConstructor) (t : NominalType) → IsInhabited cs t → (avoided : List Name)
    → (g : GroundTerm) × IsOfType cs g t × ((a : Name) → has_name a avoided ≡ true → fresh a g ≡ true)

-- a term that has a type has a ground term of that type for each typed grounding of its variables
abbrev pub InstancesHaveTypes : Type 0
InstancesHaveTypes = (cs : List NominalConstructor) (kinds : List NominalKind) (g : Grounding) (t : NominalTerm) (a : NominalType)
    → HasTermType cs kinds t a → GivesKinds cs kinds (vars_then t []) g → IsOfType cs (grounded g t) a

-- and so terms that have types, one each
abbrev pub InstancesHaveTypesEach : Type 0
InstancesHaveTypesEach = (cs : List NominalConstructor) (kinds : List NominalKind) (g : Grounding) (ts : List NominalTerm) (as' : List NominalType)
    → HaveTypes (HasTermType cs kinds) ts as' → GivesKinds cs kinds (vars_of_terms ts) g → HaveTypes (IsOfType cs) (map (grounded g) ts) as'
