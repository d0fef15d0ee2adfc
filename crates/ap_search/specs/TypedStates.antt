-- States and answers that are typed by the kinds of their numbers.
use Rattle.std.specs.Prelude.{◌≡◌, ℕ, Bool, false, List, [], ◌∷◌, length}
use Rattle.ap_defs.specs.Answers as answers
use Rattle.ap_defs.specs.Answers.{NominalAnswer, NominalOut}
use Rattle.ap_defs.specs.Freshness.{Conds}
use Rattle.ap_defs.specs.Resolution.{State}
use Rattle.ap_defs.specs.Substitution.{Binding, ◌:=◌}
use Rattle.ap_defs.specs.Types as types
use Rattle.ap_defs.specs.Types.{NominalConstructor, NominalKind, NominalLocal, NominalType}
use Rattle.ap_program.specs.RawTyping.{AreVarsOf, HasTermType, IsNameOf, IsVarOf}
use Rattle.ap_program.specs.Typed.{HaveTypes}

-- each variable is bound to a term of its type
abbrev pub AreTypedBindings : List NominalConstructor → List NominalKind → List Binding → Type 0
AreTypedBindings cs kinds [] = Unit {0}
AreTypedBindings cs kinds ((x := t) ∷ bs) = ((a : NominalType) × IsVarOf kinds x a × HasTermType cs kinds t a) × AreTypedBindings cs kinds bs

-- each condition is on a name and a variable
abbrev pub AreTypedConds : List NominalKind → Conds → Type 0
AreTypedConds kinds [] = Unit {0}
AreTypedConds kinds (c ∷ cs) = (IsNameOf kinds c.name c.name.sort × ((a : NominalType) × IsVarOf kinds c.var a)) × AreTypedConds kinds cs

pub record IsTypedState (cs : List NominalConstructor) (s : State) : Type 0 where
  pub bindings : AreTypedBindings cs s.kinds s.bindings
  pub conditions : AreTypedConds s.kinds s.conditions

-- the types of the free variables of an item, in order
abbrev pub type_unless : Bool → NominalKind → List NominalType → List NominalType
type_unless false (types.var t) ts = t ∷ ts
type_unless _ _ ts = ts

abbrev pub local_types : List NominalLocal → List NominalType
local_types [] = []
local_types (l ∷ ls) = type_unless l.bound l.kind (local_types ls)

-- There are kinds by which the bindings have the types of the query's free variables, and conditions and variables are typed.
pub record IsTypedAnswer (cs : List NominalConstructor) (locals : List NominalLocal) (a : NominalAnswer) : Type 0 where
  pub kinds : List NominalKind
  pub binds : HaveTypes (HasTermType cs kinds) a.binds (local_types locals)
  pub conds : AreTypedConds kinds a.conds
  pub vars : AreVarsOf kinds a.vars

-- each answer among outputs
abbrev pub AreTypedOuts : List NominalConstructor → List NominalLocal → List NominalOut → Type 0
AreTypedOuts cs locals [] = Unit {0}
AreTypedOuts cs locals (answers.found p a ∷ os) = IsTypedAnswer cs locals a × AreTypedOuts cs locals os
AreTypedOuts cs locals (answers.cut p ∷ os) = AreTypedOuts cs locals os
AreTypedOuts cs locals (answers.stuck p ∷ os) = AreTypedOuts cs locals os

-- each answer has so many bindings
abbrev pub HaveBindings : ℕ → List NominalOut → Type 0
HaveBindings n [] = Unit {0}
HaveBindings n (answers.found p a ∷ os) = (length a.binds ≡ n) × HaveBindings n os
HaveBindings n (answers.cut p ∷ os) = HaveBindings n os
HaveBindings n (answers.stuck p ∷ os) = HaveBindings n os
