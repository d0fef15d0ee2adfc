-- Typing of terms. It is a relation, since the empty list has every list type.
use Rattle.std.specs.Prelude.{◌≡◌, ℕ, zero, suc, List, [], ◌∷◌, Option, Some, None}
use Rattle.ap_defs.specs.declared.terms.Var.{Var}
use Rattle.ap_defs.specs.Terms as terms
use Rattle.ap_defs.specs.Terms.{NominalTerm, GroundTerm}
use Rattle.ap_defs.specs.Types as types
use Rattle.ap_defs.specs.Types.{NominalType, NominalConstructor}
use Rattle.ap_defs.specs.Printing.{constructor_in}

-- What an application's argument is to be: nothing, a term of a type, or a tuple with a part of each type.
pub data Want : Type 0 where
  nothing : Want
  one : NominalType → Want
  more : NominalType → Want → Want

-- the arguments of a constructor
abbrev pub arguments : List NominalType → Want
arguments [] = nothing
arguments (t ∷ []) = one t
arguments (t ∷ u ∷ us) = more t (arguments (u ∷ us))

-- what the variables stand for
abbrev pub VarTypes : Type 0
VarTypes = Var → Option NominalType

-- an application of a declared constructor has its data type, where its arguments are written out
abbrev pub IsApplication : (Want → Type 0) → Option NominalConstructor → ℕ → Type 0
IsApplication typed None d = ⊥
IsApplication typed (Some c) d = (c.result ≡ d) × typed (arguments c.args)

-- the term is what is wanted
abbrev pub IsTyped : List NominalConstructor → VarTypes → NominalTerm → Want → Type 0
IsTyped cs vars terms.unit nothing = Unit {0}
IsTyped cs vars terms.unit (one types.unit) = Unit {0}
IsTyped cs vars (terms.name a) (one (types.names s)) = a.sort ≡ s
IsTyped cs vars (terms.pair t u) (one (types.pair a b)) = IsTyped cs vars t (one a) × IsTyped cs vars u (one b)
IsTyped cs vars (terms.pair t u) (more a w) = IsTyped cs vars t (one a) × IsTyped cs vars u w
IsTyped cs vars (terms.app zero t) (one (types.list a)) = IsTyped cs vars t nothing
IsTyped cs vars (terms.app (suc zero) t) (one (types.list a)) = IsTyped cs vars t (more a (one (types.list a)))
IsTyped cs vars (terms.app f t) (one (types.base d)) = IsApplication (IsTyped cs vars t) (constructor_in cs f) d
IsTyped cs vars (terms.abs a t) (one (types.abs s b)) = (a.sort ≡ s) × IsTyped cs vars t (one b)
IsTyped cs vars (terms.susp p x) (one a) = vars x ≡ Some a
IsTyped cs vars _ _ = ⊥

-- the term has the type
abbrev pub HasType : List NominalConstructor → VarTypes → NominalTerm → NominalType → Type 0
HasType cs vars t a = IsTyped cs vars t (one a)

-- a ground term as a nominal one
abbrev pub embedded : GroundTerm → NominalTerm
embedded terms.unit = terms.unit
embedded (terms.name a) = terms.name a
embedded (terms.pair g h) = terms.pair (embedded g) (embedded h)
embedded (terms.app f g) = terms.app f (embedded g)
embedded (terms.abs a g) = terms.abs a (embedded g)

-- the ground term has the type
abbrev pub IsOfType : List NominalConstructor → GroundTerm → NominalType → Type 0
IsOfType cs g a = HasType cs (λ x. None) (embedded g) a
