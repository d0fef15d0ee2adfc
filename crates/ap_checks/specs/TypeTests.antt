-- Tests of types: the relation of typing, as a test.
use Rattle.std.specs.Prelude.{ℕ, zero, suc, Bool, true, false, ◌==◌, ◌&&◌, if◌then◌else◌, List, [], ◌∷◌, Option, Some, None}
use Rattle.ap_defs.specs.declared.terms.Name.{Name}
use Rattle.ap_defs.specs.declared.terms.Var.{Var}
use Rattle.ap_defs.specs.Answers.{kind_at}
use Rattle.ap_defs.specs.Freshness.{var_eq}
use Rattle.ap_defs.specs.Printing.{constructor_in}
use Rattle.ap_defs.specs.Terms as terms
use Rattle.ap_defs.specs.Terms.{NominalTerm}
use Rattle.ap_defs.specs.Types as types
use Rattle.ap_defs.specs.Types.{NominalConstructor, NominalKind, NominalType}
use Rattle.ap_defs.specs.Typing.{VarTypes, Want, arguments, more, nothing, one}

abbrev pub type_eq : NominalType → NominalType → Bool
type_eq types.unit types.unit = true
type_eq (types.names s) (types.names r) = s == r
type_eq (types.base d) (types.base e) = d == e
type_eq (types.pair a b) (types.pair c d) = type_eq a c && type_eq b d
type_eq (types.list a) (types.list b) = type_eq a b
type_eq (types.abs s a) (types.abs r b) = (s == r) && type_eq a b
type_eq _ _ = false

-- the type beside the variable, if it is there
abbrev pub type_beside : List (Var × NominalType) → VarTypes
type_beside [] x = None
type_beside (v ∷ vs) x = if var_eq v.0 x then Some v.1 else type_beside vs x

abbrev pub is_type : Option NominalType → NominalType → Bool
is_type None a = false
is_type (Some b) a = type_eq b a

abbrev pub is_application : (Want → Bool) → Option NominalConstructor → ℕ → Bool
is_application typed None d = false
is_application typed (Some c) d = (c.result == d) && typed (arguments c.args)

-- the term is what is wanted
abbrev pub is_typed : List NominalConstructor → VarTypes → NominalTerm → Want → Bool
is_typed cs vars terms.unit nothing = true
is_typed cs vars terms.unit (one types.unit) = true
is_typed cs vars (terms.name a) (one (types.names s)) = a.sort == s
is_typed cs vars (terms.pair t u) (one (types.pair a b)) = is_typed cs vars t (one a) && is_typed cs vars u (one b)
is_typed cs vars (terms.pair t u) (more a w) = is_typed cs vars t (one a) && is_typed cs vars u w
is_typed cs vars (terms.app zero t) (one (types.list a)) = is_typed cs vars t nothing
is_typed cs vars (terms.app (suc zero) t) (one (types.list a)) = is_typed cs vars t (more a (one (types.list a)))
is_typed cs vars (terms.app f t) (one (types.base d)) = is_application (is_typed cs vars t) (constructor_in cs f) d
is_typed cs vars (terms.abs a t) (one (types.abs s b)) = (a.sort == s) && is_typed cs vars t (one b)
is_typed cs vars (terms.susp p x) (one a) = is_type (vars x) a
is_typed cs vars _ _ = false

-- the term has the type of a place with this kind
abbrev pub has_kind : List NominalConstructor → VarTypes → Option NominalKind → NominalTerm → Bool
has_kind cs vars (Some (types.var a)) t = is_typed cs vars t (one a)
has_kind cs vars _ t = false

-- as many terms, each of the type of the variable at its place
abbrev pub have_kinds : List NominalConstructor → VarTypes → List NominalKind → List Var → List NominalTerm → Bool
have_kinds cs vars kinds [] [] = true
have_kinds cs vars kinds (x ∷ xs) (t ∷ ts) = has_kind cs vars (kind_at kinds x.num) t && have_kinds cs vars kinds xs ts
have_kinds cs vars kinds _ _ = false

-- as many names, each of the sort at its place
abbrev pub have_sorts : List Name → List Name → Bool
have_sorts [] [] = true
have_sorts (a ∷ as') (c ∷ cs) = (c.sort == a.sort) && have_sorts as' cs
have_sorts _ _ = false
