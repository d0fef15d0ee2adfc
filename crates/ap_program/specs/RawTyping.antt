-- Typing of terms by the kinds of an item's identifiers: of terms as they are read, and of nominal terms.
use Rattle.std.specs.Prelude.{◌≡◌, ℕ, zero, suc, List, [], ◌∷◌, Some}
use Rattle.ap_defs.specs.declared.terms.Name.{Name}
use Rattle.ap_defs.specs.declared.terms.Var.{Var}
use Rattle.ap_defs.specs.declared.terms.Swap.{Swap}
use Rattle.ap_defs.specs.declared.terms.Id.{Id}
use Rattle.ap_defs.specs.declared.terms.Id.TheVariants as ids
use Rattle.ap_defs.specs.Permutations.{left_name, right_name}
use Rattle.ap_defs.specs.RawTerms as raw
use Rattle.ap_defs.specs.RawTerms.{RawTerm}
use Rattle.ap_defs.specs.Terms as terms
use Rattle.ap_defs.specs.Terms.{NominalTerm}
use Rattle.ap_defs.specs.Types as types
use Rattle.ap_defs.specs.Types.{NominalType, NominalKind, NominalConstructor}
use Rattle.ap_defs.specs.Typing.{Want, nothing, one, more, IsApplication}
use Rattle.ap_defs.specs.Printing.{constructor_in}
use Rattle.ap_defs.specs.Answers.{kind_at}

-- the name, with its sort, is an identifier that stands for a name of that sort
abbrev pub IsNameOf : List NominalKind → Name → ℕ → Type 0
IsNameOf kinds a s = (a.sort ≡ s) × (kind_at kinds a.num ≡ Some (types.name s))

-- the variable is an identifier that stands for a term of the type
abbrev pub IsVarOf : List NominalKind → Var → NominalType → Type 0
IsVarOf kinds x t = kind_at kinds x.num ≡ Some (types.var t)

-- each variable has the type beside it
abbrev pub AreVarsOf : List NominalKind → List (Var × NominalType) → Type 0
AreVarsOf kinds [] = Unit {0}
AreVarsOf kinds (v ∷ vs) = IsVarOf kinds v.0 v.1 × AreVarsOf kinds vs

-- a word in a place where a name of the sort belongs: such a name, or a variable of its type
abbrev pub IsOfSort : List NominalKind → Id → ℕ → Type 0
IsOfSort kinds (ids.Name a) s = IsNameOf kinds a s
IsOfSort kinds (ids.Var x) s = IsVarOf kinds x (types.names s)

-- both stand for names of one sort
abbrev pub AreOfOneSort : List NominalKind → Id → Id → Type 0
AreOfOneSort kinds i j = (s : ℕ) × IsOfSort kinds i s × IsOfSort kinds j s

-- the term as it is read is what is wanted
abbrev pub IsTypedRaw : List NominalConstructor → List NominalKind → RawTerm → Want → Type 0
IsTypedRaw cs kinds raw.unit nothing = Unit {0}
IsTypedRaw cs kinds raw.unit (one types.unit) = Unit {0}
IsTypedRaw cs kinds (raw.name a) (one (types.names s)) = IsNameOf kinds a s
IsTypedRaw cs kinds (raw.var x) (one t) = IsVarOf kinds x t
IsTypedRaw cs kinds (raw.pair t u) (one (types.pair a b)) = IsTypedRaw cs kinds t (one a) × IsTypedRaw cs kinds u (one b)
IsTypedRaw cs kinds (raw.pair t u) (more a w) = IsTypedRaw cs kinds t (one a) × IsTypedRaw cs kinds u w
IsTypedRaw cs kinds (raw.app zero t) (one (types.list a)) = IsTypedRaw cs kinds t nothing
IsTypedRaw cs kinds (raw.app (suc zero) t) (one (types.list a)) = IsTypedRaw cs kinds t (more a (one (types.list a)))
IsTypedRaw cs kinds (raw.app f t) (one (types.base d)) = IsApplication (IsTypedRaw cs kinds t) (constructor_in cs f) d
IsTypedRaw cs kinds (raw.abs i t) (one (types.abs s b)) = IsOfSort kinds i s × IsTypedRaw cs kinds t (one b)
IsTypedRaw cs kinds (raw.swapped i j t) (one a) = AreOfOneSort kinds i j × IsTypedRaw cs kinds t (one a)
IsTypedRaw cs kinds _ _ = ⊥

-- each place of each swapping has a name of its sort
abbrev pub AreSwapsOf : List NominalKind → List Swap → Type 0
AreSwapsOf kinds [] = Unit {0}
AreSwapsOf kinds (s ∷ p) = IsNameOf kinds (left_name s) s.sort × IsNameOf kinds (right_name s) s.sort × AreSwapsOf kinds p

-- the nominal term is what is wanted, and its names and variables are identifiers
abbrev pub IsTypedTerm : List NominalConstructor → List NominalKind → NominalTerm → Want → Type 0
IsTypedTerm cs kinds terms.unit nothing = Unit {0}
IsTypedTerm cs kinds terms.unit (one types.unit) = Unit {0}
IsTypedTerm cs kinds (terms.name a) (one (types.names s)) = IsNameOf kinds a s
IsTypedTerm cs kinds (terms.pair t u) (one (types.pair a b)) = IsTypedTerm cs kinds t (one a) × IsTypedTerm cs kinds u (one b)
IsTypedTerm cs kinds (terms.pair t u) (more a w) = IsTypedTerm cs kinds t (one a) × IsTypedTerm cs kinds u w
IsTypedTerm cs kinds (terms.app zero t) (one (types.list a)) = IsTypedTerm cs kinds t nothing
IsTypedTerm cs kinds (terms.app (suc zero) t) (one (types.list a)) = IsTypedTerm cs kinds t (more a (one (types.list a)))
IsTypedTerm cs kinds (terms.app f t) (one (types.base d)) = IsApplication (IsTypedTerm cs kinds t) (constructor_in cs f) d
IsTypedTerm cs kinds (terms.abs a t) (one (types.abs s b)) = IsNameOf kinds a s × IsTypedTerm cs kinds t (one b)
IsTypedTerm cs kinds (terms.susp p x) (one a) = AreSwapsOf kinds p × IsVarOf kinds x a
IsTypedTerm cs kinds _ _ = ⊥

-- the term has the type, by the kinds
abbrev pub HasRawType : List NominalConstructor → List NominalKind → RawTerm → NominalType → Type 0
HasRawType cs kinds t a = IsTypedRaw cs kinds t (one a)

abbrev pub HasTermType : List NominalConstructor → List NominalKind → NominalTerm → NominalType → Type 0
HasTermType cs kinds t a = IsTypedTerm cs kinds t (one a)
