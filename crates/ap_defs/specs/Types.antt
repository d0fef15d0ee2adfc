-- Types of terms, shapes of types with holes, the kinds of identifiers, and signatures.
use Rattle.std.specs.Prelude.{ℕ, Bool, List, map}
use Rattle.ap_defs.specs.declared.terms.Ty as code
use Rattle.ap_defs.specs.declared.terms.Shape as shapes
use Rattle.ap_defs.specs.declared.goals.Kind.{Kind}
use Rattle.ap_defs.specs.declared.goals.Kind.TheVariants as kinds
use Rattle.ap_defs.specs.declared.goals.Local.{Local}
use Rattle.ap_defs.specs.declared.goals.Constructor.{Constructor}
use Rattle.ap_defs.specs.declared.goals.Signature.{Signature}

-- Unit, the names of a sort, a data type, pairs, lists, and abstractions over the names of a sort.
pub data NominalType : Type 0 where
  unit : NominalType
  names : ℕ → NominalType
  base : ℕ → NominalType
  pair : NominalType → NominalType → NominalType
  list : NominalType → NominalType
  abs : ℕ → NominalType → NominalType

-- a type of the program, without where it lies in memory
abbrev pub type_of : code.Ty → NominalType
type_of code.Unit = unit
type_of (code.Names s) = names s
type_of (code.Base d) = base d
type_of (code.Pair' p t q u) = pair (type_of t) (type_of u)
type_of (code.List' p t) = list (type_of t)
type_of (code.Abs' s p t) = abs s (type_of t)

-- A type in which holes stand for types that are not known yet; what an abstraction is over may be one.
pub data TypeShape : Type 0 where
  hole : ℕ → TypeShape
  unit : TypeShape
  names : ℕ → TypeShape
  base : ℕ → TypeShape
  pair : TypeShape → TypeShape → TypeShape
  list : TypeShape → TypeShape
  abs : TypeShape → TypeShape → TypeShape

abbrev pub shape_of : shapes.Shape → TypeShape
shape_of (shapes.Hole n) = hole n
shape_of shapes.Unit = unit
shape_of (shapes.Names s) = names s
shape_of (shapes.Base d) = base d
shape_of (shapes.Pair' p t q u) = pair (shape_of t) (shape_of u)
shape_of (shapes.List' p t) = list (shape_of t)
shape_of (shapes.Abs' p t q u) = abs (shape_of t) (shape_of u)

abbrev pub IsNoPair : TypeShape → Type 0
IsNoPair (pair t u) = ⊥
IsNoPair t = Unit {0}

abbrev pub IsNoAbs : TypeShape → Type 0
IsNoAbs (abs t u) = ⊥
IsNoAbs t = Unit {0}

-- An identifier stands for a name of a sort, or for a term of a type.
pub data NominalKind : Type 0 where
  name : ℕ → NominalKind
  var : NominalType → NominalKind

abbrev pub kind_of : Kind → NominalKind
kind_of (kinds.Name s) = name s
kind_of (kinds.Var t) = var (type_of t)

-- An identifier of a clause or a query: its kind, whether `new` or `exists` brings it, and its spelling.
pub record NominalLocal : Type 0 where
  pub kind : NominalKind
  pub bound : Bool
  pub text : List ℕ

abbrev pub local_of : Local → NominalLocal
local_of l = record { kind = kind_of l.kind; bound = l.bound; text = l.text }

abbrev pub locals_of : List Local → List NominalLocal
locals_of = map local_of

-- A declared constructor: its spelling, the types of its arguments, and its data type.
pub record NominalConstructor : Type 0 where
  pub text : List ℕ
  pub args : List NominalType
  pub result : ℕ

abbrev pub constructor_of : Constructor → NominalConstructor
constructor_of c = record { text = c.text; args = map type_of c.args; result = c.result }

-- What a text declares, each in order: the declared constructor with the number f stands at place f - 2.
pub record NominalSignature : Type 0 where
  pub name_types : List (List ℕ)
  pub data_types : List (List ℕ)
  pub constructors : List NominalConstructor
  pub predicates : List (List NominalType)

abbrev pub signature_of : Signature → NominalSignature
signature_of s = record {
  name_types = s.name_types;
  data_types = s.data_types;
  constructors = map constructor_of s.constructors;
  predicates = map (map type_of) s.predicates;
}
