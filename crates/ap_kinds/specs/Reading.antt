-- Kinds that are read off the shapes of holes.
use Rattle.std.specs.Prelude.{◌≡◌, ◌<◌, ◌↔◌, ℕ, ◌+◌, Bool, true, false, ◌&&◌, ◌⊎◌, nat_lt, List, [], ◌∷◌, length}
use Rattle.ap_defs.specs.Types.{NominalType, NominalKind, NominalSignature, TypeShape, hole, unit, names, base, pair, list, abs, name, var}
use Rattle.ap_defs.specs.Types as types
use Rattle.ap_types.specs.Equations.{Filling, GivesNames, IsShapeInstance}
use Rattle.ap_types.specs.Solving.{shape_at}
use Rattle.ap_types.specs.Growing.{IsTableSolution, IsTableUnsolvable}
use Rattle.ap_types.specs.Assignments.{AreNames}
use Rattle.ap_program.specs.Typed.{AreInhabited}
use Rattle.ap_kinds.specs.declared.kinds.IdentKind.{IdentKind}
use Rattle.ap_kinds.specs.declared.kinds.IdentKind.TheVariants as classes
use Rattle.ap_kinds.specs.declared.errors.KindsError.{KindsError}
use Rattle.ap_kinds.specs.declared.errors.KindsError.TheVariants as errors
use Rattle.ap_kinds.specs.Systems.{EquationSystem}

-- its name types are among the first n declared ones, its data types among the first m
abbrev pub is_declared : ℕ → ℕ → TypeShape → Bool
is_declared n m (hole x) = true
is_declared n m unit = true
is_declared n m (names s) = nat_lt s n
is_declared n m (base d) = nat_lt d m
is_declared n m (pair t u) = is_declared n m t && is_declared n m u
is_declared n m (list t) = is_declared n m t
is_declared n m (abs t u) = is_declared n m t && is_declared n m u

abbrev pub is_sort : TypeShape → Bool
is_sort (names s) = true
is_sort _ = false

-- it has no hole, and only name types to the left in abstractions
abbrev pub is_closed : TypeShape → Bool
is_closed (hole x) = false
is_closed unit = true
is_closed (names s) = true
is_closed (base d) = true
is_closed (pair t u) = is_closed t && is_closed u
is_closed (list t) = is_closed t
is_closed (abs t u) = is_sort t && is_closed u

abbrev pub sort_in_shape : TypeShape → ℕ
sort_in_shape (names s) = s
sort_in_shape _ = 0

-- the type that a closed shape is
abbrev pub read_type : TypeShape → NominalType
read_type (hole x) = types.unit
read_type unit = types.unit
read_type (names s) = types.names s
read_type (base d) = types.base d
read_type (pair t u) = types.pair (read_type t) (read_type u)
read_type (list t) = types.list (read_type t)
read_type (abs t u) = types.abs (sort_in_shape t) (read_type u)

abbrev pub read_kind : IdentKind → TypeShape → NominalKind
read_kind classes.Name t = name (sort_in_shape t)
read_kind classes.Var t = var (read_type t)

-- the kinds of identifiers that are numbered from i on
abbrev pub read_kinds : List TypeShape → ℕ → List IdentKind → List NominalKind
read_kinds ts i [] = []
read_kinds ts i (c ∷ cs) = read_kind c (shape_at ts i) ∷ read_kinds ts (i + 1) cs

-- The shapes are the most general ones that solve the system.
pub record IsSystemSolved (n : ℕ) (s : EquationSystem) (ts : List TypeShape) : Type 0 where
  pub most_general : (f : Filling) → IsTableSolution s.table s.equations s.names n f ↔ (IsShapeInstance ts f × GivesNames n f s.names)
  pub constrained : AreNames n ts s.names

abbrev pub AllDeclared : ℕ → ℕ → ℕ → List TypeShape → Type 0
AllDeclared n m count ts = (x : ℕ) → x < count → is_declared n m (shape_at ts x) ≡ true

abbrev pub SomeUndeclared : ℕ → ℕ → ℕ → List TypeShape → Type 0
SomeUndeclared n m count ts = (x : ℕ) × (x < count) × (is_declared n m (shape_at ts x) ≡ false)

abbrev pub AllClosed : ℕ → List TypeShape → Type 0
AllClosed count ts = (x : ℕ) → x < count → is_closed (shape_at ts x) ≡ true

abbrev pub SomeOpen : ℕ → List TypeShape → Type 0
SomeOpen count ts = (x : ℕ) × (x < count) × (is_closed (shape_at ts x) ≡ false)

abbrev pub name_count : NominalSignature → ℕ
name_count sig = length sig.name_types

abbrev pub data_count : NominalSignature → ℕ
data_count sig = length sig.data_types

-- The kinds are read off shapes that are declared and closed.
pub record AreKindsRead (sig : NominalSignature) (idents : List IdentKind) (ts : List TypeShape) (ks : List NominalKind) : Type 0 where
  pub declared : AllDeclared (name_count sig) (data_count sig) (length idents) ts
  pub closed : AllClosed (length idents) ts
  pub read : ks ≡ read_kinds ts 0 idents

-- what stands in the way of reading inhabited kinds off shapes
abbrev pub IsUnread : KindsError → NominalSignature → List IdentKind → List TypeShape → Type 0
IsUnread errors.Clash sig idents ts = SomeUndeclared (name_count sig) (data_count sig) (length idents) ts
IsUnread errors.Ambiguous sig idents ts = AllDeclared (name_count sig) (data_count sig) (length idents) ts × SomeOpen (length idents) ts
IsUnread errors.Empty sig idents ts = (ks : List NominalKind) × AreKindsRead sig idents ts ks × (AreInhabited sig.constructors ks → ⊥)
IsUnread errors.Memory sig idents ts = Unit {0}

-- inhabited kinds are read off the shapes that solve the system
abbrev pub IsFound : NominalSignature → List IdentKind → EquationSystem → List NominalKind → Type 0
IsFound sig idents s ks = (ts : List TypeShape) × IsSystemSolved (name_count sig) s ts × AreKindsRead sig idents ts ks × AreInhabited sig.constructors ks

abbrev pub IsUnsolved : KindsError → NominalSignature → EquationSystem → Type 0
IsUnsolved errors.Clash sig s = IsTableUnsolvable s.table s.equations s.names (name_count sig)
IsUnsolved errors.Ambiguous sig s = ⊥
IsUnsolved errors.Empty sig s = ⊥
IsUnsolved errors.Memory sig s = Unit {0}

-- nothing solves the system, or what does gives no inhabited kinds
abbrev pub IsNotFound : KindsError → NominalSignature → List IdentKind → EquationSystem → Type 0
IsNotFound e sig idents s = IsUnsolved e sig s ⊎ ((ts : List TypeShape) × IsSystemSolved (name_count sig) s ts × IsUnread e sig idents ts)
