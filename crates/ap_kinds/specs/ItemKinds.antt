-- Which kinds of its identifiers type an item, and what is found of them.
use Rattle.std.specs.Prelude.{◌≡◌, ◌<◌, ℕ, List, [], ◌∷◌, length}
use Rattle.ap_defs.specs.RawTerms.{RawTerm}
use Rattle.ap_defs.specs.Types as types
use Rattle.ap_defs.specs.Types.{NominalType, NominalKind, NominalConstructor, NominalSignature}
use Rattle.ap_defs.specs.Goals.{GoalOver}
use Rattle.ap_program.specs.RawTyping.{HasRawType}
use Rattle.ap_program.specs.Typed.{AreArguments, predicate_at, IsTypedGoal, AreInhabited}
use Rattle.ap_kinds.specs.declared.kinds.IdentKind.{IdentKind}
use Rattle.ap_kinds.specs.declared.kinds.IdentKind.TheVariants as classes
use Rattle.ap_kinds.specs.declared.errors.KindsError.{KindsError}
use Rattle.ap_kinds.specs.declared.errors.KindsError.TheVariants as errors
use Rattle.ap_kinds.specs.Sorts.{terms_with_sorts, goal_with_sorts}

-- each identifier has one kind, of a name or of a variable as it is one
abbrev pub AreOfClasses : List IdentKind → List NominalKind → Type 0
AreOfClasses [] [] = Unit {0}
AreOfClasses (classes.Name ∷ cs) (types.name s ∷ ks) = AreOfClasses cs ks
AreOfClasses (classes.Var ∷ cs) (types.var t ∷ ks) = AreOfClasses cs ks
AreOfClasses _ _ = ⊥

-- its name types are among the first n declared ones, its data types among the first m
abbrev pub IsDeclaredType : ℕ → ℕ → NominalType → Type 0
IsDeclaredType n m types.unit = Unit {0}
IsDeclaredType n m (types.names s) = s < n
IsDeclaredType n m (types.base d) = d < m
IsDeclaredType n m (types.pair t u) = IsDeclaredType n m t × IsDeclaredType n m u
IsDeclaredType n m (types.list t) = IsDeclaredType n m t
IsDeclaredType n m (types.abs s t) = (s < n) × IsDeclaredType n m t

abbrev pub IsDeclaredKind : ℕ → ℕ → NominalKind → Type 0
IsDeclaredKind n m (types.name s) = s < n
IsDeclaredKind n m (types.var t) = IsDeclaredType n m t

abbrev pub AreDeclaredKinds : ℕ → ℕ → List NominalKind → Type 0
AreDeclaredKinds n m [] = Unit {0}
AreDeclaredKinds n m (k ∷ ks) = IsDeclaredKind n m k × AreDeclaredKinds n m ks

-- each kind is of a type that is declared
abbrev pub AreDeclared : NominalSignature → List NominalKind → Type 0
AreDeclared sig ks = AreDeclaredKinds (length sig.name_types) (length sig.data_types) ks

-- kinds of the identifiers, each of its class and of a declared type, by which the table of types holds
abbrev pub AreKinds : NominalSignature → List IdentKind → (List NominalKind → Type 0) → List NominalKind → Type 0
AreKinds sig idents holds ks = AreOfClasses idents ks × AreDeclared sig ks × holds ks

-- the goal, whose names have the sorts of the kinds, is typed by the kinds
abbrev pub GoalTyped : NominalSignature → GoalOver RawTerm → List NominalKind → Type 0
GoalTyped sig goal ks = IsTypedGoal (HasRawType sig.constructors ks) sig.predicates ks (goal_with_sorts ks goal)

-- so are the arguments of a predicate
abbrev pub HeadTyped : NominalSignature → ℕ → List RawTerm → List NominalKind → Type 0
HeadTyped sig pred args ks = AreArguments (HasRawType sig.constructors ks) (terms_with_sorts ks args) (predicate_at sig.predicates pred)

-- the kinds type the query
abbrev pub TypesQuery : NominalSignature → List IdentKind → GoalOver RawTerm → List NominalKind → Type 0
TypesQuery sig idents goal = AreKinds sig idents (GoalTyped sig goal)

-- the kinds type a clause of the predicate: its head's arguments and its body
abbrev pub TypesClause : NominalSignature → List IdentKind → ℕ → List RawTerm → GoalOver RawTerm → List NominalKind → Type 0
TypesClause sig idents pred args body = AreKinds sig idents (λ ks. HeadTyped sig pred args ks × GoalTyped sig body ks)

-- it holds of these kinds and of no others
abbrev pub IsOnly : (List NominalKind → Type 0) → List NominalKind → Type 0
IsOnly P ks = P ks × ((ls : List NominalKind) → P ls → ls ≡ ks)

-- the only kinds, whose variables' types are inhabited
abbrev pub IsInferred : List NominalConstructor → (List NominalKind → Type 0) → List NominalKind → Type 0
IsInferred cs P ks = IsOnly P ks × AreInhabited cs ks

-- No kinds, more than one list of kinds, or only kinds of which some variable's type isn't inhabited.
abbrev pub IsRefused : KindsError → List NominalConstructor → (List NominalKind → Type 0) → Type 0
IsRefused errors.Clash cs P = (ks : List NominalKind) → P ks → ⊥
IsRefused errors.Ambiguous cs P = (ks : List NominalKind) × (ls : List NominalKind) × P ks × P ls × (ks ≡ ls → ⊥)
IsRefused errors.Empty cs P = (ks : List NominalKind) × IsOnly P ks × (AreInhabited cs ks → ⊥)
IsRefused errors.Memory cs P = Unit {0}
