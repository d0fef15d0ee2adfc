-- The faults of an item that its words show before it is typed.
use Rattle.std.specs.Prelude.{ℕ, suc, ◌==◌, if◌then◌else◌, nat_le, List, [], ◌∷◌, Option, None, Some, length, slice_get}
use Rattle.std.specs.Option.{option_map}
use Rattle.ap_defs.specs.Types.{NominalType, NominalSignature, names, base}
use Rattle.ap_defs.specs.FaultKinds.{type_number}
use Rattle.ap_defs.specs.declared.faults.TypeKind.{TypeKind}
use Rattle.ap_defs.specs.declared.faults.TypeKind.TheVariants as kinds
use Rattle.ap_trees.specs.Types as types
use Rattle.ap_trees.specs.Types.{Ty}
use Rattle.ap_trees.specs.Terms as terms
use Rattle.ap_trees.specs.Terms.{Name, OfWord, OfVar, Term, Terms}
use Rattle.ap_trees.specs.Goals as goals
use Rattle.ap_trees.specs.Goals.{Goal}
use Rattle.ap_trees.specs.Items as items
use Rattle.ap_trees.specs.Items.{Saying}
use Rattle.ap_scopes.specs.Declarations.{Declared, type_named, constructor_place, predicate_place}

-- the kind of the lesser number
abbrev pub lesser : TypeKind → TypeKind → TypeKind
lesser k m = if nat_le (type_number k) (type_number m) then k else m

-- the least kind of two parts, each of which may have none
abbrev pub least_kind : Option TypeKind → Option TypeKind → Option TypeKind
least_kind None k = k
least_kind (Some k) None = Some k
least_kind (Some k) (Some m) = Some (lesser k m)

-- Types. What stands for a type is declared; left of `\` it is a name type.
abbrev pub type_word_flaw : Option NominalType → Option TypeKind
type_word_flaw (Some t) = None
type_word_flaw None = Some kinds.Undeclared

abbrev pub name_type_flaw : Option NominalType → Option TypeKind
name_type_flaw (Some (names s)) = None
name_type_flaw (Some t) = Some kinds.Clash
name_type_flaw None = Some kinds.Undeclared

abbrev pub type_flaw : NominalSignature → Ty → Option TypeKind
type_flaw s types.Unit = None
type_flaw s (types.Word w) = type_word_flaw (type_named s w)
type_flaw s (types.Pair t u) = least_kind (type_flaw s t) (type_flaw s u)
type_flaw s (types.Array t) = type_flaw s t
type_flaw s (types.Abs w t) = least_kind (name_type_flaw (type_named s w)) (type_flaw s t)

abbrev pub types_flaw : NominalSignature → List Ty → Option TypeKind
types_flaw s [] = None
types_flaw s (t ∷ ts) = least_kind (type_flaw s t) (types_flaw s ts)

-- Terms. A constructor or predicate is declared, with as many arguments as stand there.
abbrev pub arity_flaw : ℕ → ℕ → Option TypeKind
arity_flaw declared given = if declared == given then None else Some kinds.Arity

abbrev pub count_flaw : ℕ → Option ℕ → Option TypeKind
count_flaw given None = Some kinds.Undeclared
count_flaw given (Some n) = arity_flaw n given

-- how many arguments a constructor or a predicate has
abbrev pub constructor_arity_at : Declared → Option ℕ → Option ℕ
constructor_arity_at d None = None
constructor_arity_at d (Some i) = option_map (λ c. length c.args) (slice_get d.signature.constructors i)

abbrev pub constructor_arity : Declared → List ℕ → Option ℕ
constructor_arity d w = constructor_arity_at d (constructor_place d w)

abbrev pub predicate_arity_at : Declared → Option ℕ → Option ℕ
predicate_arity_at d None = None
predicate_arity_at d (Some i) = option_map (λ ts. length ts) (slice_get d.signature.predicates i)

abbrev pub predicate_arity : Declared → List ℕ → Option ℕ
predicate_arity d w = predicate_arity_at d (predicate_place d w)

-- a word alone is a constructor only where one is declared
abbrev pub word_flaw : Option ℕ → Option TypeKind
word_flaw None = None
word_flaw (Some n) = arity_flaw n 0

-- a declared constructor as a binder, in one of the first two places of a swapping, or after `new`
abbrev pub clash_if : Option ℕ → Option TypeKind
clash_if None = None
clash_if (Some i) = Some kinds.Clash

abbrev pub binder_flaw : Declared → Name → Option TypeKind
binder_flaw d (OfWord w) = clash_if (constructor_place d w)
binder_flaw d (OfVar w) = None

abbrev pub term_count : Terms → ℕ
term_count (terms.Last t) = 1
term_count (terms.More t ts) = suc (term_count ts)

abbrev mutual
  pub term_flaw : Declared → Term → Option TypeKind
  term_flaw d terms.Unit = None
  term_flaw d (terms.Variable w) = None
  term_flaw d (terms.Word w) = word_flaw (constructor_arity d w)
  term_flaw d (terms.Apply w ts) = least_kind (count_flaw (term_count ts) (constructor_arity d w)) (arguments_flaw d ts)
  term_flaw d (terms.Pair t u) = least_kind (term_flaw d t) (term_flaw d u)
  term_flaw d terms.Nil = None
  term_flaw d (terms.Cell t u) = least_kind (term_flaw d t) (term_flaw d u)
  term_flaw d (terms.Abs a t) = least_kind (binder_flaw d a) (term_flaw d t)
  term_flaw d (terms.Swapped a b t) = least_kind (least_kind (binder_flaw d a) (binder_flaw d b)) (term_flaw d t)

  pub arguments_flaw : Declared → Terms → Option TypeKind
  arguments_flaw d (terms.Last t) = term_flaw d t
  arguments_flaw d (terms.More t ts) = least_kind (term_flaw d t) (arguments_flaw d ts)

abbrev pub terms_flaw : Declared → List Term → Option TypeKind
terms_flaw d [] = None
terms_flaw d (t ∷ ts) = least_kind (term_flaw d t) (terms_flaw d ts)

abbrev pub atom_flaw : Declared → List ℕ → List Term → Option TypeKind
atom_flaw d w ts = least_kind (count_flaw (length ts) (predicate_arity d w)) (terms_flaw d ts)

abbrev pub goal_flaw : Declared → Goal → Option TypeKind
goal_flaw d (goals.Atom w ts) = atom_flaw d w ts
goal_flaw d (goals.Equation t u) = least_kind (term_flaw d t) (term_flaw d u)
goal_flaw d (goals.Freshness t u) = least_kind (term_flaw d t) (term_flaw d u)
goal_flaw d (goals.Both g h) = least_kind (goal_flaw d g) (goal_flaw d h)
goal_flaw d (goals.Either g h) = least_kind (goal_flaw d g) (goal_flaw d h)
goal_flaw d (goals.Some_variable w g) = goal_flaw d g
goal_flaw d (goals.New_name w g) = least_kind (binder_flaw d (OfWord w)) (goal_flaw d g)

-- Items. What is declared is not declared yet; the result of a constructor is a data type.
abbrev pub redeclared_if : {A : Type 0} → Option A → Option TypeKind
redeclared_if None = None
redeclared_if (Some x) = Some kinds.Redeclared

abbrev pub result_flaw : Option NominalType → Option TypeKind
result_flaw (Some (base b)) = None
result_flaw (Some t) = Some kinds.Clash
result_flaw None = Some kinds.Undeclared

abbrev pub clause_flaw : Declared → List ℕ → List Term → Option Goal → Option TypeKind
clause_flaw d w ts None = atom_flaw d w ts
clause_flaw d w ts (Some g) = least_kind (atom_flaw d w ts) (goal_flaw d g)

abbrev pub constructor_flaw : Declared → List ℕ → List Ty → List ℕ → Option TypeKind
constructor_flaw d w args result =
    least_kind (redeclared_if (constructor_place d w)) (least_kind (types_flaw d.signature args) (result_flaw (type_named d.signature result)))

abbrev pub predicate_flaw : Declared → List ℕ → List Ty → Option TypeKind
predicate_flaw d w args = least_kind (redeclared_if (predicate_place d w)) (types_flaw d.signature args)

-- the least kind of an item's faults before it is typed
abbrev pub item_flaw : Declared → Saying → Option TypeKind
item_flaw d (items.ANameType w) = redeclared_if (type_named d.signature w)
item_flaw d (items.ADataType w) = redeclared_if (type_named d.signature w)
item_flaw d (items.AConstructor w args result) = constructor_flaw d w args result
item_flaw d (items.APredicate w args) = predicate_flaw d w args
item_flaw d (items.AClause w args body) = clause_flaw d w args body
item_flaw d (items.AQuery g) = goal_flaw d g
