-- The name restriction: binders and places of swappings are names, and each free name of a clause is fresh for its head.
use Rattle.std.specs.Prelude.{◌≡◌, ◌+◌, ◌<◌, ◌≤◌, ◌⊎◌, ℕ, zero, suc, if◌then◌else◌, List, [], ◌∷◌, ◌++◌, map, length, Option, Some, None}
use Rattle.ap_defs.specs.declared.faults.Place.{Place}
use Rattle.ap_defs.specs.declared.faults.NameFault.{NameFault}
use Rattle.ap_defs.specs.declared.faults.NameKind.{NameKind}
use Rattle.ap_defs.specs.declared.faults.NameKind.TheVariants as kinds
use Rattle.ap_defs.specs.declared.terms.Name.{Name}
use Rattle.ap_defs.specs.declared.terms.Var.{Var}
use Rattle.ap_defs.specs.declared.terms.Cond.{Cond}
use Rattle.ap_defs.specs.declared.terms.Id.{Id}
use Rattle.ap_defs.specs.declared.terms.Id.TheVariants as ids
use Rattle.ap_defs.specs.Permutations.{name_eq}
use Rattle.ap_defs.specs.RawTerms as raw
use Rattle.ap_defs.specs.RawTerms.{RawTerm}
use Rattle.ap_defs.specs.Terms as terms
use Rattle.ap_defs.specs.Terms.{NominalTerm}
use Rattle.ap_defs.specs.Freshness.{Conds, reduce}
use Rattle.ap_defs.specs.Types as types
use Rattle.ap_defs.specs.Types.{NominalType, NominalKind, NominalLocal, NominalConstructor}
use Rattle.ap_defs.specs.Goals.{GoalOver, succeed, atom, equal, fresh, both, either, exists, new, ClauseOver, QueryOver, ProgramOver, NominalGoal, NominalClause, NominalProgram}
use Rattle.ap_defs.specs.Answers.{kind_at}
use Rattle.ap_defs.specs.Limits.{size_limit}
use Rattle.ap_defs.specs.Renaming.{local_names}
use Rattle.ap_defs.specs.Resolution.{kinds_of}
use Rattle.ap_types.specs.Holding.{MayHold}
use Rattle.ap_theory.specs.Contexts.{Context, Fresh, listed_context}
use Rattle.ap_program.specs.Typed.{IsTypedProgram}
use Rattle.ap_program.specs.CarryingOut.{carried_out, map_clause}

-- FREE NAMES ARE FRESH FOR THE HEAD

-- what a freshness problem that is not refuted leaves
abbrev pub conditions_left : Option (List Cond) → Conds
conditions_left None = []
conditions_left (Some cs) = cs

-- The conditions that the freshness goals with this name on the left leave; those count that stand in the body under `,` alone.
abbrev pub stated_conditions : Name → NominalGoal → Conds
stated_conditions a (both g h) = stated_conditions a g ++ stated_conditions a h
stated_conditions a (fresh (terms.name b) t) = if name_eq a b then conditions_left (reduce a t) else []
stated_conditions a _ = []

-- the variable has a type that can't hold names of the sort
abbrev pub CannotHold : List NominalConstructor → List NominalKind → ℕ → Var → Type 0
CannotHold cs kinds s x = (t : NominalType) × (kind_at kinds x.num ≡ Some (types.var t)) × (MayHold cs t s → ⊥)

-- what is known where a clause is used with this free name: the conditions that its body states, and those that the types give
abbrev pub known_in : List NominalConstructor → NominalClause → Name → Context
known_in cs c a b x = listed_context (stated_conditions a c.body) b x ⊎ CannotHold cs (kinds_of c.locals) b.sort x

abbrev pub FreshForEach : Context → Name → List NominalTerm → Type 0
FreshForEach known a [] = Unit {0}
FreshForEach known a (t ∷ ts) = Fresh known a t × FreshForEach known a ts

-- that the name is fresh for each argument of the head follows
abbrev pub IsFreshForHead : List NominalConstructor → NominalClause → Name → Type 0
IsFreshForHead cs c a = FreshForEach (known_in cs c a) a c.args

abbrev pub AreFreshForHead : List NominalConstructor → NominalClause → List Name → Type 0
AreFreshForHead cs c [] = Unit {0}
AreFreshForHead cs c (a ∷ as') = IsFreshForHead cs c a × AreFreshForHead cs c as'

-- a clause's free names are its identifiers of the kind of a name that are not marked as bound
abbrev pub free_names_of : {T : Type 0} → ClauseOver T → List Name
free_names_of c = local_names 0 c.locals

-- each free name of the clause is fresh for its head
abbrev pub IsRestrictedClause : List NominalConstructor → NominalClause → Type 0
IsRestrictedClause cs c = AreFreshForHead cs c (free_names_of c)

abbrev pub AreRestrictedClauses : List NominalConstructor → List NominalClause → Type 0
AreRestrictedClauses cs [] = Unit {0}
AreRestrictedClauses cs (c ∷ rest) = IsRestrictedClause cs c × AreRestrictedClauses cs rest

abbrev pub AreRestrictedLists : List NominalConstructor → List (List NominalClause) → Type 0
AreRestrictedLists cs [] = Unit {0}
AreRestrictedLists cs (list ∷ lists) = AreRestrictedClauses cs list × AreRestrictedLists cs lists

-- RESTRICTED PROGRAMS

abbrev pub sum_of_lengths : {A : Type 0} → List (List A) → ℕ
sum_of_lengths [] = 0
sum_of_lengths (list ∷ lists) = length list + sum_of_lengths lists

-- how many name types, data types, constructors, predicates, clauses and queries there are in all
abbrev pub item_count : {T : Type 0} → ProgramOver T → ℕ
item_count p =
    length p.signature.name_types + length p.signature.data_types + length p.signature.constructors + length p.signature.predicates
    + sum_of_lengths p.clauses + length p.queries

-- The program is typed by its kinds, each clause's free names are fresh for its head, and it isn't too large.
pub record IsRestricted (p : NominalProgram) : Type 0 where
  pub typed : IsTypedProgram p
  pub names : AreRestrictedLists p.signature.constructors p.clauses
  pub bounded : item_count p ≤ size_limit

-- VARIABLES WHERE NAMES BELONG

abbrev pub variable_of : Id → List Var
variable_of (ids.Name a) = []
variable_of (ids.Var x) = x ∷ []

-- the variables that stand as binders, in the order of the text
abbrev pub variable_binders : RawTerm → List Var
variable_binders raw.unit = []
variable_binders (raw.name a) = []
variable_binders (raw.var x) = []
variable_binders (raw.pair t u) = variable_binders t ++ variable_binders u
variable_binders (raw.app f t) = variable_binders t
variable_binders (raw.abs i t) = variable_of i ++ variable_binders t
variable_binders (raw.swapped i j t) = variable_binders t

-- the variables that stand in places of swappings, in the order of the text
abbrev pub variable_places : RawTerm → List Var
variable_places raw.unit = []
variable_places (raw.name a) = []
variable_places (raw.var x) = []
variable_places (raw.pair t u) = variable_places t ++ variable_places u
variable_places (raw.app f t) = variable_places t
variable_places (raw.abs i t) = variable_places t
variable_places (raw.swapped i j t) = variable_of i ++ variable_of j ++ variable_places t

-- the terms of a goal, in the order of the text
abbrev pub terms_of_goal : {T : Type 0} → GoalOver T → List T
terms_of_goal succeed = []
terms_of_goal (atom p ts) = ts
terms_of_goal (equal t u) = t ∷ u ∷ []
terms_of_goal (fresh t u) = t ∷ u ∷ []
terms_of_goal (both g h) = terms_of_goal g ++ terms_of_goal h
terms_of_goal (either g h) = terms_of_goal g ++ terms_of_goal h
terms_of_goal (exists x g) = terms_of_goal g
terms_of_goal (new a g) = terms_of_goal g

abbrev pub in_each : (RawTerm → List Var) → List RawTerm → List Var
in_each found [] = []
in_each found (t ∷ ts) = found t ++ in_each found ts

-- FAULTS

-- A clause or a query, as it is read.
pub data RawItem : Type 0 where
  clause : ClauseOver RawTerm → RawItem
  query : QueryOver RawTerm → RawItem

abbrev pub item_place : RawItem → Place
item_place (clause c) = record { item = c.item; line = c.line }
item_place (query q) = record { item = q.item; line = q.line }

abbrev pub item_number : RawItem → ℕ
item_number i = (item_place i).item

abbrev pub item_locals : RawItem → List NominalLocal
item_locals (clause c) = c.locals
item_locals (query q) = q.locals

abbrev pub item_terms : RawItem → List RawTerm
item_terms (clause c) = c.args ++ terms_of_goal c.body
item_terms (query q) = terms_of_goal q.goal

abbrev pub binders_in : RawItem → List Var
binders_in i = in_each variable_binders (item_terms i)

abbrev pub places_in : RawItem → List Var
places_in i = in_each variable_places (item_terms i)

-- binders and places of swappings are names
abbrev pub HasNamesAlone : RawItem → Type 0
HasNamesAlone i = (binders_in i ≡ []) × (places_in i ≡ [])

-- the free names are fresh for the head, once swappings are carried out; a query has no head
abbrev pub HasFreshNames : List NominalConstructor → RawItem → Type 0
HasFreshNames cs (clause c) = IsRestrictedClause cs (map_clause carried_out c)
HasFreshNames cs (query q) = Unit {0}

abbrev pub Passes : List NominalConstructor → RawItem → Type 0
Passes cs i = HasNamesAlone i × HasFreshNames cs i

-- the first of the names that is not fresh for the head
abbrev pub IsFirstNotFresh : List NominalConstructor → NominalClause → List Name → Name → Type 0
IsFirstNotFresh cs c [] a = ⊥
IsFirstNotFresh cs c (b ∷ bs) a = ((a ≡ b) × (IsFreshForHead cs c b → ⊥)) ⊎ (IsFreshForHead cs c b × IsFirstNotFresh cs c bs a)

abbrev pub IsHeadName : List NominalConstructor → RawItem → Name → Type 0
IsHeadName cs (clause c) a = IsFirstNotFresh cs (map_clause carried_out c) (free_names_of c) a
IsHeadName cs (query q) a = ⊥

abbrev pub IsFirst : Var → List Var → Type 0
IsFirst x [] = ⊥
IsFirst x (y ∷ ys) = x ≡ y

-- how an identifier is spelled
abbrev pub spelling_at : List NominalLocal → ℕ → List ℕ
spelling_at [] n = []
spelling_at (l ∷ ls) zero = l.text
spelling_at (l ∷ ls) (suc n) = spelling_at ls n

-- The identifier with this number is what is wrong with the item, with the least kind that applies.
pub data IsWrong (cs : List NominalConstructor) (i : RawItem) : NameKind → ℕ → Type 0 where
  variable_binder : (x : Var) → IsFirst x (binders_in i) → IsWrong cs i kinds.VariableBinder x.num
  variable_swap : (x : Var) → binders_in i ≡ [] → IsFirst x (places_in i) → IsWrong cs i kinds.VariableSwap x.num
  head_name : (a : Name) → HasNamesAlone i → IsHeadName cs i a → IsWrong cs i kinds.HeadName a.num

-- the fault is the item's
pub record IsFaultOf (cs : List NominalConstructor) (i : RawItem) (f : NameFault) : Type 0 where
  pub place : f.place ≡ item_place i
  pub wrong : (n : ℕ) × IsWrong cs i f.kind n × (f.name ≡ spelling_at (item_locals i) n)

abbrev pub items_of_lists : List (List (ClauseOver RawTerm)) → List RawItem
items_of_lists [] = []
items_of_lists (cs ∷ css) = map clause cs ++ items_of_lists css

-- the clauses and the queries of a program
abbrev pub items_of : ProgramOver RawTerm → List RawItem
items_of p = items_of_lists p.clauses ++ map query p.queries

abbrev pub PassUpTo : List NominalConstructor → ℕ → List RawItem → Type 0
PassUpTo cs n [] = Unit {0}
PassUpTo cs n (i ∷ is) = (item_number i ≤ n → Passes cs i) × PassUpTo cs n is

abbrev pub PassBelow : List NominalConstructor → ℕ → List RawItem → Type 0
PassBelow cs n [] = Unit {0}
PassBelow cs n (i ∷ is) = (item_number i < n → Passes cs i) × PassBelow cs n is

-- The fault is that of the first item of the text that does not pass; of items with one number, as no text has them, the first in the list.
pub record IsFirstFault (cs : List NominalConstructor) (items : List RawItem) (f : NameFault) : Type 0 where
  pub before : List RawItem
  pub at : RawItem
  pub after : List RawItem
  pub place : items ≡ before ++ at ∷ after
  pub fault : IsFaultOf cs at f
  pub earlier : PassUpTo cs f.place.item before
  pub later : PassBelow cs f.place.item after

abbrev pub IsNameFault : ProgramOver RawTerm → NameFault → Type 0
IsNameFault p f = IsFirstFault p.signature.constructors (items_of p) f

abbrev pub AllPass : List NominalConstructor → List RawItem → Type 0
AllPass cs [] = Unit {0}
AllPass cs (i ∷ is) = Passes cs i × AllPass cs is
