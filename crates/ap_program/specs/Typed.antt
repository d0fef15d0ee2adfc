-- Goals, clauses, queries and programs that are typed by the kinds of their identifiers.
use Rattle.std.specs.Prelude.{◌≡◌, ℕ, zero, suc, Bool, true, false, ◌==◌, ◌&&◌, ◌||◌, not, List, [], ◌∷◌, ◌++◌, Option, Some, None}
use Rattle.ap_defs.specs.declared.terms.Id.{Id}
use Rattle.ap_defs.specs.declared.terms.Id.TheVariants as ids
use Rattle.ap_defs.specs.declared.terms.Swap.{Swap}
use Rattle.ap_defs.specs.RawTerms as raw
use Rattle.ap_defs.specs.RawTerms.{RawTerm}
use Rattle.ap_defs.specs.Terms as terms
use Rattle.ap_defs.specs.Terms.{NominalTerm}
use Rattle.ap_defs.specs.Types as types
use Rattle.ap_defs.specs.Types.{NominalType, NominalKind, NominalLocal, NominalConstructor, NominalSignature}
use Rattle.ap_defs.specs.Goals.{GoalOver, succeed, atom, equal, fresh, both, either, exists, new, ClauseOver, QueryOver, ProgramOver, NominalProgram}
use Rattle.ap_defs.specs.Resolution.{kinds_of}
use Rattle.ap_types.specs.Inhabited.{IsInhabited}
use Rattle.ap_program.specs.RawTyping.{IsNameOf, IsVarOf, HasRawType, HasTermType}

-- which terms of some form have which type
abbrev pub Typing : Type 0 → Type 1
Typing T = T → NominalType → Type 0

-- the terms have the types, one each
abbrev pub HaveTypes : {T : Type 0} → Typing T → List T → List NominalType → Type 0
HaveTypes typed [] [] = Unit {0}
HaveTypes typed (t ∷ ts) (a ∷ as') = typed t a × HaveTypes typed ts as'
HaveTypes typed _ _ = ⊥

-- the types of a predicate's arguments
abbrev pub predicate_at : List (List NominalType) → ℕ → Option (List NominalType)
predicate_at [] p = None
predicate_at (as' ∷ rest) zero = Some as'
predicate_at (as' ∷ rest) (suc p) = predicate_at rest p

-- the predicate is declared, and the terms have the types of its arguments
abbrev pub AreArguments : {T : Type 0} → Typing T → List T → Option (List NominalType) → Type 0
AreArguments typed ts None = ⊥
AreArguments typed ts (Some as') = HaveTypes typed ts as'

-- the goal is typed by the kinds
abbrev pub IsTypedGoal : {T : Type 0} → Typing T → List (List NominalType) → List NominalKind → GoalOver T → Type 0
IsTypedGoal typed predicates kinds succeed = Unit {0}
IsTypedGoal typed predicates kinds (atom p ts) = AreArguments typed ts (predicate_at predicates p)
IsTypedGoal typed predicates kinds (equal t u) = (a : NominalType) × typed t a × typed u a
IsTypedGoal typed predicates kinds (fresh t u) = ((s : ℕ) × typed t (types.names s)) × ((a : NominalType) × typed u a)
IsTypedGoal typed predicates kinds (both g h) = IsTypedGoal typed predicates kinds g × IsTypedGoal typed predicates kinds h
IsTypedGoal typed predicates kinds (either g h) = IsTypedGoal typed predicates kinds g × IsTypedGoal typed predicates kinds h
IsTypedGoal typed predicates kinds (exists x g) = ((a : NominalType) × IsVarOf kinds x a) × IsTypedGoal typed predicates kinds g
IsTypedGoal typed predicates kinds (new a g) = IsNameOf kinds a a.sort × IsTypedGoal typed predicates kinds g

-- the type of each variable is inhabited
abbrev pub AreInhabited : List NominalConstructor → List NominalKind → Type 0
AreInhabited cs [] = Unit {0}
AreInhabited cs (types.name s ∷ ks) = AreInhabited cs ks
AreInhabited cs (types.var t ∷ ks) = IsInhabited cs t × AreInhabited cs ks

-- whether the identifier with this number stands in a term
abbrev pub id_number : Id → ℕ
id_number (ids.Name a) = a.num
id_number (ids.Var x) = x.num

abbrev pub stands_in_raw : ℕ → RawTerm → Bool
stands_in_raw n raw.unit = false
stands_in_raw n (raw.name a) = n == a.num
stands_in_raw n (raw.var x) = n == x.num
stands_in_raw n (raw.pair t u) = stands_in_raw n t || stands_in_raw n u
stands_in_raw n (raw.app f t) = stands_in_raw n t
stands_in_raw n (raw.abs i t) = (n == id_number i) || stands_in_raw n t
stands_in_raw n (raw.swapped i j t) = ((n == id_number i) || (n == id_number j)) || stands_in_raw n t

abbrev pub stands_in_swaps : ℕ → List Swap → Bool
stands_in_swaps n [] = false
stands_in_swaps n (s ∷ p) = ((n == s.left) || (n == s.right)) || stands_in_swaps n p

abbrev pub stands_in_term : ℕ → NominalTerm → Bool
stands_in_term n terms.unit = false
stands_in_term n (terms.name a) = n == a.num
stands_in_term n (terms.pair t u) = stands_in_term n t || stands_in_term n u
stands_in_term n (terms.app f t) = stands_in_term n t
stands_in_term n (terms.abs a t) = (n == a.num) || stands_in_term n t
stands_in_term n (terms.susp p x) = stands_in_swaps n p || (n == x.num)

abbrev pub stands_in_some : {T : Type 0} → (ℕ → T → Bool) → ℕ → List T → Bool
stands_in_some stands n [] = false
stands_in_some stands n (t ∷ ts) = stands n t || stands_in_some stands n ts

-- whether it stands in a goal at a place that is in no goal of a `new` or `exists` that brings it
abbrev pub stands_free : {T : Type 0} → (ℕ → T → Bool) → ℕ → GoalOver T → Bool
stands_free stands n succeed = false
stands_free stands n (atom p ts) = stands_in_some stands n ts
stands_free stands n (equal t u) = stands n t || stands n u
stands_free stands n (fresh t u) = stands n t || stands n u
stands_free stands n (both g h) = stands_free stands n g || stands_free stands n h
stands_free stands n (either g h) = stands_free stands n g || stands_free stands n h
stands_free stands n (exists x g) = not (n == x.num) && stands_free stands n g
stands_free stands n (new a g) = not (n == a.num) && stands_free stands n g

-- the identifiers that `new` and `exists` bring in a goal, in the order of the text
abbrev pub brought : {T : Type 0} → GoalOver T → List ℕ
brought succeed = []
brought (atom p ts) = []
brought (equal t u) = []
brought (fresh t u) = []
brought (both g h) = brought g ++ brought h
brought (either g h) = brought g ++ brought h
brought (exists x g) = x.num ∷ brought g
brought (new a g) = a.num ∷ brought g

abbrev pub has_number : ℕ → List ℕ → Bool
has_number n [] = false
has_number n (m ∷ ms) = (n == m) || has_number n ms

-- no number stands twice
abbrev pub EachOnce : List ℕ → Type 0
EachOnce [] = Unit {0}
EachOnce (n ∷ ns) = (has_number n ns ≡ false) × EachOnce ns

-- whether the identifier with this number is marked as bound
abbrev pub is_marked : List NominalLocal → ℕ → Bool
is_marked [] n = false
is_marked (l ∷ ls) zero = l.bound
is_marked (l ∷ ls) (suc n) = is_marked ls n

abbrev pub AreMarked : List NominalLocal → List ℕ → Type 0
AreMarked locals [] = Unit {0}
AreMarked locals (n ∷ ns) = (is_marked locals n ≡ true) × AreMarked locals ns

-- What `new` and `exists` bring is marked as bound and brought once, and what is marked stands nowhere but in the goal of the one that brings it.
pub record IsScoped {T : Type 0} (stands : ℕ → T → Bool) (locals : List NominalLocal) (args : List T) (goal : GoalOver T) : Type 0 where
  pub marked : AreMarked locals (brought goal)
  pub once : EachOnce (brought goal)
  pub inside : (n : ℕ) → is_marked locals n ≡ true → (stands_in_some stands n args ≡ false) × (stands_free stands n goal ≡ false)

-- A form of terms: their typing by kinds, and which identifiers stand in them.
pub record TermForm (T : Type 0) : Type 1 where
  pub typed : List NominalConstructor → List NominalKind → Typing T
  pub stands : ℕ → T → Bool

abbrev pub raw_form : TermForm RawTerm
raw_form = record { typed = HasRawType; stands = stands_in_raw }

abbrev pub term_form : TermForm NominalTerm
term_form = record { typed = HasTermType; stands = stands_in_term }

-- the table of types holds of a clause: its head has the types of the predicate's arguments, and its body is typed
abbrev pub FitsClause : {T : Type 0} → TermForm T → NominalSignature → ClauseOver T → Type 0
FitsClause form sig c =
    AreArguments (form.typed sig.constructors (kinds_of c.locals)) c.args (predicate_at sig.predicates c.pred)
    × IsTypedGoal (form.typed sig.constructors (kinds_of c.locals)) sig.predicates (kinds_of c.locals) c.body

abbrev pub FitsQuery : {T : Type 0} → TermForm T → NominalSignature → QueryOver T → Type 0
FitsQuery form sig q = IsTypedGoal (form.typed sig.constructors (kinds_of q.locals)) sig.predicates (kinds_of q.locals) q.goal

-- A clause that stands in the list of a predicate is typed by its kinds.
abbrev pub IsTypedClause : {T : Type 0} → TermForm T → NominalSignature → ℕ → ClauseOver T → Type 0
IsTypedClause form sig p c =
    (c.pred ≡ p) × FitsClause form sig c
    × AreInhabited sig.constructors (kinds_of c.locals)
    × IsScoped form.stands c.locals c.args c.body

abbrev pub IsTypedQuery : {T : Type 0} → TermForm T → NominalSignature → QueryOver T → Type 0
IsTypedQuery form sig q =
    FitsQuery form sig q
    × AreInhabited sig.constructors (kinds_of q.locals)
    × IsScoped form.stands q.locals [] q.goal

abbrev pub AreTypedClauses : {T : Type 0} → TermForm T → NominalSignature → ℕ → List (ClauseOver T) → Type 0
AreTypedClauses form sig p [] = Unit {0}
AreTypedClauses form sig p (c ∷ cs) = IsTypedClause form sig p c × AreTypedClauses form sig p cs

-- the clauses of predicate p and of those after it
abbrev pub AreTypedFrom : {T : Type 0} → TermForm T → NominalSignature → ℕ → List (List (ClauseOver T)) → Type 0
AreTypedFrom form sig p [] = Unit {0}
AreTypedFrom form sig p (cs ∷ css) = AreTypedClauses form sig p cs × AreTypedFrom form sig (suc p) css

abbrev pub AreTypedQueries : {T : Type 0} → TermForm T → NominalSignature → List (QueryOver T) → Type 0
AreTypedQueries form sig [] = Unit {0}
AreTypedQueries form sig (q ∷ qs) = IsTypedQuery form sig q × AreTypedQueries form sig qs

-- each item of the program is typed by its kinds
abbrev pub IsTypedOver : {T : Type 0} → TermForm T → ProgramOver T → Type 0
IsTypedOver form p = AreTypedFrom form p.signature 0 p.clauses × AreTypedQueries form p.signature p.queries

abbrev pub IsTypedRawProgram : ProgramOver RawTerm → Type 0
IsTypedRawProgram = IsTypedOver raw_form

abbrev pub IsTypedProgram : NominalProgram → Type 0
IsTypedProgram = IsTypedOver term_form
