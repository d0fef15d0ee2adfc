-- Typing of a text: the program that its items make, or its first fault.
use Rattle.std.specs.Prelude.{◌≡◌, ℕ, suc, ◌⊎◌, List, [], ◌∷◌, map, Option, None, Some}
use Rattle.ap_defs.specs.RawTerms.{RawTerm}
use Rattle.ap_defs.specs.declared.faults.TypeFault.{TypeFault}
use Rattle.ap_defs.specs.declared.faults.TypeKind.{TypeKind}
use Rattle.ap_defs.specs.declared.faults.TypeKind.TheVariants as kinds
use Rattle.ap_defs.specs.Goals.{GoalOver, ClauseOver, QueryOver, ProgramOver}
use Rattle.ap_defs.specs.Types.{NominalKind}
use Rattle.ap_trees.specs.Terms.{OfWord, OfVar, Name, Term}
use Rattle.ap_trees.specs.Goals.{Goal}
use Rattle.ap_trees.specs.Items as items
use Rattle.ap_trees.specs.Items.{Saying, ItemOf}
use Rattle.ap_kinds.specs.declared.kinds.IdentKind.{IdentKind}
use Rattle.ap_kinds.specs.declared.kinds.IdentKind.TheVariants as classes
use Rattle.ap_kinds.specs.declared.errors.KindsError.TheVariants as errors
use Rattle.ap_kinds.specs.ItemKinds.{TypesClause, TypesQuery, IsInferred, IsRefused}
use Rattle.ap_kinds.specs.Sorts.{terms_with_sorts, goal_with_sorts}
use Rattle.ap_scopes.specs.Declarations.{Declared, predicate_place}
use Rattle.ap_scopes.specs.Identifiers.{Found}
use Rattle.ap_scopes.specs.Resolution.{resolved_clause, resolved_query, predicate_number}
use Rattle.ap_scopes.specs.Flaws.{item_flaw}
use Rattle.ap_scopes.specs.Words.{words_of}
use Rattle.ap_typecheck.specs.Declaring.{Made, nothing_made, with_name_type, with_data_type, with_constructor, with_predicate, with_clause_made, with_query, with_kinds, program_made}

-- a word is a name, and a variable a variable
abbrev pub class_of : Name → IdentKind
class_of (OfWord w) = classes.Name
class_of (OfVar w) = classes.Var

abbrev pub classes_of : Found → List IdentKind
classes_of found = map (λ i. class_of i.spelling) found

abbrev pub predicate_of : Declared → List ℕ → ℕ
predicate_of d w = predicate_number (predicate_place d w)

-- Which lists of kinds, one for each identifier, type a resolved clause or query.
abbrev pub TypesParts : Declared → ℕ → (List RawTerm × GoalOver RawTerm) × Found → List NominalKind → Type 0
TypesParts d pred r ks = TypesClause d.signature (classes_of r.1) pred r.0.0 r.0.1 ks

abbrev pub TypesGoalParts : Declared → GoalOver RawTerm × Found → List NominalKind → Type 0
TypesGoalParts d r ks = TypesQuery d.signature (classes_of r.1) r.0 ks

abbrev pub TypesClauseOf : Declared → List ℕ → List Term → Option Goal → List NominalKind → Type 0
TypesClauseOf d w args body ks = TypesParts d (predicate_of d w) (resolved_clause d args body) ks

abbrev pub TypesQueryOf : Declared → Goal → List NominalKind → Type 0
TypesQueryOf d g ks = TypesGoalParts d (resolved_query d g) ks

-- Item n as a clause or query with kinds for its identifiers; names have the sorts of their kinds.
abbrev pub clause_with_kinds : ℕ → ℕ → ℕ → (List RawTerm × GoalOver RawTerm) × Found → List NominalKind → ClauseOver RawTerm
clause_with_kinds n line pred r ks = record {
  item = n;
  line = line;
  pred = pred;
  args = terms_with_sorts ks r.0.0;
  body = goal_with_sorts ks r.0.1;
  locals = with_kinds r.1 ks;
}

abbrev pub query_with_kinds : ℕ → ℕ → GoalOver RawTerm × Found → List NominalKind → QueryOver RawTerm
query_with_kinds n line r ks = record { item = n; line = line; goal = goal_with_sorts ks r.0; locals = with_kinds r.1 ks }

abbrev pub clause_with : Declared → ℕ → ℕ → List ℕ → List Term → Option Goal → List NominalKind → ClauseOver RawTerm
clause_with d n line w args body ks = clause_with_kinds n line (predicate_of d w) (resolved_clause d args body) ks

abbrev pub query_with : Declared → ℕ → ℕ → Goal → List NominalKind → QueryOver RawTerm
query_with d n line g ks = query_with_kinds n line (resolved_query d g) ks

-- Exactly one list of kinds types it, this one, and by it each variable's type is inhabited.
abbrev pub IsClauseOf : Declared → ℕ → ℕ → List ℕ → List Term → Option Goal → ClauseOver RawTerm → Type 0
IsClauseOf d n line w args body c =
    (ks : List NominalKind) × IsInferred d.signature.constructors (TypesClauseOf d w args body) ks × (c ≡ clause_with d n line w args body ks)

abbrev pub IsQueryOf : Declared → ℕ → ℕ → Goal → QueryOver RawTerm → Type 0
IsQueryOf d n line g q =
    (ks : List NominalKind) × IsInferred d.signature.constructors (TypesQueryOf d g) ks × (q ≡ query_with d n line g ks)

-- What item n adds: a declaration, or a clause or query that is so typed.
abbrev pub Says : Made → ℕ → ℕ → Saying → Made → Type 0
Says m n line (items.ANameType w) after = after ≡ with_name_type w m
Says m n line (items.ADataType w) after = after ≡ with_data_type w m
Says m n line (items.AConstructor w args result) after = after ≡ with_constructor w args result m
Says m n line (items.APredicate w args) after = after ≡ with_predicate w args m
Says m n line (items.AClause w args body) after = (c : ClauseOver RawTerm) × IsClauseOf m.declared n line w args body c × (after ≡ with_clause_made c m)
Says m n line (items.AQuery g) after = (q : QueryOver RawTerm) × IsQueryOf m.declared n line g q × (after ≡ with_query q m)

-- An item makes more where its words show no fault.
abbrev pub Makes : Made → ℕ → ItemOf → Made → Type 0
Makes m n i after = (item_flaw m.declared i.form ≡ None) × Says m n i.line i.form after

-- Clash: no list of kinds types it; Ambiguous: more than one does; Empty: one does, and some variable's type isn't inhabited.
abbrev pub IsMistyped : TypeKind → Declared → (List NominalKind → Type 0) → Type 0
IsMistyped kind d P = let cs = d.signature.constructors in
    ((kind ≡ kinds.Clash) × IsRefused errors.Clash cs P)
    ⊎ (((kind ≡ kinds.Ambiguous) × IsRefused errors.Ambiguous cs P) ⊎ ((kind ≡ kinds.Empty) × IsRefused errors.Empty cs P))

abbrev pub SaysMistyped : TypeKind → Declared → Saying → Type 0
SaysMistyped kind d (items.AClause w args body) = IsMistyped kind d (TypesClauseOf d w args body)
SaysMistyped kind d (items.AQuery g) = IsMistyped kind d (TypesQueryOf d g)
SaysMistyped kind d _ = ⊥

-- The kind of an item's fault: the least that its words show, or else that of its typing.
abbrev pub IsTypeFaultOf : TypeKind → Declared → Saying → Type 0
IsTypeFaultOf kind d saying = (item_flaw d saying ≡ Some kind) ⊎ ((item_flaw d saying ≡ None) × SaysMistyped kind d saying)

-- The items, numbered from n, make the rest.
abbrev pub MakesAll : Made → ℕ → List ItemOf → Made → Type 0
MakesAll m n [] after = after ≡ m
MakesAll m n (i ∷ is) after = (between : Made) × Makes m n i between × MakesAll between (suc n) is after

-- The first faulty one of the items, which are numbered from n.
abbrev pub IsFaultAmong : Made → ℕ → List ItemOf → TypeFault → Type 0
IsFaultAmong m n [] f = ⊥
IsFaultAmong m n (i ∷ is) f =
    ((f.place ≡ record { item = n; line = i.line }) × IsTypeFaultOf f.kind m.declared i.form)
    ⊎ ((between : Made) × Makes m n i between × IsFaultAmong between (suc n) is f)

-- The program of a text, and the first fault of a text.
abbrev pub IsProgramOf : List ItemOf → ProgramOver RawTerm → Type 0
IsProgramOf is p = (m : Made) × MakesAll nothing_made 1 is m × (p ≡ program_made (words_of is) m)

abbrev pub IsFirstTypeFault : List ItemOf → TypeFault → Type 0
IsFirstTypeFault is f = IsFaultAmong nothing_made 1 is f
