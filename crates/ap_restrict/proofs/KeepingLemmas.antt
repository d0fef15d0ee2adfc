-- A typed program all of whose items pass is restricted, once its swappings are carried out.
use Rattle.std.proofs.Common.{◌≡◌, ◌≤◌, ◌+◌, ℕ, suc, List, [], ◌∷◌, ◌++◌, map, length, refl, sym, ap₂, ◌∙◌, subst}
use Rattle.std.proofs.lemmas.List.{length-map}
use Rattle.std.specs.Prelude.{Option, Some, None}
use Rattle.ap_defs.specs.RawTerms.{RawTerm}
use Rattle.ap_defs.specs.Types.{NominalType, NominalKind, NominalConstructor, NominalSignature}
use Rattle.ap_defs.specs.Typing.{one}
use Rattle.ap_defs.specs.Types as types
use Rattle.ap_defs.specs.Goals.{GoalOver, succeed, atom, equal, fresh, both, either, exists, new, ClauseOver, QueryOver, ProgramOver}
use Rattle.ap_defs.specs.Resolution.{kinds_of}
use Rattle.ap_program.specs.RawTyping.{HasRawType, HasTermType}
use Rattle.ap_program.specs.Typed.{HaveTypes, AreArguments, predicate_at, IsTypedGoal, raw_form, term_form, IsTypedClause, IsTypedQuery, AreTypedClauses, AreTypedFrom, AreTypedQueries, IsTypedProgram, IsTypedRawProgram}
use Rattle.ap_program.specs.CarryingOut.{carried_out, map_goal, map_clause, map_query, carried_out_program}
use Rattle.ap_defs.specs.Limits.{size_limit}
use Rattle.ap_program.specs.NameRestriction.{RawItem, clause, query, AllPass, HasNamesAlone, variable_binders, variable_places, in_each, terms_of_goal, items_of, items_of_lists, AreRestrictedClauses, AreRestrictedLists, IsRestricted, item_count, sum_of_lengths}
use Rattle.ap_restrict.proofs.PlaceLemmas.{in_each_append}
use Rattle.ap_restrict.proofs.CarriedTyping.{HasNames, carried_typed, nothing_left, nothing_right}
use Rattle.ap_restrict.proofs.CarriedScoping.{carried_scoped}

-- each term has names alone
abbrev HaveNames : List RawTerm → Type 0
HaveNames ts = (in_each variable_binders ts ≡ []) × (in_each variable_places ts ≡ [])

names_first : (t : RawTerm) (ts : List RawTerm) → HaveNames (t ∷ ts) → HasNames t
names_first t ts h = (nothing_left _ (in_each variable_binders ts) h.0, nothing_left _ (in_each variable_places ts) h.1)

names_rest : (t : RawTerm) (ts : List RawTerm) → HaveNames (t ∷ ts) → HaveNames ts
names_rest t ts h = (nothing_right (variable_binders t) _ h.0, nothing_right (variable_places t) _ h.1)

names_left : (ts us : List RawTerm) → HaveNames (ts ++ us) → HaveNames ts
names_left ts us h = (
  nothing_left _ (in_each variable_binders us) (sym (in_each_append variable_binders ts us) ∙ h.0),
  nothing_left _ (in_each variable_places us) (sym (in_each_append variable_places ts us) ∙ h.1),
)

names_right : (ts us : List RawTerm) → HaveNames (ts ++ us) → HaveNames us
names_right ts us h = (
  nothing_right (in_each variable_binders ts) _ (sym (in_each_append variable_binders ts us) ∙ h.0),
  nothing_right (in_each variable_places ts) _ (sym (in_each_append variable_places ts us) ∙ h.1),
)

module _ (cs : List NominalConstructor) (predicates : List (List NominalType)) (kinds : List NominalKind) where
  have_types : (ts : List RawTerm) (as' : List NominalType) → HaveNames ts → HaveTypes (HasRawType cs kinds) ts as' → HaveTypes (HasTermType cs kinds) (map carried_out ts) as'
  have_types [] [] n h = h
  have_types [] (a ∷ as') n h = h
  have_types (t ∷ ts) [] n h = h
  have_types (t ∷ ts) (a ∷ as') n h = (carried_typed cs kinds t (one a) (names_first t ts n) h.0, have_types ts as' (names_rest t ts n) h.1)

  are_arguments : (ts : List RawTerm) (o : Option (List NominalType)) → HaveNames ts → AreArguments (HasRawType cs kinds) ts o → AreArguments (HasTermType cs kinds) (map carried_out ts) o
  are_arguments ts None n h = h
  are_arguments ts (Some as') n h = have_types ts as' n h

  typed_goal : (g : GoalOver RawTerm) → HaveNames (terms_of_goal g) → IsTypedGoal (HasRawType cs kinds) predicates kinds g
      → IsTypedGoal (HasTermType cs kinds) predicates kinds (map_goal carried_out g)
  typed_goal succeed n h = h
  typed_goal (atom p ts) n h = are_arguments ts (predicate_at predicates p) n h
  typed_goal (equal t u) n h = (
    h.0,
    carried_typed cs kinds t (one h.0) (names_first t (u ∷ []) n) h.1,
    carried_typed cs kinds u (one h.0) (names_first u [] (names_rest t (u ∷ []) n)) h.2,
  )
  typed_goal (fresh t u) n h = (
    (h.0.0, carried_typed cs kinds t (one (types.names h.0.0)) (names_first t (u ∷ []) n) h.0.1),
    (h.1.0, carried_typed cs kinds u (one h.1.0) (names_first u [] (names_rest t (u ∷ []) n)) h.1.1),
  )
  typed_goal (both g k) n h = (typed_goal g (names_left (terms_of_goal g) (terms_of_goal k) n) h.0, typed_goal k (names_right (terms_of_goal g) (terms_of_goal k) n) h.1)
  typed_goal (either g k) n h = (typed_goal g (names_left (terms_of_goal g) (terms_of_goal k) n) h.0, typed_goal k (names_right (terms_of_goal g) (terms_of_goal k) n) h.1)
  typed_goal (exists x g) n h = (h.0, typed_goal g n h.1)
  typed_goal (new a g) n h = (h.0, typed_goal g n h.1)

typed_clause : (sig : NominalSignature) (p : ℕ) (c : ClauseOver RawTerm) → HasNamesAlone (clause c) → IsTypedClause raw_form sig p c → IsTypedClause term_form sig p (map_clause carried_out c)
typed_clause sig p c n h = (
  h.0,
  (
    are_arguments sig.constructors sig.predicates (kinds_of c.locals) c.args (predicate_at sig.predicates c.pred) (names_left c.args (terms_of_goal c.body) n) h.1.0,
    typed_goal sig.constructors sig.predicates (kinds_of c.locals) c.body (names_right c.args (terms_of_goal c.body) n) h.1.1,
  ),
  h.2,
  carried_scoped c.locals c.args c.body h.3,
)

typed_query : (sig : NominalSignature) (q : QueryOver RawTerm) → HasNamesAlone (query q) → IsTypedQuery raw_form sig q → IsTypedQuery term_form sig (map_query carried_out q)
typed_query sig q n h = (typed_goal sig.constructors sig.predicates (kinds_of q.locals) q.goal n h.0, h.1, carried_scoped q.locals [] q.goal h.2)

all_left : (cs : List NominalConstructor) (is js : List RawItem) → AllPass cs (is ++ js) → AllPass cs is
all_left cs [] js h = tt
all_left cs (i ∷ is) js h = (h.0, all_left cs is js h.1)

all_right : (cs : List NominalConstructor) (is js : List RawItem) → AllPass cs (is ++ js) → AllPass cs js
all_right cs [] js h = h
all_right cs (i ∷ is) js h = all_right cs is js h.1

typed_clauses : (sig : NominalSignature) (p : ℕ) (cs : List (ClauseOver RawTerm)) → AllPass sig.constructors (map clause cs) → AreTypedClauses raw_form sig p cs
    → AreTypedClauses term_form sig p (map (map_clause carried_out) cs)
typed_clauses sig p [] a h = tt
typed_clauses sig p (c ∷ cs) a h = (typed_clause sig p c a.0.0 h.0, typed_clauses sig p cs a.1 h.1)

typed_from : (sig : NominalSignature) (p : ℕ) (css : List (List (ClauseOver RawTerm))) → AllPass sig.constructors (items_of_lists css) → AreTypedFrom raw_form sig p css
    → AreTypedFrom term_form sig p (map (map (map_clause carried_out)) css)
typed_from sig p [] a h = tt
typed_from sig p (cs ∷ css) a h = (
  typed_clauses sig p cs (all_left sig.constructors (map clause cs) (items_of_lists css) a) h.0,
  typed_from sig (suc p) css (all_right sig.constructors (map clause cs) (items_of_lists css) a) h.1,
)

typed_queries : (sig : NominalSignature) (qs : List (QueryOver RawTerm)) → AllPass sig.constructors (map query qs) → AreTypedQueries raw_form sig qs
    → AreTypedQueries term_form sig (map (map_query carried_out) qs)
typed_queries sig [] a h = tt
typed_queries sig (q ∷ qs) a h = (typed_query sig q a.0.0 h.0, typed_queries sig qs a.1 h.1)

restricted_clauses : (cs : List NominalConstructor) (list : List (ClauseOver RawTerm)) → AllPass cs (map clause list) → AreRestrictedClauses cs (map (map_clause carried_out) list)
restricted_clauses cs [] a = tt
restricted_clauses cs (c ∷ list) a = (a.0.1, restricted_clauses cs list a.1)

restricted_lists : (cs : List NominalConstructor) (lists : List (List (ClauseOver RawTerm))) → AllPass cs (items_of_lists lists) → AreRestrictedLists cs (map (map (map_clause carried_out)) lists)
restricted_lists cs [] a = tt
restricted_lists cs (list ∷ lists) a = (
  restricted_clauses cs list (all_left cs (map clause list) (items_of_lists lists) a),
  restricted_lists cs lists (all_right cs (map clause list) (items_of_lists lists) a),
)

same_sum : {A B : Type 0} (f : A → B) (lists : List (List A)) → sum_of_lengths (map (map f) lists) ≡ sum_of_lengths lists
same_sum f [] = refl
same_sum f (list ∷ lists) = ap₂ (λ m n. m + n) (length-map list f) (same_sum f lists)

same_count : (p : ProgramOver RawTerm) → item_count (carried_out_program p) ≡ item_count p
same_count p =
    ap₂ (λ m n. length p.signature.name_types + length p.signature.data_types + length p.signature.constructors + length p.signature.predicates + m + n)
    (same_sum (map_clause carried_out) p.clauses) (length-map p.queries (map_query carried_out))

pub kept_typed : (p : ProgramOver RawTerm) → IsTypedRawProgram p → AllPass p.signature.constructors (items_of p) → IsTypedProgram (carried_out_program p)
kept_typed p h a =
    let cs = p.signature.constructors in
    let of_clauses = items_of_lists p.clauses in
    let of_queries = map query p.queries in (
      typed_from p.signature 0 p.clauses (all_left cs of_clauses of_queries a) h.0,
      typed_queries p.signature p.queries (all_right cs of_clauses of_queries a) h.1,
    )

pub kept : (p : ProgramOver RawTerm) → IsTypedRawProgram p → AllPass p.signature.constructors (items_of p) → item_count p ≤ size_limit → IsRestricted (carried_out_program p)
kept p h a b =
    record {
      typed = kept_typed p h a;
      names = restricted_lists p.signature.constructors p.clauses (all_left p.signature.constructors (items_of_lists p.clauses) (map query p.queries) a);
      bounded = subst (λ n. n ≤ size_limit) (sym (same_count p)) b;
    }
