-- What the items of a text make is typed by its kinds.
use Rattle.std.proofs.Common.{◌≡◌, ℕ, zero, suc, ◌+◌, List, [], ◌∷◌, ◌++◌, length, Option, refl, sym, subst, append-nil, arith}
use Rattle.ap_defs.specs.RawTerms.{RawTerm}
use Rattle.ap_defs.specs.Types.{NominalType, NominalConstructor, NominalSignature}
use Rattle.ap_defs.specs.Resolution.{kinds_of}
use Rattle.ap_defs.specs.Goals.{ClauseOver, QueryOver, ProgramOver}
use Rattle.ap_trees.specs.Terms.{Term}
use Rattle.ap_trees.specs.Goals.{Goal}
use Rattle.ap_trees.specs.Items as items
use Rattle.ap_trees.specs.Items.{Saying, ItemOf}
use Rattle.ap_program.specs.RawTyping.{HasRawType}
use Rattle.ap_program.specs.Typed.{AreArguments, predicate_at, IsTypedGoal, AreInhabited, IsTypedClause, IsTypedQuery, AreTypedClauses, AreTypedFrom, AreTypedQueries, IsTypedRawProgram, raw_form}
use Rattle.ap_scopes.specs.Declarations.{Declared}
use Rattle.ap_scopes.specs.Resolution.{resolved_terms, resolved_clause, resolved_query}
use Rattle.ap_typecheck.specs.Declaring.{Made, nothing_made, with_name_type, with_data_type, with_constructor, with_predicate, put_clause}
use Rattle.ap_typecheck.specs.Checking.{clause_with, query_with, IsClauseOf, IsQueryOf, Says, MakesAll, IsProgramOf}
use Rattle.ap_typecheck.proofs.Growth.{clauses_grow, queries_grow}
use Rattle.ap_typecheck.proofs.Scoping.{IsKnown, terms-done, body-done, goal-done, each_in-on, grows_known}
use Rattle.ap_typecheck.proofs.Sorted.{as_many, kinds_back, scoped}

pub clause_typed : (d : Declared) (n line : ℕ) (w : List ℕ) (args : List Term) (body : Option Goal) (c : ClauseOver RawTerm) → IsClauseOf d n line w args body c → IsTypedClause raw_form d.signature c.pred c
clause_typed d n line w args body c h =
    let ks = h.0 in
    let r = resolved_clause d args body in
    let cs = d.signature.constructors in
    let made = clause_with d n line w args body ks in
    let types = h.1.0.0 in
    let inhabited = h.1.1 in
    let long : length r.1 ≡ length ks = as_many r.1 ks types.0 in
    let back : ks ≡ kinds_of made.locals = sym (kinds_back r.1 ks long) in
    let heads = terms-done d [] args [] in
    let between = (resolved_terms d [] args []).1 in
    let rest = body-done d body between in
    let typed : IsTypedClause raw_form d.signature made.pred made = (
      refl,
      (
        subst (λ k. AreArguments (HasRawType cs k) made.args (predicate_at d.signature.predicates made.pred)) back types.2.0,
        subst (λ k. IsTypedGoal (HasRawType cs k) d.signature.predicates k made.body) back types.2.1,
      ),
      subst (AreInhabited cs) back inhabited,
      scoped (length between) r.1 ks long r.0.0 r.0.1
          (each_in-on (IsKnown [] between) (IsKnown [] r.1) (grows_known [] between r.1 rest.grows) r.0.0 heads.each_known) rest.known rest.ascends rest.bound,
    ) in
    subst (λ x. IsTypedClause raw_form d.signature x.pred x) (sym h.2) typed

pub query_typed : (d : Declared) (n line : ℕ) (g : Goal) (q : QueryOver RawTerm) → IsQueryOf d n line g q → IsTypedQuery raw_form d.signature q
query_typed d n line g q h =
    let ks = h.0 in
    let r = resolved_query d g in
    let cs = d.signature.constructors in
    let made = query_with d n line g ks in
    let types = h.1.0.0 in
    let inhabited = h.1.1 in
    let long : length r.1 ≡ length ks = as_many r.1 ks types.0 in
    let back : ks ≡ kinds_of made.locals = sym (kinds_back r.1 ks long) in
    let rest = goal-done d [] g [] in
    let typed : IsTypedQuery raw_form d.signature made = (
      subst (λ k. IsTypedGoal (HasRawType cs k) d.signature.predicates k made.goal) back types.2,
      subst (AreInhabited cs) back inhabited,
      scoped 0 r.1 ks long [] r.0 tt rest.known rest.ascends rest.bound,
    ) in
    subst (λ x. IsTypedQuery raw_form d.signature x) (sym h.2) typed

-- one more
typed_end : (s : NominalSignature) (p : ℕ) (cs : List (ClauseOver RawTerm)) (c : ClauseOver RawTerm) → AreTypedClauses raw_form s p cs → IsTypedClause raw_form s p c → AreTypedClauses raw_form s p (cs ++ c ∷ [])
typed_end s p [] c h k = (k, tt)
typed_end s p (b ∷ cs) c h k = (h.0, typed_end s p cs c h.1 k)

typed_put : (s : NominalSignature) (q p : ℕ) (css : List (List (ClauseOver RawTerm))) (c : ClauseOver RawTerm) → AreTypedFrom raw_form s q css → IsTypedClause raw_form s (q + p) c → AreTypedFrom raw_form s q (put_clause c p css)
typed_put s q p [] c h k = h
typed_put s q zero (cs ∷ css) c h k = (typed_end s q cs c h.0 (subst (λ n. IsTypedClause raw_form s n c) (let e : q + 0 ≡ q = omega arith in e) k), h.1)
typed_put s q (suc p) (cs ∷ css) c h k = (h.0, typed_put s (suc q) p css c h.1 (subst (λ n. IsTypedClause raw_form s n c) (let e : q + suc p ≡ suc q + p = omega arith in e) k))

typed_query_end : (s : NominalSignature) (qs : List (QueryOver RawTerm)) (q : QueryOver RawTerm) → AreTypedQueries raw_form s qs → IsTypedQuery raw_form s q → AreTypedQueries raw_form s (qs ++ q ∷ [])
typed_query_end s [] q h k = (k, tt)
typed_query_end s (p ∷ qs) q h k = (h.0, typed_query_end s qs q h.1 k)

typed_list_end : (s : NominalSignature) (p : ℕ) (css : List (List (ClauseOver RawTerm))) → AreTypedFrom raw_form s p css → AreTypedFrom raw_form s p (css ++ [] ∷ [])
typed_list_end s p [] h = (tt, tt)
typed_list_end s p (cs ∷ css) h = (h.0, typed_list_end s (suc p) css h.1)

-- What is made is typed.
pub record IsTypedMade (m : Made) : Type 0 where
  pub clauses : AreTypedFrom raw_form m.declared.signature 0 m.clauses
  pub queries : AreTypedQueries raw_form m.declared.signature m.queries

pub declared_more : (m : Made) (s : NominalSignature) (ds : List NominalConstructor) (ps : List (List NominalType)) → s.constructors ≡ m.declared.signature.constructors ++ ds → s.predicates ≡ m.declared.signature.predicates ++ ps
    → IsTypedMade m → AreTypedFrom raw_form s 0 m.clauses × AreTypedQueries raw_form s m.queries
declared_more m s ds ps ec ep h = (clauses_grow m.declared.signature s ds ps ec ep 0 m.clauses h.clauses, queries_grow m.declared.signature s ds ps ec ep m.queries h.queries)

pub says_typed : (m : Made) (n line : ℕ) (saying : Saying) (after : Made) → Says m n line saying after → IsTypedMade m → IsTypedMade after
says_typed m n line (items.ANameType w) after e h = subst IsTypedMade (sym e) (let k = declared_more m (with_name_type w m).declared.signature [] [] (sym (append-nil _)) (sym (append-nil _)) h in record { clauses = k.0; queries = k.1 })
says_typed m n line (items.ADataType w) after e h = subst IsTypedMade (sym e) (let k = declared_more m (with_data_type w m).declared.signature [] [] (sym (append-nil _)) (sym (append-nil _)) h in record { clauses = k.0; queries = k.1 })
says_typed m n line (items.AConstructor w args result) after e h = subst IsTypedMade (sym e) (let k = declared_more m (with_constructor w args result m).declared.signature _ [] refl (sym (append-nil _)) h in record { clauses = k.0; queries = k.1 })
says_typed m n line (items.APredicate w args) after e h = subst IsTypedMade (sym e) (let k = declared_more m (with_predicate w args m).declared.signature [] _ (sym (append-nil _)) refl h in record { clauses = typed_list_end (with_predicate w args m).declared.signature 0 m.clauses k.0; queries = k.1 })
says_typed m n line (items.AClause w args body) after e h =
    subst IsTypedMade (sym e.2) (record {
      clauses = typed_put m.declared.signature 0 e.0.pred m.clauses e.0 h.clauses
          (subst (λ p. IsTypedClause raw_form m.declared.signature p e.0) (let k : e.0.pred ≡ 0 + e.0.pred = omega arith in k) (clause_typed m.declared n line w args body e.0 e.1));
      queries = h.queries;
    })
says_typed m n line (items.AQuery g) after e h =
    subst IsTypedMade (sym e.2) (record { clauses = h.clauses; queries = typed_query_end m.declared.signature m.queries e.0 h.queries (query_typed m.declared n line g e.0 e.1) })

pub all_typed : (m : Made) (n : ℕ) (is : List ItemOf) (after : Made) → MakesAll m n is after → IsTypedMade m → IsTypedMade after
all_typed m n [] after e h = subst IsTypedMade (sym e) h
all_typed m n (i ∷ is) after e h = all_typed e.0 (suc n) is after e.2 (says_typed m n i.line i.form e.0 e.1.1 h)

pub program_typed : (is : List ItemOf) (p : ProgramOver RawTerm) → IsProgramOf is p → IsTypedRawProgram p
program_typed is p h =
    let t = all_typed nothing_made 1 is h.0 h.1 (record { clauses = tt; queries = tt }) in
    subst IsTypedRawProgram (sym h.2) (t.clauses, t.queries)
