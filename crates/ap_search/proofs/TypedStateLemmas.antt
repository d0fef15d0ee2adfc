-- The search of a typed query of a typed program finds typed states.
use Rattle.std.proofs.Common.{subst, ◌≡◌, ◌+◌, ℕ, zero, suc, true, false, List, [], ◌∷◌, ◌++◌, map, length, refl, sym, ap, ◌∙◌, arith, append_assoc, append-nil}
use Rattle.std.specs.Prelude.{if◌then◌else◌, Option, Some, None}
use Rattle.ap_defs.specs.Derivations as nodes
use Rattle.ap_defs.specs.Freshness.{Conds, add_conds, reduce, var_eq}
use Rattle.ap_defs.specs.Goals.{NominalGoal, succeed, atom, equal, fresh, both, either, exists, new, NominalClause, NominalProgram, NominalQuery, Clauses, clauses_of}
use Rattle.ap_defs.specs.Occurrences.{free_vars, vars_of_terms, without_var}
use Rattle.ap_defs.specs.Renaming.{rename_goal, rename_term}
use Rattle.ap_defs.specs.Resolution.{Call, Output, State, below, by_clause, by_clauses, calls, clause_node, first_state, fresh_for_each, if_reduced, if_unified, just_found, kinds_of, next_number, outputs, solve, solve_query, test_fresh}
use Rattle.ap_defs.specs.Substitution.{Binding, under, ◌:=◌}
use Rattle.ap_defs.specs.Terms as terms
use Rattle.ap_defs.specs.Terms.{NominalTerm}
use Rattle.ap_defs.specs.Types as types
use Rattle.ap_defs.specs.Types.{NominalConstructor, NominalKind, NominalSignature, NominalType}
use Rattle.ap_defs.specs.Typing.{Want, one}
use Rattle.ap_defs.specs.Unification.{Unified, reduce_all, unify, vars_then}
use Rattle.ap_defs.specs.declared.terms.Cond.{Cond}
use Rattle.ap_defs.specs.declared.terms.Name.{Name}
use Rattle.ap_defs.specs.declared.terms.Var.{Var}
use Rattle.ap_program.specs.RawTyping.{HasTermType, IsNameOf, IsTypedTerm, IsVarOf}
use Rattle.ap_program.specs.Typed.{AreArguments, AreTypedClauses, AreTypedFrom, HaveTypes, IsTypedGoal, IsTypedProgram, IsTypedQuery, predicate_at, term_form}
use Rattle.ap_search.specs.FitStates.{AllFound}
use Rattle.ap_search.specs.TypedStates.{AreTypedBindings, AreTypedConds, IsTypedState}
use Rattle.ap_search.proofs.FitStateLemmas.{found-append, found_below, found_each, found_weaken}
use Rattle.ap_search.proofs.TypedUnificationLemmas.{AreTypedProblems, AreTypedSome, IsTypedUnified, add_conds_typed, reduce_all_typed, reduce_typed, unify_typed}
use Rattle.ap_search.proofs.TypingLemmas.{abs_view, app_view, kind_at_back, kind_at_front, own_sort, pair_view, susp_view, typed_back, typed_front, under_typed}

-- Kinds of more numbers.
module _ (cs : List NominalConstructor) (preds : List (List NominalType)) (ks ls : List NominalKind) where
  pub have_front : (ts : List NominalTerm) (as' : List NominalType) → HaveTypes (HasTermType cs ks) ts as' → HaveTypes (HasTermType cs (ks ++ ls)) ts as'
  have_front [] [] h = tt
  have_front [] (a ∷ as') h = absurd h
  have_front (t ∷ ts) [] h = absurd h
  have_front (t ∷ ts) (a ∷ as') h = (typed_front cs ks ls t (one a) h.0, have_front ts as' h.1)

  have_back : (ts : List NominalTerm) (as' : List NominalType) → HaveTypes (HasTermType cs ls) ts as' → HaveTypes (HasTermType cs (ks ++ ls)) (map (rename_term (length ks)) ts) as'
  have_back [] [] h = tt
  have_back [] (a ∷ as') h = absurd h
  have_back (t ∷ ts) [] h = absurd h
  have_back (t ∷ ts) (a ∷ as') h = (typed_back cs ks ls t (one a) h.0, have_back ts as' h.1)

  arguments_front : (ts : List NominalTerm) (o : Option (List NominalType)) → AreArguments (HasTermType cs ks) ts o → AreArguments (HasTermType cs (ks ++ ls)) ts o
  arguments_front ts None h = h
  arguments_front ts (Some as') h = have_front ts as' h

  arguments_back : (ts : List NominalTerm) (o : Option (List NominalType)) → AreArguments (HasTermType cs ls) ts o → AreArguments (HasTermType cs (ks ++ ls)) (map (rename_term (length ks)) ts) o
  arguments_back ts None h = h
  arguments_back ts (Some as') h = have_back ts as' h

  pub goal_front : (g : NominalGoal) → IsTypedGoal (HasTermType cs ks) preds ks g → IsTypedGoal (HasTermType cs (ks ++ ls)) preds (ks ++ ls) g
  goal_front succeed h = tt
  goal_front (atom p ts) h = arguments_front ts (predicate_at preds p) h
  goal_front (equal t u) h = (h.0, typed_front cs ks ls t (one h.0) h.1, typed_front cs ks ls u (one h.0) h.2)
  goal_front (fresh t u) h = ((h.0.0, typed_front cs ks ls t (one (types.names h.0.0)) h.0.1), (h.1.0, typed_front cs ks ls u (one h.1.0) h.1.1))
  goal_front (both f g) h = (goal_front f h.0, goal_front g h.1)
  goal_front (either f g) h = (goal_front f h.0, goal_front g h.1)
  goal_front (exists x g) h = ((h.0.0, kind_at_front ks ls _ _ h.0.1), goal_front g h.1)
  goal_front (new a g) h = ((h.0.0, kind_at_front ks ls _ _ h.0.1), goal_front g h.1)

  pub goal_back : (g : NominalGoal) → IsTypedGoal (HasTermType cs ls) preds ls g → IsTypedGoal (HasTermType cs (ks ++ ls)) preds (ks ++ ls) (rename_goal (length ks) g)
  goal_back succeed h = tt
  goal_back (atom p ts) h = arguments_back ts (predicate_at preds p) h
  goal_back (equal t u) h = (h.0, typed_back cs ks ls t (one h.0) h.1, typed_back cs ks ls u (one h.0) h.2)
  goal_back (fresh t u) h = ((h.0.0, typed_back cs ks ls t (one (types.names h.0.0)) h.0.1), (h.1.0, typed_back cs ks ls u (one h.1.0) h.1.1))
  goal_back (both f g) h = (goal_back f h.0, goal_back g h.1)
  goal_back (either f g) h = (goal_back f h.0, goal_back g h.1)
  goal_back (exists x g) h = ((h.0.0, kind_at_back ks ls x.num ∙ h.0.1), goal_back g h.1)
  goal_back (new a g) h = ((h.0.0, kind_at_back ks ls a.num ∙ h.0.1), goal_back g h.1)

  bindings_front : (bs : List Binding) → AreTypedBindings cs ks bs → AreTypedBindings cs (ks ++ ls) bs
  bindings_front [] h = tt
  bindings_front ((x := t) ∷ bs) h = ((h.0.0, kind_at_front ks ls _ _ h.0.1, typed_front cs ks ls t (one h.0.0) h.0.2), bindings_front bs h.1)

  conds_front : (ds : Conds) → AreTypedConds ks ds → AreTypedConds (ks ++ ls) ds
  conds_front [] h = tt
  conds_front (d ∷ ds) h = (((h.0.0.0, kind_at_front ks ls _ _ h.0.0.1), (h.0.1.0, kind_at_front ks ls _ _ h.0.1.1)), conds_front ds h.1)

-- The free variables of a typed goal.
abbrev AreVarsOf : List NominalKind → List Var → Type 0
AreVarsOf ks [] = Unit {0}
AreVarsOf ks (x ∷ xs) = ((a : NominalType) × IsVarOf ks x a) × AreVarsOf ks xs

module _ (cs : List NominalConstructor) (preds : List (List NominalType)) (ks : List NominalKind) where
  vars_of-append : (xs ys : List Var) → AreVarsOf ks xs → AreVarsOf ks ys → AreVarsOf ks (xs ++ ys)
  vars_of-append [] ys h k = k
  vars_of-append (x ∷ xs) ys h k = (h.0, vars_of-append xs ys h.1 k)

  vars_then_of : (t : NominalTerm) (w : Want) → IsTypedTerm cs ks t w → (xs : List Var) → AreVarsOf ks xs → AreVarsOf ks (vars_then t xs)
  vars_then_of terms.unit w h xs k = k
  vars_then_of (terms.name a) w h xs k = k
  vars_then_of (terms.pair t u) w h xs k = let v = pair_view cs ks t u w h in vars_then_of t v.first v.left (vars_then u xs) (vars_then_of u v.second v.right xs k)
  vars_then_of (terms.app f t) w h xs k = let v = app_view cs ks f t w h in vars_then_of t v.inner v.here xs k
  vars_then_of (terms.abs a t) w h xs k = let v = abs_view cs ks a t w h in vars_then_of t (one v.1) v.4 xs k
  vars_then_of (terms.susp p x) w h xs k = let v = susp_view cs ks p x w h in ((v.0, v.3), k)

  vars_of_have : (ts : List NominalTerm) (as' : List NominalType) → HaveTypes (HasTermType cs ks) ts as' → AreVarsOf ks (vars_of_terms ts)
  vars_of_have [] as' h = tt
  vars_of_have (t ∷ ts) [] h = absurd h
  vars_of_have (t ∷ ts) (a ∷ as') h = vars_then_of t (one a) h.0 (vars_of_terms ts) (vars_of_have ts as' h.1)

  vars_of_arguments : (ts : List NominalTerm) (o : Option (List NominalType)) → AreArguments (HasTermType cs ks) ts o → AreVarsOf ks (vars_of_terms ts)
  vars_of_arguments ts None h = absurd h
  vars_of_arguments ts (Some as') h = vars_of_have ts as' h

  without_var_of : (x : Var) (ys : List Var) → AreVarsOf ks ys → AreVarsOf ks (without_var x ys)
  without_var_of x [] h = tt
  without_var_of x (y ∷ ys) h =
      elim (var_eq x y) as (λ b. AreVarsOf ks (if b then without_var x ys else (y ∷ without_var x ys))) [ true ↦ without_var_of x ys h.1 | false ↦ (h.0, without_var_of x ys h.1) ]

  free_vars_of : (g : NominalGoal) → IsTypedGoal (HasTermType cs ks) preds ks g → AreVarsOf ks (free_vars g)
  free_vars_of succeed h = tt
  free_vars_of (atom p ts) h = vars_of_arguments ts (predicate_at preds p) h
  free_vars_of (equal t u) h = vars_then_of t (one h.0) h.1 (vars_then u []) (vars_then_of u (one h.0) h.2 [] tt)
  free_vars_of (fresh t u) h = vars_then_of t (one (types.names h.0.0)) h.0.1 (vars_then u []) (vars_then_of u (one h.1.0) h.1.1 [] tt)
  free_vars_of (both f g) h = vars_of-append (free_vars f) (free_vars g) (free_vars_of f h.0) (free_vars_of g h.1)
  free_vars_of (either f g) h = vars_of-append (free_vars f) (free_vars g) (free_vars_of f h.0) (free_vars_of g h.1)
  free_vars_of (exists x g) h = without_var_of x (free_vars g) (free_vars_of g h.1)
  free_vars_of (new a g) h = free_vars_of g h.1

  fresh_problems_typed : (a : Name) → IsNameOf ks a a.sort → (xs : List Var) → AreVarsOf ks xs → AreTypedProblems cs ks (fresh_for_each a xs)
  fresh_problems_typed a l [] h = tt
  fresh_problems_typed a l (x ∷ xs) h = ((l, (one h.0.0, (tt, h.0.1))), fresh_problems_typed a l xs h.1)

-- One step from a typed state.
module _ (cs : List NominalConstructor) (Q : State → Type 0) where
  unified_step : (go : State → List Output) (s : State) → IsTypedState cs s → (ts us : List NominalTerm) (as' : List NominalType)
      → HaveTypes (HasTermType cs s.kinds) ts as' → HaveTypes (HasTermType cs s.kinds) us as'
      → ((r : State) → IsTypedState cs r → r.kinds ≡ s.kinds → AllFound Q (go r)) → AllFound Q (if_unified go s (unify s.bindings s.conditions ts us))
  unified_step go s h ts us as' t u k = after (unify s.bindings s.conditions ts us) (unify_typed cs s.kinds s.bindings s.conditions ts us as' h.bindings h.conditions t u)
    where
      after : (o : Option Unified) → IsTypedUnified cs s.kinds o → AllFound Q (if_unified go s o)
      after None e = tt
      after (Some r) e = k (record s { bindings = r.bindings; conditions = r.conditions }) (record { bindings = e.0; conditions = e.1 }) refl

  reduced_step : (go : State → List Output) (s : State) → IsTypedState cs s → (o : Option (List Cond)) → AreTypedSome cs s.kinds o
      → ((r : State) → IsTypedState cs r → r.kinds ≡ s.kinds → AllFound Q (go r)) → AllFound Q (if_reduced go s o)
  reduced_step go s h None b k = tt
  reduced_step go s h (Some ds) b k =
      k (record s { conditions = add_conds ds s.conditions }) (record { bindings = h.bindings; conditions = add_conds_typed cs s.kinds ds s.conditions b h.conditions }) refl

  fresh_step : (s : State) → IsTypedState cs s → (t u : NominalTerm) (sort : ℕ) (a : NominalType) → HasTermType cs s.kinds t (types.names sort) → HasTermType cs s.kinds u a
      → ((r : State) → IsTypedState cs r → r.kinds ≡ s.kinds → Q r) → AllFound Q (test_fresh s t u)
  fresh_step s h (terms.name b) u sort a t v k =
      reduced_step (just_found nodes.fresh) s h (reduce b (under s.bindings u))
      (reduce_typed cs s.kinds b (own_sort cs s.kinds b sort t) (under s.bindings u) (one a) (under_typed cs s.kinds s.bindings h.bindings u (one a) v)) (λ r f e. (k r f e, tt))
  fresh_step s h (terms.susp p x) u sort a t v k = tt
  fresh_step s h terms.unit u sort a t v k = tt
  fresh_step s h (terms.pair w z) u sort a t v k = tt
  fresh_step s h (terms.app f w) u sort a t v k = tt
  fresh_step s h (terms.abs b w) u sort a t v k = tt

-- A typed state, with at least these kinds.
abbrev pub Grown : List NominalConstructor → List NominalKind → State → Type 0
Grown cs ks r = IsTypedState cs r × ((ls : List NominalKind) × (r.kinds ≡ ks ++ ls))

grown_at : (cs : List NominalConstructor) (ks : List NominalKind) (r : State) → IsTypedState cs r → r.kinds ≡ ks → Grown cs ks r
grown_at cs ks r h e = (h, ([], e ∙ sym (append-nil ks)))

grown_later : (cs : List NominalConstructor) (ks ls : List NominalKind) (r s : State) → r.kinds ≡ ks ++ ls → Grown cs r.kinds s → Grown cs ks s
grown_later cs ks ls r s e h = (h.0, (ls ++ h.1.0, h.1.1 ∙ ap (λ js. js ++ h.1.0) e ∙ append_assoc ks ls h.1.0))

module _ (sig : NominalSignature) where
  abbrev cons : List NominalConstructor
  cons = sig.constructors

  abbrev IsGoalIn : List NominalKind → NominalGoal → Type 0
  IsGoalIn ks g = IsTypedGoal (HasTermType cons ks) sig.predicates ks g

  abbrev CallTyped : Call → Type 0
  CallTyped call = (c : ℕ) (ts : List NominalTerm) (s : State) → IsTypedState cons s → AreArguments (HasTermType cons s.kinds) ts (predicate_at sig.predicates c)
      → AllFound (Grown cons s.kinds) (call c ts s)

  goal_later : (g : NominalGoal) (ks ls js : List NominalKind) → js ≡ ks ++ ls → IsGoalIn ks g → IsGoalIn js g
  goal_later g ks ls js e h = subst (λ (z : List NominalKind). IsGoalIn z g) (sym e) (goal_front cons sig.predicates ks ls g h)

  module _ (call : Call) (typed : CallTyped call) where
    outputs_typed : (g : NominalGoal) (s : State) → IsTypedState cons s → IsGoalIn s.kinds g → AllFound (Grown cons s.kinds) (outputs call g s)
    outputs_typed succeed s h k = (grown_at cons s.kinds s h refl, tt)
    outputs_typed (atom p ts) s h k = typed p ts s h k
    outputs_typed (equal t u) s h k =
        unified_step cons (Grown cons s.kinds) (just_found nodes.equal) s h (t ∷ []) (u ∷ []) (k.0 ∷ []) (k.1, tt) (k.2, tt) (λ r f e. (grown_at cons s.kinds r f e, tt))
    outputs_typed (fresh t u) s h k =
        fresh_step cons (Grown cons s.kinds) s h (under s.bindings t) u k.0.0 k.1.0 (under_typed cons s.kinds s.bindings h.bindings t (one (types.names k.0.0)) k.0.1) k.1.1 (grown_at cons s.kinds)
    outputs_typed (both f g) s h k =
        found_each (Grown cons s.kinds) (Grown cons s.kinds) (outputs call g)
        (λ r i. found_weaken (Grown cons r.kinds) (Grown cons s.kinds) (λ q j. grown_later cons s.kinds i.1.0 r q i.1.1 j) (outputs call g r) (outputs_typed g r i.0 (goal_later g s.kinds i.1.0 r.kinds i.1.1 k.1)))
        (outputs call f s) (outputs_typed f s h k.0)
    outputs_typed (either f g) s h k =
        let P = Grown cons s.kinds in
        found-append P (map (below (1 ∷ []) nodes.left) (outputs call f s)) (map (below (2 ∷ []) nodes.right) (outputs call g s))
        (found_below P (1 ∷ []) nodes.left (outputs call f s) (outputs_typed f s h k.0)) (found_below P (2 ∷ []) nodes.right (outputs call g s) (outputs_typed g s h k.1))
    outputs_typed (exists x g) s h k = found_below (Grown cons s.kinds) [] (nodes.exists (terms.susp [] x)) (outputs call g s) (outputs_typed g s h k.1)
    outputs_typed (new a g) s h k =
        let ps = fresh_for_each a (free_vars g) in
        let P = Grown cons s.kinds in
        found_below P [] (nodes.new a) (if_reduced (outputs call g) s (reduce_all s.bindings ps))
        (reduced_step cons P (outputs call g) s h (reduce_all s.bindings ps)
        (reduce_all_typed cons s.kinds s.bindings h.bindings ps (fresh_problems_typed cons sig.predicates s.kinds a k.0 (free_vars g) (free_vars_of cons sig.predicates s.kinds g k.1)))
        (λ r f e. let more : r.kinds ≡ s.kinds ++ [] = e ∙ sym (append-nil s.kinds) in
        found_weaken (Grown cons r.kinds) P (λ q j. grown_later cons s.kinds [] r q more j) (outputs call g r) (outputs_typed g r f (goal_later g s.kinds [] r.kinds more k.1))))

    -- a clause whose head has the types that the atom has
    clause_typed : (ts : List NominalTerm) (i : ℕ) (c : NominalClause) (o : Option (List NominalType)) → AreArguments (HasTermType cons (kinds_of c.locals)) c.args o
        → IsGoalIn (kinds_of c.locals) c.body → (s : State) → IsTypedState cons s → AreArguments (HasTermType cons s.kinds) ts o
        → AllFound (Grown cons s.kinds) (by_clause (outputs call) ts s i c)
    clause_typed ts i c None f b s h k = absurd k
    clause_typed ts i c (Some as') f b s h k =
        let ls = kinds_of c.locals in
        let ks = s.kinds in
        let n = next_number s in
        let from = record s { kinds = ks ++ ls } in
        let start : IsTypedState cons from = record { bindings = bindings_front cons sig.predicates ks ls s.bindings h.bindings; conditions = conds_front cons sig.predicates ks ls s.conditions h.conditions } in
        let args = map (rename_term n) c.args in
        let body = rename_goal n c.body in
        let P = Grown cons ks in
        found_below P (i ∷ []) (clause_node i n c.locals) (if_unified (outputs call body) from (unify s.bindings s.conditions ts args))
        (unified_step cons P (outputs call body) from start ts args as' (have_front cons sig.predicates ks ls ts as' k) (have_back cons sig.predicates ks ls c.args as' f)
        (λ r g e. found_weaken (Grown cons r.kinds) P (λ q j. grown_later cons ks ls r q e j) (outputs call body r)
        (outputs_typed body r g (subst (λ (z : List NominalKind). IsGoalIn z body) (sym e) (goal_back cons sig.predicates ks ls c.body b)))))

    clauses_typed : (p : ℕ) (ts : List NominalTerm) (i : ℕ) (cs : List NominalClause) → AreTypedClauses term_form sig p cs → (s : State) → IsTypedState cons s
        → AreArguments (HasTermType cons s.kinds) ts (predicate_at sig.predicates p) → AllFound (Grown cons s.kinds) (by_clauses (outputs call) ts s i cs)
    clauses_typed p ts i [] f s h k = tt
    clauses_typed p ts i (c ∷ cs) f s h k =
        let head : AreArguments (HasTermType cons (kinds_of c.locals)) c.args (predicate_at sig.predicates p) =
        subst (λ (q : ℕ). AreArguments (HasTermType cons (kinds_of c.locals)) c.args (predicate_at sig.predicates q)) f.0.0 f.0.1.0 in
        found-append (Grown cons s.kinds) (by_clause (outputs call) ts s i c) (by_clauses (outputs call) ts s (suc i) cs)
        (clause_typed ts i c (predicate_at sig.predicates p) head f.0.1.1 s h k) (clauses_typed p ts (suc i) cs f.1 s h k)

  typed_clauses_of : (i : ℕ) (css : Clauses) → AreTypedFrom term_form sig i css → (p : ℕ) → AreTypedClauses term_form sig (i + p) (clauses_of css p)
  typed_clauses_of i [] h p = tt
  typed_clauses_of i (cs ∷ css) h zero = let e : i ≡ i + zero = omega arith in subst (λ (n : ℕ). AreTypedClauses term_form sig n cs) e h.0
  typed_clauses_of i (cs ∷ css) h (suc p) =
      let e : suc i + p ≡ i + suc p = omega arith in
      subst (λ (n : ℕ). AreTypedClauses term_form sig n (clauses_of css p)) e (typed_clauses_of (suc i) css h.1 p)

  calls_typed : (css : Clauses) → AreTypedFrom term_form sig 0 css → (d : ℕ) → CallTyped (calls css d)
  calls_typed css f zero c ts s h k = tt
  calls_typed css f (suc d) c ts s h k =
      let e : 0 + c ≡ c = omega arith in
      clauses_typed (calls css d) (calls_typed css f d) c ts 1 (clauses_of css c) (subst (λ (n : ℕ). AreTypedClauses term_form sig n (clauses_of css c)) e (typed_clauses_of 0 css f c)) s h k

-- the search of a typed goal from a typed state
pub solve_typed : (p : NominalProgram) → IsTypedProgram p → (d : ℕ) (g : NominalGoal) (s : State) → IsTypedState p.signature.constructors s
    → IsTypedGoal (HasTermType p.signature.constructors s.kinds) p.signature.predicates s.kinds g → AllFound (Grown p.signature.constructors s.kinds) (solve p.clauses d g s)
solve_typed p f d g s h k = outputs_typed p.signature (calls p.clauses d) (calls_typed p.signature p.clauses f.0 d) g s h k

pub query_typed : (p : NominalProgram) → IsTypedProgram p → (d : ℕ) (q : NominalQuery) → IsTypedQuery term_form p.signature q
    → AllFound (Grown p.signature.constructors (kinds_of q.locals)) (solve_query p.clauses d q)
query_typed p f d q k = solve_typed p f d q.goal (first_state q) (record { bindings = tt; conditions = tt }) k.0

pub query_states_typed : (p : NominalProgram) → IsTypedProgram p → (d : ℕ) (q : NominalQuery) → IsTypedQuery term_form p.signature q
    → AllFound (IsTypedState p.signature.constructors) (solve_query p.clauses d q)
query_states_typed p f d q k =
    found_weaken (Grown p.signature.constructors (kinds_of q.locals)) (IsTypedState p.signature.constructors) (λ s h. h.0) (solve_query p.clauses d q) (query_typed p f d q k)
