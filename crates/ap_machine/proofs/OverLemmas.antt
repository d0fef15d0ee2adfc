-- What the search of a typed query binds has no variables but the query's own and those that were brought.
use Rattle.std.proofs.Common.{subst, ◌≡◌, ℕ, zero, suc, true, false, ◌||◌, List, [], ◌∷◌, ◌++◌, map, refl, sym, ap, ◌∙◌, append_assoc, append-nil}
use Rattle.std.specs.Prelude.{Option, Some, None}
use Rattle.ap_defs.specs.Derivations as nodes
use Rattle.ap_defs.specs.Derivations.{NominalDerivation}
use Rattle.ap_defs.specs.Freshness.{add_conds, both as both_lists, reduce, var_eq}
use Rattle.ap_defs.specs.Goals.{NominalGoal, succeed, atom, equal, fresh, both, either, exists, new, NominalClause, NominalQuery, Clauses, clauses_of}
use Rattle.ap_defs.specs.Occurrences.{free_vars, vars_of_terms}
use Rattle.ap_defs.specs.Paths.{Choice, Mark, marked_query, choices_told}
use Rattle.ap_defs.specs.Renaming.{local_vars, rename_goal, rename_term, rename_var}
use Rattle.ap_defs.specs.Resolution.{CallOf, State, below, by_clause, by_clauses, calls_at, chose, clause_node, cut, each_found, first_state, found, fresh_for_each, if_reduced, if_unified, just_found, kinds_of, next_number, outcomes, stuck, test_fresh}
use Rattle.ap_defs.specs.Substitution.{Binding, occurs, under, ◌#◌, ◌:=◌}
use Rattle.ap_defs.specs.Terms as terms
use Rattle.ap_defs.specs.Terms.{NominalTerm}
use Rattle.ap_defs.specs.Types.{NominalLocal}
use Rattle.ap_defs.specs.Unification.{Unified, has_var, reduce_all, unify, vars_then}
use Rattle.ap_defs.specs.declared.terms.Cond.{Cond}
use Rattle.ap_defs.specs.declared.terms.Name.{Name}
use Rattle.ap_defs.specs.declared.terms.Var.{Var}
use Rattle.ap_ground.proofs.FreeIdentifierLemmas.{has_without_var, var_in_left, var_in_right}
use Rattle.ap_ground.proofs.ItemEnvironmentLemmas.{vars_from}
use Rattle.ap_ground.proofs.OccurrenceLemmas.{has_var_of_map}
use Rattle.ap_ground.proofs.ShiftLemmas.{free_vars_renamed, has_renamed}
use Rattle.ap_search.proofs.ContinuationLemmas.{brought_both, brought_clause}
use Rattle.ap_search.specs.Continuations.{then_if_reduced, then_if_unified}
use Rattle.ap_search.specs.Records.{vars_brought}
use Rattle.ap_theory.proofs.BooleanLemmas.{or_assoc, or_if_left, or_if_right}
use Rattle.ap_theory.proofs.IdempotenceLemmas.{EachSome, each_add_all, each_reduce_all}
use Rattle.ap_theory.proofs.OpenSoundnessLemmas.{under_keeps, unify_idempotent, unify_keeps}
use Rattle.ap_theory.proofs.TermLemmas.{same_var, var_same}
use Rattle.ap_theory.proofs.VariableLemmas.{EachProblem, each_susp}
use Rattle.ap_theory.specs.Variables.{EachBinding, EachCond, EachTerm, EachVar, IsIdempotent}

abbrev pub Among : List Var → Var → Type 0
Among xs x = has_var x xs ≡ true

-- What the state binds, and its conditions, have no variables but these.
pub record IsOver (xs : List Var) (s : State) : Type 0 where
  pub idempotent : IsIdempotent s.bindings
  pub bindings : EachBinding (Among xs) s.bindings
  pub conditions : EachCond (Among xs) s.conditions

-- More variables.
module _ (xs ys : List Var) where
  terms_more : (ts : List NominalTerm) → EachTerm (Among xs) ts → EachTerm (Among (xs ++ ys)) ts
  terms_more [] h = tt
  terms_more (t ∷ ts) h = (λ x o. var_in_left x xs ys (h.0 x o), terms_more ts h.1)

  bindings_more : (bs : List Binding) → EachBinding (Among xs) bs → EachBinding (Among (xs ++ ys)) bs
  bindings_more [] h = tt
  bindings_more ((x := t) ∷ bs) h = ((var_in_left x xs ys h.0.0, λ y o. var_in_left y xs ys (h.0.1 y o)), bindings_more bs h.1)

  conditions_more : (cs : List Cond) → EachCond (Among xs) cs → EachCond (Among (xs ++ ys)) cs
  conditions_more [] h = tt
  conditions_more (c ∷ cs) h = (var_in_left c.var xs ys h.0, conditions_more cs h.1)

  over_more : (s : State) → IsOver xs s → IsOver (xs ++ ys) s
  over_more s h = record { idempotent = h.idempotent; bindings = bindings_more s.bindings h.bindings; conditions = conditions_more s.conditions h.conditions }

-- Each state that was found is over the variables xs and those that its derivation brought.
abbrev pub AllOver : List Var → List Mark → Type 0
AllOver xs [] = Unit {0}
AllOver xs (found p s d ∷ ms) = IsOver (xs ++ vars_brought d) s × AllOver xs ms
AllOver xs (cut p ∷ ms) = AllOver xs ms
AllOver xs (stuck p ∷ ms) = AllOver xs ms
AllOver xs (chose p w ∷ ms) = AllOver xs ms

over-append : (xs : List Var) (ms ns : List Mark) → AllOver xs ms → AllOver xs ns → AllOver xs (ms ++ ns)
over-append xs [] ns h k = k
over-append xs (found p s d ∷ ms) ns h k = (h.0, over-append xs ms ns h.1 k)
over-append xs (cut p ∷ ms) ns h k = over-append xs ms ns h k
over-append xs (stuck p ∷ ms) ns h k = over-append xs ms ns h k
over-append xs (chose p w ∷ ms) ns h k = over-append xs ms ns h k

-- under a choice and a node that brings variables
over_below : (xs ys : List Var) (q : List ℕ) (node : NominalDerivation → NominalDerivation) → ((d : NominalDerivation) → vars_brought (node d) ≡ ys ++ vars_brought d)
    → (ms : List Mark) → AllOver (xs ++ ys) ms → AllOver xs (map (below q node) ms)
over_below xs ys q node e [] h = tt
over_below xs ys q node e (found p s d ∷ ms) h = (
  subst (λ (zs : List Var). IsOver zs s) (append_assoc xs ys (vars_brought d) ∙ ap (λ zs. xs ++ zs) (sym (e d))) h.0,
  over_below xs ys q node e ms h.1,
)
over_below xs ys q node e (cut p ∷ ms) h = over_below xs ys q node e ms h
over_below xs ys q node e (stuck p ∷ ms) h = over_below xs ys q node e ms h
over_below xs ys q node e (chose p w ∷ ms) h = over_below xs ys q node e ms h

over_plain : (xs : List Var) (q : List ℕ) (node : NominalDerivation → NominalDerivation) → ((d : NominalDerivation) → vars_brought (node d) ≡ vars_brought d)
    → (ms : List Mark) → AllOver xs ms → AllOver xs (map (below q node) ms)
over_plain xs q node e ms h = over_below xs [] q node e ms (subst (λ (zs : List Var). AllOver zs ms) (sym (append-nil xs)) h)

over_each : (xs : List Var) (go : State → List Mark) → ((s : State) (ys : List Var) → IsOver (xs ++ ys) s → AllOver (xs ++ ys) (go s)) → (ms : List Mark) → AllOver xs ms
    → AllOver xs (each_found go ms)
over_each xs go k [] h = tt
over_each xs go k (found p s d ∷ ms) h =
    over-append xs (map (below p (nodes.both d)) (go s)) (each_found go ms)
    (over_below xs (vars_brought d) p (nodes.both d) (brought_both d) (go s) (k s (vars_brought d) h.0)) (over_each xs go k ms h.1)
over_each xs go k (cut p ∷ ms) h = over_each xs go k ms h
over_each xs go k (stuck p ∷ ms) h = over_each xs go k ms h
over_each xs go k (chose p w ∷ ms) h = over_each xs go k ms h

-- One step.
module _ (xs : List Var) (s : State) (h : IsOver xs s) where
  over_just : (d : NominalDerivation) → vars_brought d ≡ [] → AllOver xs (just_found d s)
  over_just d e = (subst (λ (zs : List Var). IsOver zs s) (sym (ap (λ zs. xs ++ zs) e ∙ append-nil xs)) h, tt)

  over_unified : (ts us : List NominalTerm) → EachTerm (Among xs) ts → EachTerm (Among xs) us → (r : Unified) → unify s.bindings s.conditions ts us ≡ Some r
      → IsOver xs (record s { bindings = r.bindings; conditions = r.conditions })
  over_unified ts us t u r e =
      let k = unify_keeps (Among xs) s.bindings s.conditions ts us r h.bindings h.conditions t u e in
      record { idempotent = (unify_idempotent s.bindings s.conditions ts us r h.idempotent e).0; bindings = k.0; conditions = k.1 }

  over_if_unified : (go : State → List Mark) (ts us : List NominalTerm) → EachTerm (Among xs) ts → EachTerm (Among xs) us → ((r : State) → IsOver xs r → AllOver xs (go r))
      → AllOver xs (if_unified go s (unify s.bindings s.conditions ts us))
  over_if_unified go ts us t u k = after (unify s.bindings s.conditions ts us) refl
    where
      after : (o : Option Unified) → unify s.bindings s.conditions ts us ≡ o → AllOver xs (if_unified go s o)
      after None e = tt
      after (Some r) e = k (record s { bindings = r.bindings; conditions = r.conditions }) (over_unified ts us t u r e)

  over_reduced : (cs : List Cond) → EachCond (Among xs) cs → IsOver xs (record s { conditions = add_conds cs s.conditions })
  over_reduced cs k = record { idempotent = h.idempotent; bindings = h.bindings; conditions = each_add_all (Among xs) cs s.conditions k h.conditions }

  over_if_reduced : (go : State → List Mark) (o : Option (List Cond)) → EachSome (Among xs) o → ((r : State) → IsOver xs r → AllOver xs (go r)) → AllOver xs (if_reduced go s o)
  over_if_reduced go None e k = tt
  over_if_reduced go (Some cs) e k = k (record s { conditions = add_conds cs s.conditions }) (over_reduced cs e)

-- what is left of a freshness problem
reduced_each : (P : Var → Type 0) (o : Option (List Cond)) → EachSome P (both_lists o (Some [])) → EachSome P o
reduced_each P None k = tt
reduced_each P (Some cs) k = subst (EachCond P) (append-nil cs) k

fresh_over : (xs : List Var) (s : State) → IsOver xs s → (t u : NominalTerm) → EachVar (Among xs) u → AllOver xs (test_fresh s t u)
fresh_over xs s h (terms.name a) u k =
    let bs = s.bindings in
    over_if_reduced xs s h (just_found nodes.fresh) (reduce a (under bs u))
    (reduced_each (Among xs) (reduce a (under bs u)) (each_reduce_all (Among xs) bs ((a # u) ∷ []) (under_keeps (Among xs) bs h.bindings) (k, tt)))
    (λ r i. over_just xs r i nodes.fresh refl)
fresh_over xs s h (terms.susp p x) u k = tt
fresh_over xs s h terms.unit u k = tt
fresh_over xs s h (terms.pair t v) u k = tt
fresh_over xs s h (terms.app f t) u k = tt
fresh_over xs s h (terms.abs a t) u k = tt

problems_over : (P : Var → Type 0) (a : Name) (ys : List Var) → ((y : Var) → has_var y ys ≡ true → P y) → EachProblem P (fresh_for_each a ys)
problems_over P a [] h = tt
problems_over P a (y ∷ ys) h = (
  each_susp P [] y (h y (or_if_left (var_eq y y) (has_var y ys) (same_var y y refl))),
  problems_over P a ys (λ z m. h z (or_if_right (var_eq z y) (has_var z ys) m)),
)

-- The variables of terms and goals.
has_then : (y : Var) (t : NominalTerm) (xs : List Var) → has_var y (vars_then t xs) ≡ (occurs y t || has_var y xs)
has_then y terms.unit xs = refl
has_then y (terms.name a) xs = refl
has_then y (terms.pair t u) xs = has_then y t (vars_then u xs) ∙ ap (λ b. occurs y t || b) (has_then y u xs) ∙ sym (or_assoc (occurs y t) (occurs y u) (has_var y xs))
has_then y (terms.app f t) xs = has_then y t xs
has_then y (terms.abs a t) xs = has_then y t xs
has_then y (terms.susp p x) xs = refl

abbrev pub AreTermsAmong : List Var → List NominalTerm → Type 0
AreTermsAmong xs ts = (x : Var) → has_var x (vars_of_terms ts) ≡ true → Among xs x

abbrev pub IsGoalAmong : List Var → NominalGoal → Type 0
IsGoalAmong xs g = (x : Var) → has_var x (free_vars g) ≡ true → Among xs x

each_among : (xs : List Var) (ts : List NominalTerm) → AreTermsAmong xs ts → EachTerm (Among xs) ts
each_among xs [] h = tt
each_among xs (t ∷ ts) h = (
  λ x o. h x (has_then x t (vars_of_terms ts) ∙ or_if_left (occurs x t) (has_var x (vars_of_terms ts)) o),
  each_among xs ts (λ x m. h x (has_then x t (vars_of_terms ts) ∙ or_if_right (occurs x t) (has_var x (vars_of_terms ts)) m)),
)

-- under `exists` the variable is brought
brought_among : (xs : List Var) (x : Var) (g : NominalGoal) → IsGoalAmong xs (exists x g) → IsGoalAmong (xs ++ x ∷ []) g
brought_among xs x g k y m =
    elim (var_eq x y) as (λ v. var_eq x y ≡ v → Among (xs ++ x ∷ []) y) [
      | true ↦ λ e. var_in_right y xs (x ∷ []) (or_if_left (var_eq y x) false (same_var y x (sym (var_same x y e))))
      | false ↦ λ e. var_in_left y xs (x ∷ []) (k y (has_without_var x y (free_vars g) e m))
    ] refl

abbrev CallOver : CallOf Choice → Type 0
CallOver call = (p : ℕ) (ts : List NominalTerm) (s : State) (xs : List Var) → IsOver xs s → EachTerm (Among xs) ts → AllOver xs (call p ts s)

module _ (call : CallOf Choice) (calls : CallOver call) where
  goal_over : (g : NominalGoal) (s : State) (xs : List Var) → IsOver xs s → IsGoalAmong xs g → AllOver xs (outcomes choices_told call g s)
  goal_over succeed s xs h k = over_just xs s h nodes.succeed refl
  goal_over (atom p ts) s xs h k = calls p ts s xs h (each_among xs ts k)
  goal_over (equal t u) s xs h k =
      let e = each_among xs (t ∷ u ∷ []) k in
      over_if_unified xs s h (just_found nodes.equal) (t ∷ []) (u ∷ []) (e.0, tt) e.1 (λ r i. over_just xs r i nodes.equal refl)
  goal_over (fresh t u) s xs h k =
      let e = each_among xs (t ∷ u ∷ []) k in
      fresh_over xs s h (under s.bindings t) u e.1.0
  goal_over (both f g) s xs h k =
      over_each xs (outcomes choices_told call g)
      (λ r ys i. goal_over g r (xs ++ ys) i (λ x m. var_in_left x xs ys (k x (var_in_right x (free_vars f) (free_vars g) m))))
      (outcomes choices_told call f s) (goal_over f s xs h (λ x m. k x (var_in_left x (free_vars f) (free_vars g) m)))
  goal_over (either f g) s xs h k =
      over-append xs (map (below (1 ∷ []) nodes.left) (outcomes choices_told call f s)) (map (below (2 ∷ []) nodes.right) (outcomes choices_told call g s))
      (over_plain xs (1 ∷ []) nodes.left (λ d. refl) (outcomes choices_told call f s) (goal_over f s xs h (λ x m. k x (var_in_left x (free_vars f) (free_vars g) m))))
      (over_plain xs (2 ∷ []) nodes.right (λ d. refl) (outcomes choices_told call g s) (goal_over g s xs h (λ x m. k x (var_in_right x (free_vars f) (free_vars g) m))))
  goal_over (exists x g) s xs h k =
      over_below xs (x ∷ []) [] (nodes.exists (terms.susp [] x)) (λ d. refl) (outcomes choices_told call g s)
      (goal_over g s (xs ++ x ∷ []) (over_more xs (x ∷ []) s h) (brought_among xs x g k))
  goal_over (new a g) s xs h k =
      let ps = fresh_for_each a (free_vars g) in
      let o = reduce_all s.bindings ps in
      over_plain xs [] (nodes.new a) (λ d. refl) (then_if_reduced (outcomes choices_told call g) s o)
      (over_if_reduced xs s h (outcomes choices_told call g) o
      (each_reduce_all (Among xs) s.bindings ps (under_keeps (Among xs) s.bindings h.bindings) (problems_over (Among xs) a (free_vars g) k))
      (λ r i. goal_over g r xs i k))

-- A clause has no free variables but its own.
abbrev pub HasOwnVars : NominalClause → Type 0
HasOwnVars c = AreTermsAmong (local_vars 0 c.locals) c.args × IsGoalAmong (local_vars 0 c.locals) c.body

abbrev pub HaveOwnVars : List NominalClause → Type 0
HaveOwnVars [] = Unit {0}
HaveOwnVars (c ∷ cs) = HasOwnVars c × HaveOwnVars cs

abbrev pub AllHaveOwnVars : Clauses → Type 0
AllHaveOwnVars [] = Unit {0}
AllHaveOwnVars (cs ∷ css) = HaveOwnVars cs × AllHaveOwnVars css

-- once it is renamed too
renamed_among : (n : ℕ) (locals : List NominalLocal) (ys zs : List Var) → zs ≡ map (rename_var n) ys → ((x : Var) → has_var x ys ≡ true → Among (local_vars 0 locals) x)
    → (x : Var) → has_var x zs ≡ true → Among (local_vars n locals) x
renamed_among n locals ys zs e h x m =
    let r = has_var_of_map (rename_var n) x ys (sym (ap (has_var x) e) ∙ m) in
    let own = local_vars 0 locals in
    ap (has_var x) (vars_from n locals) ∙ ap (λ z. has_var z (map (rename_var n) own)) r.2 ∙ has_renamed n r.0 own ∙ h r.0 r.1

module _ (call : CallOf Choice) (calls : CallOver call) (ts : List NominalTerm) (s : State) (xs : List Var) (h : IsOver xs s) (t : EachTerm (Among xs) ts) where
  clause_over : (i : ℕ) (c : NominalClause) → HasOwnVars c → AllOver xs (by_clause (outcomes choices_told call) ts s i c)
  clause_over i c own =
      let n = next_number s in
      let ys = local_vars n c.locals in
      let from : State = record s { kinds = s.kinds ++ kinds_of c.locals } in
      let args = map (rename_term n) c.args in
      let body = rename_goal n c.body in
      let more = over_more xs ys s h in
      let here : IsOver (xs ++ ys) from = record { idempotent = more.idempotent; bindings = more.bindings; conditions = more.conditions } in
      over_below xs ys (i ∷ []) (clause_node i n c.locals) (brought_clause i n c.locals) (then_if_unified (outcomes choices_told call body) from (unify s.bindings s.conditions ts args))
      (over_if_unified (xs ++ ys) from here (outcomes choices_told call body) ts args (terms_more xs ys ts t)
      (each_among (xs ++ ys) args
      (λ x m. var_in_right x xs ys (renamed_among n c.locals (vars_of_terms c.args) (vars_of_terms args) (free_vars_renamed n (atom c.pred c.args)) own.0 x m)))
      (λ r j. goal_over call calls body r (xs ++ ys) j
      (λ x m. var_in_right x xs ys (renamed_among n c.locals (free_vars c.body) (free_vars body) (free_vars_renamed n c.body) own.1 x m))))

  clauses_over : (i : ℕ) (cs : List NominalClause) → HaveOwnVars cs → AllOver xs (by_clauses (outcomes choices_told call) ts s i cs)
  clauses_over i [] own = tt
  clauses_over i (c ∷ cs) own =
      over-append xs (by_clause (outcomes choices_told call) ts s i c) (by_clauses (outcomes choices_told call) ts s (suc i) cs) (clause_over i c own.0) (clauses_over (suc i) cs own.1)

own_clauses_of : (program : Clauses) → AllHaveOwnVars program → (p : ℕ) → HaveOwnVars (clauses_of program p)
own_clauses_of [] own p = tt
own_clauses_of (cs ∷ css) own zero = own.0
own_clauses_of (cs ∷ css) own (suc p) = own_clauses_of css own.1 p

calls_over : (program : Clauses) → AllHaveOwnVars program → (d : ℕ) → CallOver (calls_at choices_told program d)
calls_over program own zero p ts s xs h t = tt
calls_over program own (suc d) p ts s xs h t = clauses_over (calls_at choices_told program d) (calls_over program own d) ts s xs h t 1 (clauses_of program p) (own_clauses_of program own p)

pub query_over : (program : Clauses) → AllHaveOwnVars program → (d : ℕ) (q : NominalQuery) → IsGoalAmong (local_vars 0 q.locals) q.goal → AllOver (local_vars 0 q.locals) (marked_query program d q)
query_over program own d q k =
    goal_over (calls_at choices_told program d) (calls_over program own d) q.goal (first_state q) (local_vars 0 q.locals) (record { idempotent = (tt, tt); bindings = tt; conditions = tt }) k
