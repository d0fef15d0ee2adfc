-- From a fit state a search finds fit states.
use Rattle.std.proofs.Common.{subst, ◌≡◌, ◌+◌, ◌<◌, ◌≤◌, ℕ, zero, suc, true, false, List, [], ◌∷◌, ◌++◌, map, length, refl, sym, ap, ◌∙◌, arith}
use Rattle.std.specs.Prelude.{if◌then◌else◌, Option, Some, None}
use Rattle.std.proofs.lemmas.List.{length-append, length-map}
use Rattle.ap_defs.specs.Derivations as nodes
use Rattle.ap_defs.specs.Derivations.{NominalDerivation}
use Rattle.ap_defs.specs.Freshness.{add_conds, both as both_lists, reduce}
use Rattle.ap_defs.specs.Goals.{NominalGoal, succeed, atom, equal, fresh, both, either, exists, new, NominalClause, NominalQuery, Clauses, clauses_of}
use Rattle.ap_defs.specs.Occurrences.{free_vars}
use Rattle.ap_defs.specs.Permutations.{name_eq}
use Rattle.ap_defs.specs.Renaming.{AreBelow, AreBindingsBelow, IsBelow, IsGoalBelow, rename_goal, rename_term}
use Rattle.ap_defs.specs.Resolution.{Call, Output, State, below, by_clause, by_clauses, calls, clause_node, cut, each_found, first_state, found, fresh_for_each, if_reduced, if_unified, just_found, kinds_of, next_number, outputs, solve, solve_query, chose, stuck, test_fresh}
use Rattle.ap_defs.specs.Substitution.{Binding, Problem, under, ◌#◌, ◌:=◌}
use Rattle.ap_defs.specs.Terms as terms
use Rattle.ap_defs.specs.Terms.{NominalTerm}
use Rattle.ap_defs.specs.Types.{NominalLocal}
use Rattle.ap_defs.specs.Unification.{Unified, reduce_all, unify}
use Rattle.ap_defs.specs.declared.terms.Cond.{Cond}
use Rattle.ap_defs.specs.declared.terms.Name.{Name}
use Rattle.ap_defs.specs.declared.terms.Var.{Var}
use Rattle.ap_program.proofs.RenamingLemmas.{AreVarsBelow, are_below_more, are_renamed_below, below_more, free_vars_below, goal_below_more, goal_renamed_below}
use Rattle.ap_theory.specs.Variables.{EachCond, EachVar, IsIdempotent, IsUnbound}
use Rattle.ap_theory.proofs.IdempotenceLemmas.{EachSome, each_add_all, under_each}
use Rattle.ap_theory.proofs.OpenSoundnessLemmas.{unify_idempotent}
use Rattle.ap_theory.proofs.VariableLemmas.{each_left, each_right, susp_each}
use Rattle.ap_search.specs.FitStates.{AllFound, AreCondsBelow, AreFitClauses, IsFitClause, IsFitProgram, IsFitState}
use Rattle.ap_search.proofs.NumberLemmas.{AreProblemsBelow, AreSomeBelow, IsUnifiedBelow, add_conds_below, reduce_all_below, reduce_below, under_below, unify_below}

-- Lists of outputs.
module _ (P : State → Type 0) where
  pub found-append : (os qs : List Output) → AllFound P os → AllFound P qs → AllFound P (os ++ qs)
  found-append [] qs h k = k
  found-append (found p s d ∷ os) qs h k = (h.0, found-append os qs h.1 k)
  found-append (cut p ∷ os) qs h k = found-append os qs h k
  found-append (chose p c ∷ os) qs h k = absurd c
  found-append (stuck p ∷ os) qs h k = found-append os qs h k

  pub found_below : (p : List ℕ) (node : NominalDerivation → NominalDerivation) (os : List Output) → AllFound P os → AllFound P (map (below p node) os)
  found_below p node [] h = tt
  found_below p node (found q s d ∷ os) h = (h.0, found_below p node os h.1)
  found_below p node (cut q ∷ os) h = found_below p node os h
  found_below p node (chose q c ∷ os) h = absurd c
  found_below p node (stuck q ∷ os) h = found_below p node os h

pub found_weaken : (P Q : State → Type 0) → ((s : State) → P s → Q s) → (os : List Output) → AllFound P os → AllFound Q os
found_weaken P Q w [] h = tt
found_weaken P Q w (found p s d ∷ os) h = (w s h.0, found_weaken P Q w os h.1)
found_weaken P Q w (cut p ∷ os) h = found_weaken P Q w os h
found_weaken P Q w (chose p c ∷ os) h = absurd c
found_weaken P Q w (stuck p ∷ os) h = found_weaken P Q w os h

pub found_each : (P Q : State → Type 0) (go : State → List Output) → ((s : State) → P s → AllFound Q (go s)) → (os : List Output) → AllFound P os → AllFound Q (each_found go os)
found_each P Q go k [] h = tt
found_each P Q go k (found p s d ∷ os) h = found-append Q (map (below p (nodes.both d)) (go s)) (each_found go os) (found_below Q p (nodes.both d) (go s) (k s h.0)) (found_each P Q go k os h.1)
found_each P Q go k (cut p ∷ os) h = found_each P Q go k os h
found_each P Q go k (chose p c ∷ os) h = absurd c
found_each P Q go k (stuck p ∷ os) h = found_each P Q go k os h

-- Conditions on unbound variables.
module _ (bs : List Binding) where
  unbound-append : (cs ds : List Cond) → EachCond (IsUnbound bs) cs → EachCond (IsUnbound bs) ds → EachCond (IsUnbound bs) (cs ++ ds)
  unbound-append [] ds h k = k
  unbound-append (c ∷ cs) ds h k = (h.0, unbound-append cs ds h.1 k)

  unbound_both : (o p : Option (List Cond)) → EachSome (IsUnbound bs) o → EachSome (IsUnbound bs) p → EachSome (IsUnbound bs) (both_lists o p)
  unbound_both None p h k = tt
  unbound_both (Some cs) None h k = tt
  unbound_both (Some cs) (Some ds) h k = unbound-append cs ds h k

  unbound_reduce : (a : Name) (t : NominalTerm) → EachVar (IsUnbound bs) t → EachSome (IsUnbound bs) (reduce a t)
  unbound_reduce a terms.unit h = tt
  unbound_reduce a (terms.name b) h = elim (name_eq a b) as (λ v. EachSome (IsUnbound bs) (if v then None else Some [])) [ true ↦ tt | false ↦ tt ]
  unbound_reduce a (terms.pair t u) h = unbound_both (reduce a t) (reduce a u) (unbound_reduce a t (each_left (IsUnbound bs) t u h)) (unbound_reduce a u (each_right (IsUnbound bs) t u h))
  unbound_reduce a (terms.app f t) h = unbound_reduce a t h
  unbound_reduce a (terms.abs b t) h = elim (name_eq a b) as (λ v. EachSome (IsUnbound bs) (if v then Some [] else reduce a t)) [ true ↦ tt | false ↦ unbound_reduce a t h ]
  unbound_reduce a (terms.susp p x) h = (susp_each (IsUnbound bs) p x h, tt)

  unbound_reduce_all : IsIdempotent bs → (ps : List Problem) → EachSome (IsUnbound bs) (reduce_all bs ps)
  unbound_reduce_all h [] = tt
  unbound_reduce_all h ((a # t) ∷ ps) = unbound_both (reduce a (under bs t)) (reduce_all bs ps) (unbound_reduce a (under bs t) (under_each bs h t)) (unbound_reduce_all h ps)

-- One step from a fit state.
module _ (Q : State → Type 0) where
  pub unified_fits : (go : State → List Output) (s : State) → IsFitState s → (ts us : List NominalTerm) → AreBelow (next_number s) ts → AreBelow (next_number s) us
      → ((r : State) → IsFitState r → next_number r ≡ next_number s → AllFound Q (go r)) → AllFound Q (if_unified go s (unify s.bindings s.conditions ts us))
  unified_fits go s h ts us t u k = after (unify s.bindings s.conditions ts us) refl
    where
      after : (o : Option Unified) → unify s.bindings s.conditions ts us ≡ o → AllFound Q (if_unified go s o)
      after None e = tt
      after (Some r) e =
          let low : IsUnifiedBelow (next_number s) (Some r) = subst (IsUnifiedBelow (next_number s)) e (unify_below (next_number s) s.bindings s.conditions ts us h.bindings h.conditions t u) in
          let fit = unify_idempotent s.bindings s.conditions ts us r h.idempotent e in
          k (record s { bindings = r.bindings; conditions = r.conditions }) (record { bindings = low.0; conditions = low.1; idempotent = fit.0; unbound = fit.1 }) refl

  pub reduced_fits : (go : State → List Output) (s : State) → IsFitState s → (o : Option (List Cond)) → AreSomeBelow (next_number s) o → EachSome (IsUnbound s.bindings) o
      → ((r : State) → IsFitState r → next_number r ≡ next_number s → AllFound Q (go r)) → AllFound Q (if_reduced go s o)
  reduced_fits go s h None b u k = tt
  reduced_fits go s h (Some cs) b u k =
      k (record s { conditions = add_conds cs s.conditions })
      (record {
        bindings = h.bindings;
        conditions = add_conds_below (next_number s) cs s.conditions b h.conditions;
        idempotent = h.idempotent;
        unbound = each_add_all (IsUnbound s.bindings) cs s.conditions u h.unbound;
      })
      refl

  pub fresh_fits : (s : State) → IsFitState s → (t u : NominalTerm) → IsBelow (next_number s) t → IsBelow (next_number s) u
      → ((r : State) → IsFitState r → next_number r ≡ next_number s → Q r) → AllFound Q (test_fresh s t u)
  fresh_fits s h (terms.name a) u t v k =
      reduced_fits (just_found nodes.fresh) s h (reduce a (under s.bindings u)) (reduce_below (next_number s) a t (under s.bindings u) (under_below (next_number s) s.bindings h.bindings u v))
      (unbound_reduce s.bindings a (under s.bindings u) (under_each s.bindings h.idempotent u)) (λ r f e. (k r f e, tt))
  fresh_fits s h (terms.susp p x) u t v k = tt
  fresh_fits s h terms.unit u t v k = tt
  fresh_fits s h (terms.pair w z) u t v k = tt
  fresh_fits s h (terms.app f w) u t v k = tt
  fresh_fits s h (terms.abs a w) u t v k = tt

-- a fit state, with at least so many numbers given
abbrev Good : ℕ → State → Type 0
Good n r = IsFitState r × (n ≤ next_number r)

fresh_problems_below : (n : ℕ) (a : Name) → a.num < n → (xs : List Var) → AreVarsBelow n xs → AreProblemsBelow n (fresh_for_each a xs)
fresh_problems_below n a l [] h = tt
fresh_problems_below n a l (x ∷ xs) h = ((l, (tt, h.0)), fresh_problems_below n a l xs h.1)

abbrev CallFits : Call → Type 0
CallFits call = (p : ℕ) (ts : List NominalTerm) (s : State) → IsFitState s → AreBelow (next_number s) ts → AllFound (Good (next_number s)) (call p ts s)

good_at : (n : ℕ) (r : State) → IsFitState r → next_number r ≡ n → Good n r
good_at n r f e = let l : n ≤ next_number r = omega arith in (f, l)

good_later : (n : ℕ) (r s : State) → n ≤ next_number r → Good (next_number r) s → Good n s
good_later n r s l h = let k : n ≤ next_number s = omega arith in (h.0, k)

module _ (call : Call) (fits : CallFits call) where
  outputs_fit : (g : NominalGoal) (s : State) → IsFitState s → IsGoalBelow (next_number s) g → AllFound (Good (next_number s)) (outputs call g s)
  outputs_fit succeed s h k = (good_at (next_number s) s h refl, tt)
  outputs_fit (atom p ts) s h k = fits p ts s h k
  outputs_fit (equal t u) s h k =
      unified_fits (Good (next_number s)) (just_found nodes.equal) s h (t ∷ []) (u ∷ []) (k.0, tt) (k.1, tt) (λ r f e. (good_at (next_number s) r f e, tt))
  outputs_fit (fresh t u) s h k =
      fresh_fits (Good (next_number s)) s h (under s.bindings t) u (under_below (next_number s) s.bindings h.bindings t k.0) k.1 (good_at (next_number s))
  outputs_fit (both f g) s h k =
      found_each (Good (next_number s)) (Good (next_number s)) (outputs call g)
      (λ r i. found_weaken (Good (next_number r)) (Good (next_number s)) (λ q j. good_later (next_number s) r q i.1 j) (outputs call g r) (outputs_fit g r i.0 (goal_below_more (next_number r) (next_number s) i.1 g k.1)))
      (outputs call f s) (outputs_fit f s h k.0)
  outputs_fit (either f g) s h k =
      let P = Good (next_number s) in
      found-append P (map (below (1 ∷ []) nodes.left) (outputs call f s)) (map (below (2 ∷ []) nodes.right) (outputs call g s))
      (found_below P (1 ∷ []) nodes.left (outputs call f s) (outputs_fit f s h k.0)) (found_below P (2 ∷ []) nodes.right (outputs call g s) (outputs_fit g s h k.1))
  outputs_fit (exists x g) s h k = found_below (Good (next_number s)) [] (nodes.exists (terms.susp [] x)) (outputs call g s) (outputs_fit g s h k.1)
  outputs_fit (new a g) s h k =
      let n = next_number s in
      let ps = fresh_for_each a (free_vars g) in
      found_below (Good n) [] (nodes.new a) (if_reduced (outputs call g) s (reduce_all s.bindings ps))
      (reduced_fits (Good n) (outputs call g) s h (reduce_all s.bindings ps)
      (reduce_all_below n s.bindings h.bindings ps (fresh_problems_below n a k.0 (free_vars g) (free_vars_below n g k.1)))
      (unbound_reduce_all s.bindings h.idempotent ps)
      (λ r f e. let l : n ≤ next_number r = omega arith in
      found_weaken (Good (next_number r)) (Good n) (λ q j. good_later n r q l j) (outputs call g r) (outputs_fit g r f (goal_below_more (next_number r) n l g k.1))))

bindings_below_more : (m n : ℕ) → n ≤ m → (bs : List Binding) → AreBindingsBelow n bs → AreBindingsBelow m bs
bindings_below_more m n l [] h = tt
bindings_below_more m n l ((x := t) ∷ bs) h = let k : x.num < m = omega arith in ((k, below_more m n l t h.0.1), bindings_below_more m n l bs h.1)

conds_below_more : (m n : ℕ) → n ≤ m → (cs : List Cond) → AreCondsBelow n cs → AreCondsBelow m cs
conds_below_more m n l [] h = tt
conds_below_more m n l (c ∷ cs) h =
    let k : c.name.num < m = omega arith in
    let i : c.var.num < m = omega arith in
    ((k, i), conds_below_more m n l cs h.1)

-- the state with the kinds of a clause's identifiers
abbrev with_locals : List NominalLocal → State → State
with_locals locals s = record s { kinds = s.kinds ++ kinds_of locals }

pub next_with_locals : (locals : List NominalLocal) (s : State) → next_number (with_locals locals s) ≡ next_number s + length locals
next_with_locals locals s = length-append s.kinds (kinds_of locals) ∙ ap (λ n. next_number s + n) (length-map locals (λ l. l.kind))

pub fit_with_locals : (locals : List NominalLocal) (s : State) → IsFitState s → IsFitState (with_locals locals s)
fit_with_locals locals s h =
    let e = next_with_locals locals s in
    let l : next_number s ≤ next_number (with_locals locals s) = omega arith in
    record {
      bindings = bindings_below_more (next_number (with_locals locals s)) (next_number s) l s.bindings h.bindings;
      conditions = conds_below_more (next_number (with_locals locals s)) (next_number s) l s.conditions h.conditions;
      idempotent = h.idempotent;
      unbound = h.unbound;
    }

module _ (call : Call) (fits : CallFits call) where
  clause_fits : (ts : List NominalTerm) (i : ℕ) (c : NominalClause) → IsFitClause c → (s : State) → IsFitState s → AreBelow (next_number s) ts
      → AllFound (Good (next_number s)) (by_clause (outputs call) ts s i c)
  clause_fits ts i c f s h k =
      let n = next_number s in
      let count = length c.locals in
      let from = with_locals c.locals s in
      let e : next_number from ≡ n + count = next_with_locals c.locals s in
      let l : n ≤ next_number from = omega arith in
      let args = map (rename_term n) c.args in
      let body = rename_goal n c.body in
      found_below (Good n) (i ∷ []) (clause_node i n c.locals) (if_unified (outputs call body) from (unify s.bindings s.conditions ts args))
      (unified_fits (Good n) (outputs call body) from (fit_with_locals c.locals s h) ts args (are_below_more (next_number from) n l ts k)
      (subst (λ (m : ℕ). AreBelow m args) (sym e) (are_renamed_below n count c.args f.0))
      (λ r g j. let m : n ≤ next_number r = omega arith in
      found_weaken (Good (next_number r)) (Good n) (λ q w. good_later n r q m w) (outputs call body r)
      (outputs_fit call fits body r g (subst (λ (w : ℕ). IsGoalBelow w body) (sym (j ∙ e)) (goal_renamed_below n count c.body f.1)))))

  clauses_fit : (ts : List NominalTerm) (i : ℕ) (cs : List NominalClause) → AreFitClauses cs → (s : State) → IsFitState s → AreBelow (next_number s) ts
      → AllFound (Good (next_number s)) (by_clauses (outputs call) ts s i cs)
  clauses_fit ts i [] f s h k = tt
  clauses_fit ts i (c ∷ cs) f s h k =
      found-append (Good (next_number s)) (by_clause (outputs call) ts s i c) (by_clauses (outputs call) ts s (suc i) cs) (clause_fits ts i c f.0 s h k) (clauses_fit ts (suc i) cs f.1 s h k)

pub fit_clauses_of : (program : Clauses) → IsFitProgram program → (p : ℕ) → AreFitClauses (clauses_of program p)
fit_clauses_of [] f p = tt
fit_clauses_of (cs ∷ css) f zero = f.0
fit_clauses_of (cs ∷ css) f (suc p) = fit_clauses_of css f.1 p

calls_fit : (program : Clauses) → IsFitProgram program → (d : ℕ) → CallFits (calls program d)
calls_fit program f zero p ts s h k = tt
calls_fit program f (suc d) p ts s h k = clauses_fit (calls program d) (calls_fit program f d) ts 1 (clauses_of program p) (fit_clauses_of program f p) s h k

-- from a fit state a search finds fit states
pub solve_fits : (program : Clauses) → IsFitProgram program → (d : ℕ) (g : NominalGoal) (s : State) → IsFitState s → IsGoalBelow (next_number s) g
    → AllFound (λ r. IsFitState r × (next_number s ≤ next_number r)) (solve program d g s)
solve_fits program f d g s h k = outputs_fit (calls program d) (calls_fit program f d) g s h k

pub first_fits : (q : NominalQuery) → IsFitState (first_state q)
first_fits q = record { bindings = tt; conditions = tt; idempotent = (tt, tt); unbound = tt }

pub query_fits : (program : Clauses) → IsFitProgram program → (d : ℕ) (q : NominalQuery) → IsGoalBelow (length q.locals) q.goal → AllFound IsFitState (solve_query program d q)
query_fits program f d q k =
    let e : next_number (first_state q) ≡ length q.locals = length-map q.locals (λ l. l.kind) in
    found_weaken (Good (next_number (first_state q))) IsFitState (λ s h. h.0) (solve_query program d q)
    (solve_fits program f d q.goal (first_state q) (first_fits q) (subst (λ (n : ℕ). IsGoalBelow n q.goal) (sym e) k))
