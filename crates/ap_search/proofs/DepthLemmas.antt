-- Where nothing was cut, a greater depth gives the same outputs.
use Rattle.std.proofs.Common.{◌≡◌, ◌≤◌, ℕ, zero, suc, List, [], ◌∷◌, ◌++◌, map, refl, ap, ap₂, ◌∙◌, arith}
use Rattle.std.specs.Prelude.{Option, Some, None}
use Rattle.ap_defs.specs.Answers.{out_in, query_outs}
use Rattle.ap_defs.specs.Derivations as nodes
use Rattle.ap_defs.specs.Derivations.{NominalDerivation}
use Rattle.ap_defs.specs.Goals.{NominalGoal, succeed, atom, equal, fresh, both, either, exists, new, NominalClause, NominalQuery, Clauses, clauses_of}
use Rattle.ap_defs.specs.Occurrences.{free_vars}
use Rattle.ap_defs.specs.Renaming.{rename_goal, rename_term}
use Rattle.ap_defs.specs.Resolution.{Call, Output, State, below, by_clause, by_clauses, calls, clause_node, cut, each_found, first_state, found, fresh_for_each, if_reduced, if_unified, kinds_of, next_number, outputs, solve, chose, stuck}
use Rattle.ap_defs.specs.Terms as terms
use Rattle.ap_defs.specs.Terms.{NominalTerm}
use Rattle.ap_defs.specs.Types.{NominalLocal}
use Rattle.ap_defs.specs.Unification.{Unified, reduce_all, unify}
use Rattle.ap_defs.specs.declared.terms.Cond.{Cond}
use Rattle.ap_search.specs.Depths.{HasNoCut, HasNoCutOut}

uncut_left : (os qs : List Output) → HasNoCut (os ++ qs) → HasNoCut os
uncut_left [] qs h = tt
uncut_left (found p s d ∷ os) qs h = uncut_left os qs h
uncut_left (cut p ∷ os) qs h = h
uncut_left (chose p c ∷ os) qs h = absurd c
uncut_left (stuck p ∷ os) qs h = uncut_left os qs h

uncut_right : (os qs : List Output) → HasNoCut (os ++ qs) → HasNoCut qs
uncut_right [] qs h = h
uncut_right (found p s d ∷ os) qs h = uncut_right os qs h
uncut_right (cut p ∷ os) qs h = absurd h
uncut_right (chose p c ∷ os) qs h = absurd c
uncut_right (stuck p ∷ os) qs h = uncut_right os qs h

uncut_below : (p : List ℕ) (node : NominalDerivation → NominalDerivation) (os : List Output) → HasNoCut (map (below p node) os) → HasNoCut os
uncut_below p node [] h = tt
uncut_below p node (found q s d ∷ os) h = uncut_below p node os h
uncut_below p node (cut q ∷ os) h = h
uncut_below p node (chose q c ∷ os) h = absurd c
uncut_below p node (stuck q ∷ os) h = uncut_below p node os h

-- what was cut before is kept
uncut_each : (go : State → List Output) (os : List Output) → HasNoCut (each_found go os) → HasNoCut os
uncut_each go [] h = tt
uncut_each go (found p s d ∷ os) h = uncut_each go os (uncut_right (map (below p (nodes.both d)) (go s)) (each_found go os) h)
uncut_each go (cut p ∷ os) h = h
uncut_each go (chose p c ∷ os) h = absurd c
uncut_each go (stuck p ∷ os) h = uncut_each go os h

abbrev Settles : (State → List Output) → (State → List Output) → Type 0
Settles go to = (s : State) → HasNoCut (go s) → to s ≡ go s

each_settles : (go to : State → List Output) → Settles go to → (os : List Output) → HasNoCut (each_found go os) → each_found to os ≡ each_found go os
each_settles go to k [] h = refl
each_settles go to k (found p s d ∷ os) h =
    ap₂ ◌++◌
    (ap (map (below p (nodes.both d))) (k s (uncut_below p (nodes.both d) (go s) (uncut_left (map (below p (nodes.both d)) (go s)) (each_found go os) h))))
    (each_settles go to k os (uncut_right (map (below p (nodes.both d)) (go s)) (each_found go os) h))
each_settles go to k (cut p ∷ os) h = absurd h
each_settles go to k (chose p c ∷ os) h = absurd c
each_settles go to k (stuck p ∷ os) h = ap (λ l. stuck p ∷ l) (each_settles go to k os h)

reduced_settles : (go to : State → List Output) → Settles go to → (s : State) (o : Option (List Cond)) → HasNoCut (if_reduced go s o) → if_reduced to s o ≡ if_reduced go s o
reduced_settles go to k s None h = refl
reduced_settles go to k s (Some cs) h = k _ h

unified_settles : (go to : State → List Output) → Settles go to → (s : State) (o : Option Unified) → HasNoCut (if_unified go s o) → if_unified to s o ≡ if_unified go s o
unified_settles go to k s None h = refl
unified_settles go to k s (Some r) h = k _ h

abbrev CallSettles : Call → Call → Type 0
CallSettles call to = (p : ℕ) (ts : List NominalTerm) → Settles (call p ts) (to p ts)

module _ (call to : Call) (k : CallSettles call to) where
  outputs_settle : (g : NominalGoal) → Settles (outputs call g) (outputs to g)
  outputs_settle succeed s h = refl
  outputs_settle (atom p ts) s h = k p ts s h
  outputs_settle (equal t u) s h = refl
  outputs_settle (fresh t u) s h = refl
  outputs_settle (both f g) s h =
      ap (each_found (outputs to g)) (outputs_settle f s (uncut_each (outputs call g) (outputs call f s) h))
      ∙ each_settles (outputs call g) (outputs to g) (outputs_settle g) (outputs call f s) h
  outputs_settle (either f g) s h =
      let l = map (below (1 ∷ []) nodes.left) (outputs call f s) in
      let r = map (below (2 ∷ []) nodes.right) (outputs call g s) in
      ap₂ ◌++◌ (ap (map (below (1 ∷ []) nodes.left)) (outputs_settle f s (uncut_below (1 ∷ []) nodes.left (outputs call f s) (uncut_left l r h))))
      (ap (map (below (2 ∷ []) nodes.right)) (outputs_settle g s (uncut_below (2 ∷ []) nodes.right (outputs call g s) (uncut_right l r h))))
  outputs_settle (exists x g) s h =
      ap (map (below [] (nodes.exists (terms.susp [] x)))) (outputs_settle g s (uncut_below [] (nodes.exists (terms.susp [] x)) (outputs call g s) h))
  outputs_settle (new a g) s h =
      let o = reduce_all s.bindings (fresh_for_each a (free_vars g)) in
      ap (map (below [] (nodes.new a))) (reduced_settles (outputs call g) (outputs to g) (outputs_settle g) s o (uncut_below [] (nodes.new a) (if_reduced (outputs call g) s o) h))

  clauses_settle : (ts : List NominalTerm) (i : ℕ) (cs : List NominalClause) → Settles (λ s. by_clauses (outputs call) ts s i cs) (λ s. by_clauses (outputs to) ts s i cs)
  clauses_settle ts i [] s h = refl
  clauses_settle ts i (c ∷ cs) s h =
      let n = next_number s in
      let from = record s { kinds = s.kinds ++ kinds_of c.locals } in
      let o = unify s.bindings s.conditions ts (map (rename_term n) c.args) in
      let node = clause_node i n c.locals in
      ap₂ ◌++◌
      (ap (map (below (i ∷ []) node)) (unified_settles (outputs call (rename_goal n c.body)) (outputs to (rename_goal n c.body)) (outputs_settle (rename_goal n c.body)) from o
      (uncut_below (i ∷ []) node (if_unified (outputs call (rename_goal n c.body)) from o) (uncut_left (by_clause (outputs call) ts s i c) (by_clauses (outputs call) ts s (suc i) cs) h))))
      (clauses_settle ts (suc i) cs s (uncut_right (by_clause (outputs call) ts s i c) (by_clauses (outputs call) ts s (suc i) cs) h))

calls_settle : (program : Clauses) (d e : ℕ) → d ≤ e → CallSettles (calls program d) (calls program e)
calls_settle program zero e l p ts s h = absurd h
calls_settle program (suc d) zero l p ts s h = absurd (omega arith)
calls_settle program (suc d) (suc e) l p ts s h =
    clauses_settle (calls program d) (calls program e) (calls_settle program d e (omega arith)) ts 1 (clauses_of program p) s h

pub solve_deeper : (program : Clauses) (d e : ℕ) (g : NominalGoal) (s : State) → d ≤ e → HasNoCut (solve program d g s) → solve program e g s ≡ solve program d g s
solve_deeper program d e g s l h = outputs_settle (calls program d) (calls program e) (calls_settle program d e l) g s h

uncut_outs : (locals : List NominalLocal) (os : List Output) → HasNoCutOut (map (out_in locals) os) → HasNoCut os
uncut_outs locals [] h = tt
uncut_outs locals (found p s d ∷ os) h = uncut_outs locals os h
uncut_outs locals (cut p ∷ os) h = h
uncut_outs locals (chose p c ∷ os) h = absurd c
uncut_outs locals (stuck p ∷ os) h = uncut_outs locals os h

pub query_deeper : (program : Clauses) (d e : ℕ) (q : NominalQuery) → d ≤ e → HasNoCutOut (query_outs program d q) → query_outs program e q ≡ query_outs program d q
query_deeper program d e q l h =
    ap (map (out_in q.locals)) (solve_deeper program d e q.goal (first_state q) l (uncut_outs q.locals (solve program d q.goal (first_state q)) h))
