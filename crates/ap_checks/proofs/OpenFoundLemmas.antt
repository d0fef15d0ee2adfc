-- What solves a state that was found solves the state where the search began, and no node of its derivation is refused.
use Rattle.std.proofs.Common.{subst, ◌≡◌, ◌+◌, ℕ, zero, suc, List, [], ◌∷◌, ◌++◌, map, refl, ap, ◌∙◌, arith}
use Rattle.std.specs.Prelude.{Option, Some, None}
use Rattle.ap_defs.specs.Derivations as nodes
use Rattle.ap_defs.specs.Goals.{NominalGoal, succeed, atom, equal, fresh, both, either, exists, new, NominalClause, NominalProgram, clauses_of}
use Rattle.ap_defs.specs.GroundProofs.{clause_at}
use Rattle.ap_defs.specs.Occurrences.{free_vars}
use Rattle.ap_defs.specs.Renaming.{rename_goal, rename_name, rename_term, rename_var}
use Rattle.ap_defs.specs.Resolution.{Call, State, below, if_unified, solve, by_clause, by_clauses, calls, clause_node, fresh_for_each, if_reduced, just_found, kinds_of, next_number, outputs}
use Rattle.ap_defs.specs.Substitution.{under}
use Rattle.ap_defs.specs.Terms as terms
use Rattle.ap_defs.specs.Terms.{NominalTerm}
use Rattle.ap_defs.specs.Types.{NominalConstructor, NominalKind}
use Rattle.ap_defs.specs.Unification.{Unified, reduce_all, unify}
use Rattle.ap_defs.specs.declared.terms.Cond.{Cond}
use Rattle.ap_defs.specs.declared.terms.Name.{Name}
use Rattle.ap_program.specs.RawTyping.{HasTermType}
use Rattle.ap_program.specs.Typed.{AreArguments, AreTypedClauses, IsTypedClause, IsTypedGoal, IsTypedProgram, predicate_at, term_form}
use Rattle.ap_search.proofs.TypingLemmas.{kind_at_back}
use Rattle.ap_soundness.specs.FoundStates.{EachFound}
use Rattle.ap_soundness.proofs.EachFoundLemmas.{Property, each-append, each_below, each_then, each_unified, each_weaken}
use Rattle.ap_soundness.proofs.FoundLemmas.{AreNumbered, typed_clauses_of, with_conds, with_kinds}
use Rattle.ap_soundness.proofs.StepLemmas.{KindsAt}
use Rattle.ap_checks.proofs.OpenClauseLemmas.{clause_checked}
use Rattle.ap_checks.proofs.OpenStepLemmas.{CheckedFrom, both_checked, equal_checked, exists_checked, fresh_checked, left_checked, new_checked, right_checked, succeed_checked}

module _ (p : NominalProgram) where
  abbrev cs : List NominalConstructor
  cs = p.signature.constructors

  -- Any goal, at any depth.
  abbrev CallFound : ℕ → Call → Type 0
  CallFound depth call = (kinds : List NominalKind) (n q : ℕ) (ts : List NominalTerm) (s : State) → KindsAt n kinds s.kinds
      → AreArguments (HasTermType cs kinds) ts (predicate_at p.signature.predicates q) → EachFound (CheckedFrom p kinds n (atom q ts) s depth) (call q (map (rename_term n) ts) s)

  module _ (depth : ℕ) (call : Call) (found : CallFound depth call) where
    new_step : (kinds : List NominalKind) (n : ℕ) (s : State) (a : Name) (f : NominalGoal) (o : Option (List Cond))
        → reduce_all s.bindings (fresh_for_each (rename_name n a) (free_vars (rename_goal n f))) ≡ o
        → ((conds : List Cond) → EachFound (CheckedFrom p kinds n f (with_conds s conds) depth) (outputs call (rename_goal n f) (with_conds s conds)))
        → EachFound (CheckedFrom p kinds n (new a f) s depth) (map (below [] (nodes.new (rename_name n a))) (if_reduced (outputs call (rename_goal n f)) s o))
    new_step kinds n s a f None e k = tt
    new_step kinds n s a f (Some conds) e k =
        each_below (CheckedFrom p kinds n f (with_conds s conds) depth) (CheckedFrom p kinds n (new a f) s depth) [] (nodes.new (rename_name n a)) (new_checked p kinds n s depth a f conds e)
        (outputs call (rename_goal n f) (with_conds s conds)) (k conds)

    goal_found : (kinds : List NominalKind) (n : ℕ) (goal : NominalGoal) (s : State) → KindsAt n kinds s.kinds
        → IsTypedGoal (HasTermType cs kinds) p.signature.predicates kinds goal → EachFound (CheckedFrom p kinds n goal s depth) (outputs call (rename_goal n goal) s)
    goal_found kinds n succeed s h t = (succeed_checked p kinds n s depth, tt)
    goal_found kinds n (atom q ts) s h t = found kinds n q ts s h t
    goal_found kinds n (equal t u) s h i =
        each_unified (CheckedFrom p kinds n (equal t u) s depth) (just_found nodes.equal) s (unify s.bindings s.conditions (rename_term n t ∷ []) (rename_term n u ∷ []))
        (λ r e. (equal_checked p kinds n s depth t u r e, tt))
    goal_found kinds n (fresh t u) s h i = fresh_checked p kinds n s depth t u (under s.bindings (rename_term n t)) refl
    goal_found kinds n (both f g) s h t =
        each_then (CheckedFrom p kinds n f s depth) (CheckedFrom p kinds n (both f g) s depth) (outputs call (rename_goal n g))
        (λ r d i. each_weaken (CheckedFrom p kinds n g r depth) (λ q e. CheckedFrom p kinds n (both f g) s depth q (nodes.both d e)) (both_checked p kinds n s depth f g r d i)
        (outputs call (rename_goal n g) r) (goal_found kinds n g r (λ j k l. i.from.kept (n + j) k (h j k l)) t.1))
        (outputs call (rename_goal n f) s) (goal_found kinds n f s h t.0)
    goal_found kinds n (either f g) s h t =
        each-append (CheckedFrom p kinds n (either f g) s depth) (map (below (1 ∷ []) nodes.left) (outputs call (rename_goal n f) s)) (map (below (2 ∷ []) nodes.right) (outputs call (rename_goal n g) s))
        (each_below (CheckedFrom p kinds n f s depth) (CheckedFrom p kinds n (either f g) s depth) (1 ∷ []) nodes.left (left_checked p kinds n s depth f g)
        (outputs call (rename_goal n f) s) (goal_found kinds n f s h t.0))
        (each_below (CheckedFrom p kinds n g s depth) (CheckedFrom p kinds n (either f g) s depth) (2 ∷ []) nodes.right (right_checked p kinds n s depth f g)
        (outputs call (rename_goal n g) s) (goal_found kinds n g s h t.1))
    goal_found kinds n (exists x f) s h t =
        each_below (CheckedFrom p kinds n f s depth) (CheckedFrom p kinds n (exists x f) s depth) [] (nodes.exists (terms.susp [] (rename_var n x)))
        (exists_checked p kinds n s depth h x f t.0) (outputs call (rename_goal n f) s) (goal_found kinds n f s h t.1)
    goal_found kinds n (new a f) s h t =
        new_step kinds n s a f (reduce_all s.bindings (fresh_for_each (rename_name n a) (free_vars (rename_goal n f)))) refl (λ conds. goal_found kinds n f (with_conds s conds) h t.1)

    module _ (kinds : List NominalKind) (n q : ℕ) (ts : List NominalTerm) (s : State) (t : AreArguments (HasTermType cs kinds) ts (predicate_at p.signature.predicates q)) where
      abbrev Called : Property
      Called = CheckedFrom p kinds n (atom q ts) s (suc depth)

      clause_step : (k : ℕ) (c : NominalClause) → clause_at (clauses_of p.clauses q) k ≡ Some c → IsTypedClause term_form p.signature q c
          → (o : Option Unified) → unify s.bindings s.conditions (map (rename_term n) ts) (map (rename_term (next_number s)) c.args) ≡ o
          → EachFound Called (map (below (k ∷ []) (clause_node k (next_number s) c.locals)) (if_unified (outputs call (rename_goal (next_number s) c.body)) (with_kinds s c.locals) o))
      clause_step k c i typed None e = tt
      clause_step k c i typed (Some r) e =
          let m = next_number s in
          let ls = kinds_of c.locals in
          let from : State = record { bindings = r.bindings; conditions = r.conditions; kinds = s.kinds ++ ls } in
          each_below (CheckedFrom p ls m c.body from depth) Called (k ∷ []) (clause_node k m c.locals) (clause_checked p kinds n q ts s depth k c i typed t r e)
          (outputs call (rename_goal m c.body) from) (goal_found ls m c.body from (λ j l f. kind_at_back s.kinds ls j ∙ f) typed.1.1)

      clauses_found : (k : ℕ) (rest : List NominalClause) → AreNumbered p q k rest → AreTypedClauses term_form p.signature q rest
          → EachFound Called (by_clauses (outputs call) (map (rename_term n) ts) s k rest)
      clauses_found k [] i typed = tt
      clauses_found k (c ∷ rest) i typed =
          let here : clause_at (clauses_of p.clauses q) k ≡ Some c = (let e : k ≡ k + zero = omega arith in ap (clause_at (clauses_of p.clauses q)) e ∙ i zero c refl) in
          each-append Called (by_clause (outputs call) (map (rename_term n) ts) s k c) (by_clauses (outputs call) (map (rename_term n) ts) s (suc k) rest)
          (clause_step k c here typed.0 (unify s.bindings s.conditions (map (rename_term n) ts) (map (rename_term (next_number s)) c.args)) refl)
          (clauses_found (suc k) rest (λ j b e. let l : suc k + j ≡ k + suc j = omega arith in ap (clause_at (clauses_of p.clauses q)) l ∙ i (suc j) b e) typed.1)

  calls_found : IsTypedProgram p → (depth : ℕ) → CallFound depth (calls p.clauses depth)
  calls_found typed zero kinds n q ts s h t = tt
  calls_found typed (suc depth) kinds n q ts s h t =
      let e : 0 + q ≡ q = omega arith in
      let own = subst (λ (j : ℕ). AreTypedClauses term_form p.signature j (clauses_of p.clauses q)) e (typed_clauses_of p 0 p.clauses typed.0 q) in
      clauses_found depth (calls p.clauses depth) (calls_found typed depth) kinds n q ts s t 1 (clauses_of p.clauses q)
      (λ j c i. let l : 1 + j ≡ suc j = omega arith in ap (clause_at (clauses_of p.clauses q)) l ∙ i) own

  -- each state that the search of a typed goal finds
  pub found_is_checked : IsTypedProgram p → (depth : ℕ) (kinds : List NominalKind) (n : ℕ) (goal : NominalGoal) (s : State) → KindsAt n kinds s.kinds
      → IsTypedGoal (HasTermType cs kinds) p.signature.predicates kinds goal → EachFound (CheckedFrom p kinds n goal s depth) (solve p.clauses depth (rename_goal n goal) s)
  found_is_checked typed depth kinds n goal s h t = goal_found depth (calls p.clauses depth) (calls_found typed depth) kinds n goal s h t
