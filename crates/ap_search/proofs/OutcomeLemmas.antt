-- Whatever is told of choices, the outputs are those of the search.
use Rattle.std.proofs.Common.{◌≡◌, ℕ, zero, suc, List, [], ◌∷◌, ◌++◌, map, length, refl, ap, ap₂, ◌∙◌}
use Rattle.std.specs.Prelude.{Option, Some, None}
use Rattle.ap_defs.specs.Derivations as nodes
use Rattle.ap_defs.specs.Derivations.{NominalDerivation}
use Rattle.ap_defs.specs.Freshness.{reduce}
use Rattle.ap_defs.specs.Goals.{NominalGoal, succeed, atom, equal, fresh, both, either, exists, new, NominalClause, Clauses, clauses_of}
use Rattle.ap_defs.specs.HeadKeys.{kept_clauses}
use Rattle.ap_defs.specs.Occurrences.{free_vars}
use Rattle.ap_defs.specs.Paths.{marked_solve, unmarked, choices_told}
use Rattle.ap_defs.specs.Renaming.{rename_goal, rename_term}
use Rattle.ap_defs.specs.Resolution.{Call, CallOf, Outcome, Output, State, Telling, below, by_clause, by_clauses, calls, calls_at, choose, chose, clause_node, cut, each_found, found, fresh_for_each, if_reduced, if_unified, just_found, kinds_of, next_number, outcomes, outputs, solve, stuck, test_fresh}
use Rattle.ap_defs.specs.Substitution.{under}
use Rattle.ap_defs.specs.Terms as terms
use Rattle.ap_defs.specs.Terms.{NominalTerm}
use Rattle.ap_defs.specs.Unification.{Unified, reduce_all, unify}
use Rattle.ap_defs.specs.declared.terms.Cond.{Cond}

module _ {C : Type 0} where
  unmarked-append : (os qs : List (Outcome C)) → unmarked (os ++ qs) ≡ unmarked os ++ unmarked qs
  unmarked-append [] qs = refl
  unmarked-append (found p s d ∷ os) qs = ap (λ l. found p s d ∷ l) (unmarked-append os qs)
  unmarked-append (cut p ∷ os) qs = ap (λ l. cut p ∷ l) (unmarked-append os qs)
  unmarked-append (stuck p ∷ os) qs = ap (λ l. stuck p ∷ l) (unmarked-append os qs)
  unmarked-append (chose p c ∷ os) qs = unmarked-append os qs

  unmarked_below : (p : List ℕ) (node : NominalDerivation → NominalDerivation) (os : List (Outcome C)) → unmarked (map (below p node) os) ≡ map (below p node) (unmarked os)
  unmarked_below p node [] = refl
  unmarked_below p node (found q s d ∷ os) = ap (λ l. found (p ++ q) s (node d) ∷ l) (unmarked_below p node os)
  unmarked_below p node (cut q ∷ os) = ap (λ l. cut (p ++ q) ∷ l) (unmarked_below p node os)
  unmarked_below p node (stuck q ∷ os) = ap (λ l. stuck (p ++ q) ∷ l) (unmarked_below p node os)
  unmarked_below p node (chose q c ∷ os) = unmarked_below p node os

  unmarked_choice : (tell : Telling C) (w : ℕ) (ks : List ℕ) (os : List (Outcome C)) → unmarked (choose tell w ks os) ≡ unmarked os
  unmarked_choice tell w ks os = go (tell w ks)
    where
      go : (cs : List C) → unmarked (map (chose []) cs ++ os) ≡ unmarked os
      go [] = refl
      go (c ∷ cs) = go cs

  -- outcomes from each state, and the outputs among them
  abbrev AreAmong : (State → List (Outcome C)) → (State → List Output) → Type 0
  AreAmong go to = (s : State) → unmarked (go s) ≡ to s

  among_each : (go : State → List (Outcome C)) (to : State → List Output) → AreAmong go to → (os : List (Outcome C)) → unmarked (each_found go os) ≡ each_found to (unmarked os)
  among_each go to h [] = refl
  among_each go to h (found p s d ∷ os) =
      unmarked-append (map (below p (nodes.both d)) (go s)) (each_found go os)
      ∙ ap₂ ◌++◌ (unmarked_below p (nodes.both d) (go s) ∙ ap (map (below p (nodes.both d))) (h s)) (among_each go to h os)
  among_each go to h (cut p ∷ os) = ap (λ l. cut p ∷ l) (among_each go to h os)
  among_each go to h (stuck p ∷ os) = ap (λ l. stuck p ∷ l) (among_each go to h os)
  among_each go to h (chose p c ∷ os) = among_each go to h os

  among_unified : (go : State → List (Outcome C)) (to : State → List Output) → AreAmong go to → (s : State) (o : Option Unified) → unmarked (if_unified go s o) ≡ if_unified to s o
  among_unified go to h s None = refl
  among_unified go to h s (Some r) = h _

  among_reduced : (go : State → List (Outcome C)) (to : State → List Output) → AreAmong go to → (s : State) (o : Option (List Cond)) → unmarked (if_reduced go s o) ≡ if_reduced to s o
  among_reduced go to h s None = refl
  among_reduced go to h s (Some cs) = h _

among_fresh : (C : Type 0) (s : State) (t u : NominalTerm) → unmarked (test_fresh {C = C} s t u) ≡ test_fresh s t u
among_fresh C s (terms.name a) u = among_reduced {C = C} (just_found nodes.fresh) (just_found nodes.fresh) (λ r. refl) s (reduce a (under s.bindings u))
among_fresh C s (terms.susp q x) u = refl
among_fresh C s terms.unit u = refl
among_fresh C s (terms.pair t v) u = refl
among_fresh C s (terms.app f t) u = refl
among_fresh C s (terms.abs a t) u = refl

module _ {C : Type 0} (tell : Telling C) (told : CallOf C) (call : Call) (same : (c : ℕ) (ts : List NominalTerm) → AreAmong (told c ts) (call c ts)) where
  among_goal : (g : NominalGoal) → AreAmong (outcomes tell told g) (outputs call g)
  among_goal succeed s = refl
  among_goal (atom c ts) s = same c ts s
  among_goal (equal t u) s = among_unified (just_found nodes.equal) (just_found nodes.equal) (λ r. refl) s (unify s.bindings s.conditions (t ∷ []) (u ∷ []))
  among_goal (fresh t u) s = among_fresh C s (under s.bindings t) u
  among_goal (both g h) s = among_each (outcomes tell told h) (outputs call h) (among_goal h) (outcomes tell told g s) ∙ ap (each_found (outputs call h)) (among_goal g s)
  among_goal (either g h) s =
      let left = outcomes tell told g s in
      let right = outcomes tell told h s in
      unmarked_choice tell 2 (1 ∷ 2 ∷ []) (map (below (1 ∷ []) nodes.left) left ++ map (below (2 ∷ []) nodes.right) right)
      ∙ unmarked-append (map (below (1 ∷ []) nodes.left) left) (map (below (2 ∷ []) nodes.right) right)
      ∙ ap₂ ◌++◌
      (unmarked_below (1 ∷ []) nodes.left left ∙ ap (map (below (1 ∷ []) nodes.left)) (among_goal g s))
      (unmarked_below (2 ∷ []) nodes.right right ∙ ap (map (below (2 ∷ []) nodes.right)) (among_goal h s))
  among_goal (exists x g) s =
      unmarked_below [] (nodes.exists (terms.susp [] x)) (outcomes tell told g s) ∙ ap (map (below [] (nodes.exists (terms.susp [] x)))) (among_goal g s)
  among_goal (new a g) s =
      let o = reduce_all s.bindings (fresh_for_each a (free_vars g)) in
      unmarked_below [] (nodes.new a) (if_reduced (outcomes tell told g) s o)
      ∙ ap (map (below [] (nodes.new a))) (among_reduced (outcomes tell told g) (outputs call g) (among_goal g) s o)

  among_clauses : (ts : List NominalTerm) (s : State) (i : ℕ) (cs : List NominalClause) → unmarked (by_clauses (outcomes tell told) ts s i cs) ≡ by_clauses (outputs call) ts s i cs
  among_clauses ts s i [] = refl
  among_clauses ts s i (c ∷ cs) =
      let n = next_number s in
      let body = rename_goal n c.body in
      let node = clause_node i n c.locals in
      let from : State = record s { kinds = s.kinds ++ kinds_of c.locals } in
      let o = unify s.bindings s.conditions ts (map (rename_term n) c.args) in
      unmarked-append (by_clause (outcomes tell told) ts s i c) (by_clauses (outcomes tell told) ts s (suc i) cs)
      ∙ ap₂ ◌++◌
      (unmarked_below (i ∷ []) node (if_unified (outcomes tell told body) from o)
      ∙ ap (map (below (i ∷ []) node)) (among_unified (outcomes tell told body) (outputs call body) (among_goal body) from o))
      (among_clauses ts s (suc i) cs)

among_calls : {C : Type 0} (tell : Telling C) (program : Clauses) (d c : ℕ) (ts : List NominalTerm) → AreAmong (calls_at tell program d c ts) (calls program d c ts)
among_calls tell program zero c ts s = refl
among_calls tell program (suc d) c ts s =
    let cs = clauses_of program c in
    unmarked_choice tell (length cs) (kept_clauses s.bindings ts cs) (by_clauses (outcomes tell (calls_at tell program d)) ts s 1 cs)
    ∙ among_clauses tell (calls_at tell program d) (calls program d) (among_calls tell program d) ts s 1 cs

pub outputs_among : (program : Clauses) (d : ℕ) (g : NominalGoal) (s : State) → unmarked (marked_solve program d g s) ≡ solve program d g s
outputs_among program d g s = among_goal choices_told (calls_at choices_told program d) (calls program d) (among_calls choices_told program d) g s

pub ways_among : (program : Clauses) (d : ℕ) (ts : List NominalTerm) (s : State) (i : ℕ) (cs : List NominalClause)
    → unmarked (by_clauses (outcomes choices_told (calls_at choices_told program d)) ts s i cs) ≡ by_clauses (outputs (calls program d)) ts s i cs
ways_among program d = among_clauses choices_told (calls_at choices_told program d) (calls program d) (among_calls choices_told program d)
