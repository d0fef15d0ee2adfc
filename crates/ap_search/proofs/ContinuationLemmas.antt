-- Search in continuation form writes the outcomes of search.
use Rattle.std.proofs.Common.{◌≡◌, ℕ, zero, suc, List, [], ◌∷◌, ◌++◌, map, length, refl, sym, ap, ap₂, ◌∙◌, append_assoc, append-nil}
use Rattle.std.specs.Prelude.{Option, Some, None}
use Rattle.ap_defs.specs.Answers as answers
use Rattle.ap_defs.specs.Answers.{NominalOut, out_in, query_outs}
use Rattle.ap_defs.specs.Derivations as nodes
use Rattle.ap_defs.specs.Derivations.{NominalDerivation, terms_in}
use Rattle.ap_defs.specs.Freshness.{reduce}
use Rattle.ap_defs.specs.Goals.{NominalGoal, succeed, atom, equal, fresh, both, either, exists, new, NominalClause, NominalQuery, Clauses, clauses_of}
use Rattle.ap_defs.specs.HeadKeys.{kept_clauses}
use Rattle.ap_defs.specs.Occurrences.{free_vars, vars_of_terms}
use Rattle.ap_defs.specs.Paths.{Mark, marked_query, marked_solve, choices_told}
use Rattle.ap_defs.specs.Renaming.{local_vars, rename_goal, rename_term}
use Rattle.ap_defs.specs.Resolution.{CallOf, Outcome, Output, State, Telling, below, by_clause, by_clauses, calls_at, choose, chose, clause_node, cut, each_found, first_state, found, fresh_for_each, if_reduced, if_unified, just_found, kinds_of, next_number, nothing_told, outcomes, solve, stuck, test_fresh}
use Rattle.ap_defs.specs.Substitution.{under}
use Rattle.ap_defs.specs.Terms as terms
use Rattle.ap_defs.specs.Terms.{NominalTerm}
use Rattle.ap_defs.specs.Types.{NominalLocal}
use Rattle.ap_defs.specs.Unification.{Unified, reduce_all, unify}
use Rattle.ap_defs.specs.declared.terms.Cond.{Cond}
use Rattle.ap_defs.specs.declared.terms.Var.{Var}
use Rattle.ap_search.specs.Continuations.{CallThen, Continuation, Writing, answer_then, calls_then, clause_then, clauses_then, goal_then, outputs_alone, stack_outs, then_if_reduced, then_if_unified, then_test_fresh}
use Rattle.ap_search.specs.Marks.{NominalMark, choice, mark_in, stack_marks, with_choices}
use Rattle.ap_search.specs.Records.{answer_with, vars_brought}
use Rattle.ap_search.proofs.RecordLemmas.{answer_by_vars, vars_of_terms-append}

pub brought_both : (d e : NominalDerivation) → vars_brought (nodes.both d e) ≡ vars_brought d ++ vars_brought e
brought_both d e = vars_of_terms-append (terms_in d) (terms_in e)

brought_vars : (xs : List Var) → vars_of_terms (map (terms.susp []) xs) ≡ xs
brought_vars [] = refl
brought_vars (x ∷ xs) = ap (λ ys. x ∷ ys) (brought_vars xs)

pub brought_clause : (i n : ℕ) (locals : List NominalLocal) (d : NominalDerivation) → vars_brought (clause_node i n locals d) ≡ local_vars n locals ++ vars_brought d
brought_clause i n locals d =
    vars_of_terms-append (map (terms.susp []) (local_vars n locals)) (terms_in d) ∙ ap (λ ys. ys ++ vars_brought d) (brought_vars (local_vars n locals))

-- What is told of choices, as it is written.
module _ {C R : Type 0} (w : Writing R) (told : List ℕ → C → R) where
  -- a continuation after each state that was found
  abbrev pub follow : Continuation R → List ℕ → List Var → List (Outcome C) → List R
  follow k p xs [] = []
  follow k p xs (found q s d ∷ os) = k (p ++ q) s (xs ++ vars_brought d) ++ follow k p xs os
  follow k p xs (cut q ∷ os) = w.output (answers.cut (p ++ q)) ∷ follow k p xs os
  follow k p xs (stuck q ∷ os) = w.output (answers.stuck (p ++ q)) ∷ follow k p xs os
  follow k p xs (chose q c ∷ os) = told (p ++ q) c ∷ follow k p xs os

  pub follow-append : (k : Continuation R) (p : List ℕ) (xs : List Var) (os qs : List (Outcome C)) → follow k p xs (os ++ qs) ≡ follow k p xs os ++ follow k p xs qs
  follow-append k p xs [] qs = refl
  follow-append k p xs (found q s d ∷ os) qs =
      ap (λ l. k (p ++ q) s (xs ++ vars_brought d) ++ l) (follow-append k p xs os qs)
      ∙ sym (append_assoc (k (p ++ q) s (xs ++ vars_brought d)) (follow k p xs os) (follow k p xs qs))
  follow-append k p xs (cut q ∷ os) qs = ap (λ l. w.output (answers.cut (p ++ q)) ∷ l) (follow-append k p xs os qs)
  follow-append k p xs (stuck q ∷ os) qs = ap (λ l. w.output (answers.stuck (p ++ q)) ∷ l) (follow-append k p xs os qs)
  follow-append k p xs (chose q c ∷ os) qs = ap (λ l. told (p ++ q) c ∷ l) (follow-append k p xs os qs)

  -- outcomes under a choice and a node that brings variables
  pub follow_below : (k : Continuation R) (p q : List ℕ) (xs ys : List Var) (node : NominalDerivation → NominalDerivation)
      → ((d : NominalDerivation) → vars_brought (node d) ≡ ys ++ vars_brought d) → (os : List (Outcome C))
      → follow k (p ++ q) (xs ++ ys) os ≡ follow k p xs (map (below q node) os)
  follow_below k p q xs ys node h [] = refl
  follow_below k p q xs ys node h (found r s d ∷ os) =
      ap₂ ◌++◌
      (ap₂ (λ path vs. k path s vs) (append_assoc p q r) (append_assoc xs ys (vars_brought d) ∙ ap (λ vs. xs ++ vs) (sym (h d))))
      (follow_below k p q xs ys node h os)
  follow_below k p q xs ys node h (cut r ∷ os) = ap₂ (λ path l. w.output (answers.cut path) ∷ l) (append_assoc p q r) (follow_below k p q xs ys node h os)
  follow_below k p q xs ys node h (stuck r ∷ os) = ap₂ (λ path l. w.output (answers.stuck path) ∷ l) (append_assoc p q r) (follow_below k p q xs ys node h os)
  follow_below k p q xs ys node h (chose r c ∷ os) = ap₂ (λ path l. told path c ∷ l) (append_assoc p q r) (follow_below k p q xs ys node h os)

  -- the same node, no choice
  follow_node : (k : Continuation R) (p : List ℕ) (xs ys : List Var) (node : NominalDerivation → NominalDerivation)
      → ((d : NominalDerivation) → vars_brought (node d) ≡ ys ++ vars_brought d) → (os : List (Outcome C))
      → follow k p (xs ++ ys) os ≡ follow k p xs (map (below [] node) os)
  follow_node k p xs ys node h os = ap (λ path. follow k path (xs ++ ys) os) (sym (append-nil p)) ∙ follow_below k p [] xs ys node h os

  follow_just : (k : Continuation R) (p : List ℕ) (s : State) (xs : List Var) (d : NominalDerivation) → vars_brought d ≡ [] → k p s xs ≡ follow k p xs (just_found d s)
  follow_just k p s xs d h =
      sym (append-nil (k (p ++ []) s (xs ++ vars_brought d)) ∙ ap₂ (λ path vs. k path s vs) (append-nil p) (ap (λ vs. xs ++ vs) h ∙ append-nil xs))

  follow_unified : (k : Continuation R) (p : List ℕ) (s : State) (xs : List Var) (o : Option Unified)
      → then_if_unified (λ r. k p r xs) s o ≡ follow k p xs (if_unified (just_found nodes.equal) s o)
  follow_unified k p s xs None = refl
  follow_unified k p s xs (Some r) = follow_just k p (record s { bindings = r.bindings; conditions = r.conditions }) xs nodes.equal refl

  follow_reduced : (k : Continuation R) (go : State → List R) (step : State → List (Outcome C)) (p : List ℕ) (xs : List Var) → ((r : State) → go r ≡ follow k p xs (step r))
      → (s : State) (o : Option (List Cond)) → then_if_reduced go s o ≡ follow k p xs (if_reduced step s o)
  follow_reduced k go step p xs h s None = refl
  follow_reduced k go step p xs h s (Some cs) = h _

  follow_fresh : (k : Continuation R) (p : List ℕ) (s : State) (xs : List Var) (t u : NominalTerm)
      → then_test_fresh w (λ r. k p r xs) p s t u ≡ follow k p xs (test_fresh s t u)
  follow_fresh k p s xs (terms.name a) u = follow_reduced k (λ r. k p r xs) (just_found nodes.fresh) p xs (λ r. follow_just k p r xs nodes.fresh refl) s (reduce a (under s.bindings u))
  follow_fresh k p s xs (terms.susp q x) u = ap (λ path. w.output (answers.stuck path) ∷ []) (sym (append-nil p))
  follow_fresh k p s xs terms.unit u = refl
  follow_fresh k p s xs (terms.pair t v) u = refl
  follow_fresh k p s xs (terms.app f t) u = refl
  follow_fresh k p s xs (terms.abs a t) u = refl

  -- what follows a continuation that is itself a search
  follow_each : (k j : Continuation R) (go : State → List (Outcome C)) → ((p : List ℕ) (s : State) (xs : List Var) → j p s xs ≡ follow k p xs (go s))
      → (p : List ℕ) (xs : List Var) (os : List (Outcome C)) → follow j p xs os ≡ follow k p xs (each_found go os)
  follow_each k j go h p xs [] = refl
  follow_each k j go h p xs (found q s d ∷ os) =
      ap₂ ◌++◌ (h (p ++ q) s (xs ++ vars_brought d) ∙ follow_below k p q xs (vars_brought d) (nodes.both d) (brought_both d) (go s)) (follow_each k j go h p xs os)
      ∙ sym (follow-append k p xs (map (below q (nodes.both d)) (go s)) (each_found go os))
  follow_each k j go h p xs (cut q ∷ os) = ap (λ l. w.output (answers.cut (p ++ q)) ∷ l) (follow_each k j go h p xs os)
  follow_each k j go h p xs (stuck q ∷ os) = ap (λ l. w.output (answers.stuck (p ++ q)) ∷ l) (follow_each k j go h p xs os)
  follow_each k j go h p xs (chose q c ∷ os) = ap (λ l. told (p ++ q) c ∷ l) (follow_each k j go h p xs os)

  -- what is written of a choice is what is told of it
  module _ (tell : Telling C) (agree : (p : List ℕ) (n : ℕ) (ks : List ℕ) → w.choice p n ks ≡ map (told p) (tell n ks)) where
    follow_told : (k : Continuation R) (p : List ℕ) (xs : List Var) (cs : List C) → map (told p) cs ≡ follow k p xs (map (chose []) cs)
    follow_told k p xs [] = refl
    follow_told k p xs (c ∷ cs) = ap₂ (λ path l. told path c ∷ l) (sym (append-nil p)) (follow_told k p xs cs)

    follow_choice : (k : Continuation R) (p : List ℕ) (xs : List Var) (n : ℕ) (ks : List ℕ) (l : List R) (os : List (Outcome C)) → l ≡ follow k p xs os
        → w.choice p n ks ++ l ≡ follow k p xs (choose tell n ks os)
    follow_choice k p xs n ks l os h = ap₂ ◌++◌ (agree p n ks ∙ follow_told k p xs (tell n ks)) h ∙ sym (follow-append k p xs (map (chose []) (tell n ks)) os)

    abbrev IsCallThen : CallThen R → CallOf C → Type 0
    IsCallThen call_then call = (c : ℕ) (ts : List NominalTerm) (k : Continuation R) (p : List ℕ) (s : State) (xs : List Var)
        → call_then c ts k p s xs ≡ follow k p xs (call c ts s)

    module _ (call_then : CallThen R) (call : CallOf C) (same : IsCallThen call_then call) where
      side_follows : (k : Continuation R) (p : List ℕ) (i : ℕ) (xs : List Var) (node : NominalDerivation → NominalDerivation)
          → ((d : NominalDerivation) → vars_brought (node d) ≡ vars_brought d) → (l : List R) (os : List (Outcome C)) → l ≡ follow k (p ++ i ∷ []) xs os
          → l ≡ follow k p xs (map (below (i ∷ []) node) os)
      side_follows k p i xs node h l os e =
          e ∙ ap (λ vs. follow k (p ++ i ∷ []) vs os) (sym (append-nil xs)) ∙ follow_below k p (i ∷ []) xs [] node h os

      goal_follows : (g : NominalGoal) (k : Continuation R) (p : List ℕ) (s : State) (xs : List Var)
          → goal_then w call_then g k p s xs ≡ follow k p xs (outcomes tell call g s)
      goal_follows succeed k p s xs = follow_just k p s xs nodes.succeed refl
      goal_follows (atom c ts) k p s xs = same c ts k p s xs
      goal_follows (equal t u) k p s xs = follow_unified k p s xs (unify s.bindings s.conditions (t ∷ []) (u ∷ []))
      goal_follows (fresh t u) k p s xs = follow_fresh k p s xs (under s.bindings t) u
      goal_follows (both g h) k p s xs =
          goal_follows g (goal_then w call_then h k) p s xs
          ∙ follow_each k (goal_then w call_then h k) (outcomes tell call h) (goal_follows h k) p xs (outcomes tell call g s)
      goal_follows (either g h) k p s xs =
          let left = outcomes tell call g s in
          let right = outcomes tell call h s in
          follow_choice k p xs 2 (1 ∷ 2 ∷ []) _ (map (below (1 ∷ []) nodes.left) left ++ map (below (2 ∷ []) nodes.right) right)
          (ap₂ ◌++◌
          (side_follows k p 1 xs nodes.left (λ d. refl) _ left (goal_follows g k (p ++ 1 ∷ []) s xs))
          (side_follows k p 2 xs nodes.right (λ d. refl) _ right (goal_follows h k (p ++ 2 ∷ []) s xs))
          ∙ sym (follow-append k p xs (map (below (1 ∷ []) nodes.left) left) (map (below (2 ∷ []) nodes.right) right)))
      goal_follows (exists x g) k p s xs = goal_follows g k p s (xs ++ x ∷ []) ∙ follow_node k p xs (x ∷ []) (nodes.exists (terms.susp [] x)) (λ d. refl) (outcomes tell call g s)
      goal_follows (new a g) k p s xs =
          let o = reduce_all s.bindings (fresh_for_each a (free_vars g)) in
          follow_reduced k (λ r. goal_then w call_then g k p r xs) (outcomes tell call g) p xs (λ r. goal_follows g k p r xs) s o
          ∙ ap (λ vs. follow k p vs (if_reduced (outcomes tell call g) s o)) (sym (append-nil xs))
          ∙ follow_node k p xs [] (nodes.new a) (λ d. refl) (if_reduced (outcomes tell call g) s o)

      unified_follows : (k : Continuation R) (g : NominalGoal) (p : List ℕ) (xs : List Var) (s : State) (o : Option Unified)
          → then_if_unified (λ r. goal_then w call_then g k p r xs) s o ≡ follow k p xs (if_unified (outcomes tell call g) s o)
      unified_follows k g p xs s None = refl
      unified_follows k g p xs s (Some r) = goal_follows g k p (record s { bindings = r.bindings; conditions = r.conditions }) xs

      clause_follows : (ts : List NominalTerm) (k : Continuation R) (i : ℕ) (c : NominalClause) (p : List ℕ) (s : State) (xs : List Var)
          → clause_then (goal_then w call_then) ts k i c p s xs ≡ follow k p xs (by_clause (outcomes tell call) ts s i c)
      clause_follows ts k i c p s xs =
          let n = next_number s in
          let r = record s { kinds = s.kinds ++ kinds_of c.locals } in
          let o = unify s.bindings s.conditions ts (map (rename_term n) c.args) in
          unified_follows k (rename_goal n c.body) (p ++ i ∷ []) (xs ++ local_vars n c.locals) r o
          ∙ follow_below k p (i ∷ []) xs (local_vars n c.locals) (clause_node i n c.locals) (brought_clause i n c.locals) (if_unified (outcomes tell call (rename_goal n c.body)) r o)

      clauses_follow : (ts : List NominalTerm) (k : Continuation R) (i : ℕ) (cs : List NominalClause) (p : List ℕ) (s : State) (xs : List Var)
          → clauses_then (goal_then w call_then) ts k i cs p s xs ≡ follow k p xs (by_clauses (outcomes tell call) ts s i cs)
      clauses_follow ts k i [] p s xs = refl
      clauses_follow ts k i (c ∷ cs) p s xs =
          ap₂ ◌++◌ (clause_follows ts k i c p s xs) (clauses_follow ts k (suc i) cs p s xs)
          ∙ sym (follow-append k p xs (by_clause (outcomes tell call) ts s i c) (by_clauses (outcomes tell call) ts s (suc i) cs))

    calls_follow : (program : Clauses) (d : ℕ) → IsCallThen (calls_then w program d) (calls_at tell program d)
    calls_follow program zero c ts k p s xs = ap (λ path. w.output (answers.cut path) ∷ []) (sym (append-nil p))
    calls_follow program (suc d) c ts k p s xs =
        let cs = clauses_of program c in
        follow_choice k p xs (length cs) (kept_clauses s.bindings ts cs) _ (by_clauses (outcomes tell (calls_at tell program d)) ts s 1 cs)
        (clauses_follow (calls_then w program d) (calls_at tell program d) (calls_follow program d) ts k 1 cs p s xs)

    pub search_follows : (program : Clauses) (d : ℕ) (g : NominalGoal) (k : Continuation R) (p : List ℕ) (s : State) (xs : List Var)
        → goal_then w (calls_then w program d) g k p s xs ≡ follow k p xs (outcomes tell (calls_at tell program d) g s)
    search_follows program d = goal_follows (calls_then w program d) (calls_at tell program d) (calls_follow program d)

    pub ways_follow : (program : Clauses) (d : ℕ) (ts : List NominalTerm) (k : Continuation R) (i : ℕ) (cs : List NominalClause) (p : List ℕ) (s : State) (xs : List Var)
        → clauses_then (goal_then w (calls_then w program d)) ts k i cs p s xs ≡ follow k p xs (by_clauses (outcomes tell (calls_at tell program d)) ts s i cs)
    ways_follow program d = clauses_follow (calls_then w program d) (calls_at tell program d) (calls_follow program d)

-- Nothing is told of choices.
abbrev pub no_mark : List ℕ → ⊥ → NominalOut
no_mark p c = absurd c

follow_answers : (locals : List NominalLocal) (os : List Output) → follow outputs_alone no_mark (answer_then outputs_alone (answer_with locals)) [] [] os ≡ map (out_in locals) os
follow_answers locals [] = refl
follow_answers locals (found q s d ∷ os) = ap₂ (λ a l. answers.found q a ∷ l) (sym (answer_by_vars locals s d)) (follow_answers locals os)
follow_answers locals (cut q ∷ os) = ap (λ l. answers.cut q ∷ l) (follow_answers locals os)
follow_answers locals (stuck q ∷ os) = ap (λ l. answers.stuck q ∷ l) (follow_answers locals os)
follow_answers locals (chose q c ∷ os) = absurd c

-- a stack of the one goal of a query has its outputs
pub stack_is_query : (program : Clauses) (d : ℕ) (q : NominalQuery)
    → stack_outs program (answer_with q.locals) (record { goal = q.goal; depth = d } ∷ []) [] (first_state q) [] ≡ query_outs program d q
stack_is_query program d q =
    search_follows outputs_alone no_mark nothing_told (λ p n ks. refl) program d q.goal (answer_then outputs_alone (answer_with q.locals)) [] (first_state q) []
    ∙ follow_answers q.locals (solve program d q.goal (first_state q))

-- The widths of choices are.
pub marked_solve_follows : (program : Clauses) (d : ℕ) (g : NominalGoal) (k : Continuation NominalMark) (p : List ℕ) (s : State) (xs : List Var)
    → goal_then with_choices (calls_then with_choices program d) g k p s xs ≡ follow with_choices choice k p xs (marked_solve program d g s)
marked_solve_follows = search_follows with_choices choice choices_told (λ p n ks. refl)

follow_marks : (locals : List NominalLocal) (ms : List Mark) → follow with_choices choice (answer_then with_choices (answer_with locals)) [] [] ms ≡ map (mark_in locals) ms
follow_marks locals [] = refl
follow_marks locals (found q s d ∷ ms) = ap₂ (λ a l. with_choices.output (answers.found q a) ∷ l) (sym (answer_by_vars locals s d)) (follow_marks locals ms)
follow_marks locals (cut q ∷ ms) = ap (λ l. with_choices.output (answers.cut q) ∷ l) (follow_marks locals ms)
follow_marks locals (stuck q ∷ ms) = ap (λ l. with_choices.output (answers.stuck q) ∷ l) (follow_marks locals ms)
follow_marks locals (chose q w ∷ ms) = ap (λ l. choice q w ∷ l) (follow_marks locals ms)

-- a stack of the one goal of a query has its marks
pub marked_stack_is_query : (program : Clauses) (d : ℕ) (q : NominalQuery)
    → stack_marks program (answer_with q.locals) (record { goal = q.goal; depth = d } ∷ []) [] (first_state q) [] ≡ map (mark_in q.locals) (marked_query program d q)
marked_stack_is_query program d q =
    marked_solve_follows program d q.goal (answer_then with_choices (answer_with q.locals)) [] (first_state q) []
    ∙ follow_marks q.locals (marked_query program d q)
