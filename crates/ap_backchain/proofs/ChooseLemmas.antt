-- What a machine has below one of its choices.
use Rattle.std.proofs.Common.{◌≡◌, ℕ, zero, suc, ◌+◌, ◌-◌, ◌<◌, ◌≤◌, List, [], ◌∷◌, ◌++◌, length, get_or, map, refl, sym, ap, ◌∙◌, subst, arith}
use Rattle.std.proofs.lemmas.List.{append-nil}
use Rattle.std.specs.Prelude.{if◌then◌else◌, Option, Some, None}
use Rattle.ap_defs.specs.HeadKeys.{kept_clauses}
use Rattle.ap_defs.specs.Paths.{Choice}
use Rattle.ap_defs.specs.Goals.{NominalGoal, NominalClause, atom, either, Clauses, clause_of, clauses_of}
use Rattle.ap_defs.specs.Resolution.{State}
use Rattle.ap_defs.specs.Terms.{NominalTerm}
use Rattle.ap_defs.specs.declared.goals.Clause.{Clause}
use Rattle.ap_defs.specs.declared.terms.Term.{Term}
use Rattle.ap_search.specs.FitStates.{AreFitClauses, IsFitClause}
use Rattle.ap_search.specs.Continuations.{calls_then, clause_then, clauses_then, goal_then}
use Rattle.ap_search.specs.Marks.{NominalMark, choice, mark_path, stack_marks, with_choices}
use Rattle.ap_search.specs.Prefixes.{beginning}
use Rattle.ap_search.proofs.ChoiceLemmas.{beginning_first, beginning_second, mark_way}
use Rattle.ap_search.proofs.TreeLemmas.{calls_grow, marked_stack_begins, stack_grows}
use Rattle.ap_search.proofs.PrefixLemmas.{beginning_other, beginning_whole, prefix_itself, prefix_longer}
use Rattle.ap_backchain.proofs.TurnLemmas.{written_clause}
use Rattle.ap_turns.specs.Marks.{IsAmongWays, choice_of_goal, clauses_marks, goal_marks, marks_from, marks_from_each}
use Rattle.ap_search.specs.Records.{Answering}
use Rattle.ap_machine.specs.Positions.{Position, enters_clause, each_position, entered, with_choice, with_goal}

past_choice : (p : List ℕ) (k : ℕ) (w : Choice) (ms : List NominalMark) → beginning mark_path (p ++ k ∷ []) (choice p w ∷ ms) ≡ beginning mark_path (p ++ k ∷ []) ms
past_choice p k w ms =
    ap (λ b. if b then (choice p w ∷ beginning mark_path (p ++ k ∷ []) ms) else beginning mark_path (p ++ k ∷ []) ms)
    (prefix_longer p k (p ++ k ∷ []) (prefix_itself (p ++ k ∷ [])))

pub clause_here : (cs : List (Clause Term)) (n : ℕ) (c : Clause Term) → n < length cs → c ≡ get_or cs n c → clause_of c ≡ get_or (map clause_of cs) n (clause_of c)
clause_here [] n c h e = absurd (omega arith)
clause_here (b ∷ cs) zero c h e = ap clause_of e
clause_here (b ∷ cs) (suc n) c h e = clause_here cs n c (omega arith) e

pub fit_here : (cs : List (Clause Term)) (n : ℕ) (c : Clause Term) → n < length cs → c ≡ get_or cs n c → AreFitClauses (map clause_of cs) → IsFitClause (clause_of c)
fit_here [] n c h e k = absurd (omega arith)
fit_here (b ∷ cs) zero c h e k = subst (λ (x : Clause Term). IsFitClause (clause_of x)) (sym e) k.0
fit_here (b ∷ cs) (suc n) c h e k = fit_here cs n c (omega arith) e k.1

module _ (program : Clauses) (answering : Answering) (d : ℕ) where
  -- below the choice of a clause
  pub clause_way : (ts : List NominalTerm) (p : Position) (k : ℕ) (c : NominalClause) (cs : List NominalClause) → 1 ≤ k → k - 1 < length cs → c ≡ get_or cs (k - 1) c
      → marks_from_each program answering (enters_clause d ts p k c)
      ≡ beginning mark_path (p.path ++ k ∷ [])
      (clauses_then (goal_then with_choices (calls_then with_choices program d)) ts (stack_marks program answering p.waiting) 1 cs p.path p.state p.brought)
  clause_way ts p k c cs low high e =
      let f : 1 + (k - 1) ≡ k = omega arith in
      let m = stack_marks program answering p.waiting in
      written_clause with_choices program answering d ts p k c
      ∙ ap (λ (x : NominalClause). clause_then (goal_then with_choices (calls_then with_choices program d)) ts m k x p.path p.state p.brought) e
      ∙ sym
      (subst
      (λ (j : ℕ). beginning mark_path (p.path ++ j ∷ []) (clauses_then (goal_then with_choices (calls_then with_choices program d)) ts m 1 cs p.path p.state p.brought)
      ≡ clause_then (goal_then with_choices (calls_then with_choices program d)) ts m j (get_or cs (k - 1) c) p.path p.state p.brought) f
      (mark_way (calls_then with_choices program d) (calls_grow program d) ts m (stack_grows program answering p.waiting) p.path p.state p.brought 1 (k - 1) c cs high))

  pub entered_path : (p : Position) (k : ℕ) (c : NominalClause) (o : Option State) (r : Position) → r ∷ [] ≡ each_position (entered d p k c) o → r.path ≡ p.path ++ k ∷ []
  entered_path p k c None r h = cc
  entered_path p k c (Some s) r h = let e : r ≡ entered d p k c s = cc in ap (λ (x : Position). x.path) e

  -- below a side of a disjunction
  pub left_way : (g h : NominalGoal) (p : Position)
      → marks_from program answering (with_goal d g (with_choice 1 p))
      ≡ beginning mark_path (p.path ++ 1 ∷ []) (goal_then with_choices (calls_then with_choices program d) (either g h) (stack_marks program answering p.waiting) p.path p.state p.brought)
  left_way g h p =
      let first = marks_from program answering (with_goal d g (with_choice 1 p)) in
      let second = marks_from program answering (with_goal d h (with_choice 2 p)) in
      sym (past_choice p.path 1 (record { width = 2; kept = 1 ∷ 2 ∷ [] }) (first ++ second)
      ∙ beginning_first mark_path p.path 1 first second (marked_stack_begins program answering (record { goal = g; depth = d } ∷ p.waiting) (p.path ++ 1 ∷ []) p.state p.brought)
      (beginning_other mark_path p.path 2 1 second (λ e. omega arith) (marked_stack_begins program answering (record { goal = h; depth = d } ∷ p.waiting) (p.path ++ 2 ∷ []) p.state p.brought)))

  pub right_way : (g h : NominalGoal) (p : Position)
      → marks_from program answering (with_goal d h (with_choice 2 p))
      ≡ beginning mark_path (p.path ++ 2 ∷ []) (goal_then with_choices (calls_then with_choices program d) (either g h) (stack_marks program answering p.waiting) p.path p.state p.brought)
  right_way g h p =
      let first = marks_from program answering (with_goal d g (with_choice 1 p)) in
      let second = marks_from program answering (with_goal d h (with_choice 2 p)) in
      sym (past_choice p.path 2 (record { width = 2; kept = 1 ∷ 2 ∷ [] }) (first ++ second)
      ∙ beginning_second mark_path p.path 1 2 first second (λ e. omega arith) (marked_stack_begins program answering (record { goal = g; depth = d } ∷ p.waiting) (p.path ++ 1 ∷ []) p.state p.brought)
      ∙ beginning_whole mark_path (p.path ++ 2 ∷ []) second (marked_stack_begins program answering (record { goal = h; depth = d } ∷ p.waiting) (p.path ++ 2 ∷ []) p.state p.brought))

  -- the branch of a clause, and where there is none
  pub kid_marks : (ts : List NominalTerm) (p : Position) (k : ℕ) (c : NominalClause) (cs : List NominalClause) → 1 ≤ k → k - 1 < length cs → c ≡ get_or cs (k - 1) c
      → (r : Position) → r ∷ [] ≡ enters_clause d ts p k c → marks_from program answering r ≡ beginning mark_path (p.path ++ k ∷ []) (clauses_marks program answering d ts cs p)
  kid_marks ts p k c cs low high e r h = sym (append-nil (marks_from program answering r)) ∙ ap (marks_from_each program answering) h ∙ clause_way ts p k c cs low high e

  pub no_kid_marks : (ts : List NominalTerm) (p : Position) (k : ℕ) (c : NominalClause) (cs : List NominalClause) → 1 ≤ k → k - 1 < length cs → c ≡ get_or cs (k - 1) c
      → [] ≡ enters_clause d ts p k c → [] ≡ beginning mark_path (p.path ++ k ∷ []) (clauses_marks program answering d ts cs p)
  no_kid_marks ts p k c cs low high e h = ap (marks_from_each program answering) h ∙ clause_way ts p k c cs low high e

-- below the choice of an atom there is what its clauses have
pub atom_marks : (program : Clauses) (answering : Answering) (d c : ℕ) (ts : List NominalTerm) (p : Position) (k : ℕ) → (d ≡ 0 → ⊥)
    → beginning mark_path (p.path ++ k ∷ []) (goal_marks program answering d (atom c ts) p)
    ≡ beginning mark_path (p.path ++ k ∷ []) (clauses_marks program answering (d - 1) ts (clauses_of program c) p)
atom_marks program answering zero c ts p k h = absurd (h refl)
atom_marks program answering (suc d) c ts p k h =
    let e : d ≡ suc d - 1 = omega arith in
    past_choice p.path k (record { width = length (clauses_of program c); kept = kept_clauses p.state.bindings ts (clauses_of program c) }) (clauses_marks program answering d ts (clauses_of program c) p)
    ∙ ap (λ n. beginning mark_path (p.path ++ k ∷ []) (clauses_marks program answering n ts (clauses_of program c) p)) e

pub deep_enough : (program : Clauses) (d c : ℕ) (ts : List NominalTerm) (k : ℕ) → IsAmongWays k (choice_of_goal program d (atom c ts)) → d ≡ 0 → ⊥
deep_enough program zero c ts k h e = h
deep_enough program (suc d) c ts k h e = absurd (omega arith)

pub among_clauses : (program : Clauses) (d c : ℕ) (ts : List NominalTerm) (k : ℕ) → IsAmongWays k (choice_of_goal program d (atom c ts)) → (1 ≤ k) × (k ≤ length (clauses_of program c))
among_clauses program zero c ts k h = absurd h
among_clauses program (suc d) c ts k h = h
