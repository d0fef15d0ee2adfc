-- The ways of a choice: what a stack has below each, and that the choice is the only one at its path.
use Rattle.std.proofs.Common.{◌≡◌, ◌≢◌, ◌+◌, ◌<◌, ℕ, zero, suc, true, false, ◌&&◌, List, [], ◌∷◌, ◌++◌, length, get_or, refl, sym, ap, ap₂, ◌∙◌, append-nil, arith}
use Rattle.std.specs.Prelude.{if◌then◌else◌}
use Rattle.ap_defs.specs.Answers.{NominalOut, out_path}
use Rattle.ap_defs.specs.Goals.{NominalClause, Clauses}
use Rattle.ap_defs.specs.PathOrder.{has_prefix}
use Rattle.ap_defs.specs.Resolution.{State}
use Rattle.ap_defs.specs.Terms.{NominalTerm}
use Rattle.ap_defs.specs.declared.terms.Var.{Var}
use Rattle.ap_theory.proofs.BooleanLemmas.{and_false}
use Rattle.ap_search.specs.Continuations.{calls_then, CallThen, clause_then, clauses_then, Continuation, goal_then, outputs_alone, stack_outs, Waiting}
use Rattle.ap_search.specs.Marks.{NominalMark, out, choice, mark_path, outs_among, with_choices, stack_marks, widths_at}
use Rattle.ap_search.specs.Prefixes.{AllBegin, beginning}
use Rattle.ap_search.specs.Records.{Answering}
use Rattle.ap_search.proofs.MarkLemmas.{beginning_among, marks_clauses, marks_stack}
use Rattle.ap_search.proofs.TreeLemmas.{AllGrow, CallGrows, calls_grow, clause_grows, grown_begins, stack_grows}
use Rattle.ap_search.proofs.PrefixLemmas.{beginning-append, beginning_other, beginning_whole, prefix_longer}

module _ {A : Type 0} (path : A → List ℕ) where
  -- of two lists of which one goes on by i and the other not
  pub beginning_first : (p : List ℕ) (i : ℕ) (os qs : List A) → AllBegin path (p ++ i ∷ []) os → beginning path (p ++ i ∷ []) qs ≡ []
      → beginning path (p ++ i ∷ []) (os ++ qs) ≡ os
  beginning_first p i os qs h e =
      beginning-append path (p ++ i ∷ []) os qs ∙ ap₂ ◌++◌ (beginning_whole path (p ++ i ∷ []) os h) e ∙ append-nil os

  pub beginning_second : (p : List ℕ) (i j : ℕ) (os qs : List A) → i ≢ j → AllBegin path (p ++ i ∷ []) os
      → beginning path (p ++ j ∷ []) (os ++ qs) ≡ beginning path (p ++ j ∷ []) qs
  beginning_second p i j os qs n h = beginning-append path (p ++ j ∷ []) os qs ∙ ap (λ l. l ++ beginning path (p ++ j ∷ []) qs) (beginning_other path p i j os n h)

-- The ways of an atom, of marks.
module _ (mcall : CallThen NominalMark) (grows : CallGrows mcall) (ts : List NominalTerm) (m : Continuation NominalMark) (h : AllGrow m) (p : List ℕ) (s : State) (xs : List Var) where
  abbrev way : ℕ → NominalClause → List NominalMark
  way i c = clause_then (goal_then with_choices mcall) ts m i c p s xs

  abbrev ways : ℕ → List NominalClause → List NominalMark
  ways i cs = clauses_then (goal_then with_choices mcall) ts m i cs p s xs

  way_begins : (i : ℕ) (c : NominalClause) → AllBegin mark_path (p ++ i ∷ []) (way i c)
  way_begins i c = grown_begins (p ++ i ∷ []) s (way i c) (clause_grows mcall grows ts m h p s xs i c)

  -- clauses from n on have nothing below an earlier one
  pub no_earlier_way : (i n : ℕ) (cs : List NominalClause) → i < n → beginning mark_path (p ++ i ∷ []) (ways n cs) ≡ []
  no_earlier_way i n [] l = refl
  no_earlier_way i n (c ∷ cs) l =
      beginning_second mark_path p n i (way n c) (ways (suc n) cs) (λ e. omega arith) (way_begins n c)
      ∙ no_earlier_way i (suc n) cs (omega arith)

  -- below the i-th clause there is what it has
  pub mark_way : (n i : ℕ) (d : NominalClause) (cs : List NominalClause) → i < length cs
      → beginning mark_path (p ++ (n + i) ∷ []) (ways n cs) ≡ way (n + i) (get_or cs i d)
  mark_way n i d [] l = absurd (omega arith)
  mark_way n zero d (c ∷ cs) l =
      let e : n + zero ≡ n = omega arith in
      rw e (beginning_first mark_path p n (way n c) (ways (suc n) cs) (way_begins n c) (no_earlier_way n (suc n) cs (omega arith)))
  mark_way n (suc i) d (c ∷ cs) l =
      let e : n + suc i ≡ suc n + i = omega arith in
      rw e (beginning_second mark_path p n (suc n + i) (way n c) (ways (suc n) cs) (λ f. omega arith) (way_begins n c) ∙ mark_way (suc n) i d cs (omega arith))

-- The ways of an atom, of outputs.
module _ (program : Clauses) (d : ℕ) (answering : Answering) (ws : List Waiting) (ts : List NominalTerm) (p : List ℕ) (s : State) (xs : List Var) where
  abbrev out_way : ℕ → NominalClause → List NominalOut
  out_way i c = clause_then (goal_then outputs_alone (calls_then outputs_alone program d)) ts (stack_outs program answering ws) i c p s xs

  abbrev out_ways : ℕ → List NominalClause → List NominalOut
  out_ways i cs = clauses_then (goal_then outputs_alone (calls_then outputs_alone program d)) ts (stack_outs program answering ws) i cs p s xs

  -- below the i-th clause there is what it has
  pub clause_at : (n i : ℕ) (c : NominalClause) (cs : List NominalClause) → i < length cs
      → beginning out_path (p ++ (n + i) ∷ []) (out_ways n cs) ≡ out_way (n + i) (get_or cs i c)
  clause_at n i c cs l =
      let mcall = calls_then with_choices program d in
      let m = stack_marks program answering ws in
      let one = clause_then (goal_then with_choices mcall) ts m (n + i) (get_or cs i c) p s xs in
      let among = marks_clauses m (stack_outs program answering ws) (marks_stack program answering ws) program d ts in
      ap (beginning out_path (p ++ (n + i) ∷ [])) (sym (among n cs p s xs))
      ∙ sym (beginning_among (p ++ (n + i) ∷ []) (clauses_then (goal_then with_choices mcall) ts m n cs p s xs))
      ∙ ap outs_among (mark_way mcall (calls_grow program d) ts m (stack_grows program answering ws) p s xs n i c cs l ∙ sym (append-nil one))
      ∙ among (n + i) (get_or cs i c ∷ []) p s xs ∙ append-nil (out_way (n + i) (get_or cs i c))

-- Widths of choices at a path.
pub widths_none : (p : List ℕ) (i : ℕ) (ms : List NominalMark) → AllBegin mark_path (p ++ i ∷ []) ms → widths_at p ms ≡ []
widths_none p i [] h = refl
widths_none p i (out o ∷ ms) h = widths_none p i ms h.1
widths_none p i (choice q w ∷ ms) h =
    ap (λ b. if has_prefix p q && b then (w ∷ widths_at p ms) else widths_at p ms) (prefix_longer p i q h.0)
    ∙ ap (λ b. if b then (w ∷ widths_at p ms) else widths_at p ms) (and_false (has_prefix p q)) ∙ widths_none p i ms h.1

pub widths-append : (p : List ℕ) (ms ns : List NominalMark) → widths_at p (ms ++ ns) ≡ widths_at p ms ++ widths_at p ns
widths-append p [] ns = refl
widths-append p (out o ∷ ms) ns = widths-append p ms ns
widths-append p (choice q w ∷ ms) ns =
    elim (has_prefix p q && has_prefix q p) as (λ b. (if b then (w ∷ widths_at p (ms ++ ns)) else widths_at p (ms ++ ns)) ≡ (if b then (w ∷ widths_at p ms) else widths_at p ms) ++ widths_at p ns) [
      | true ↦ ap (λ l. w ∷ l) (widths-append p ms ns)
      | false ↦ widths-append p ms ns
    ]
