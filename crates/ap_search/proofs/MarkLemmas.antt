-- Marks of stacks: without choices they are the outputs.
use Rattle.std.proofs.Common.{subst, ◌≡◌, ℕ, true, false, List, [], ◌∷◌, ◌++◌, refl, sym, ap, ap₂, ◌∙◌}
use Rattle.std.specs.Prelude.{if◌then◌else◌}
use Rattle.ap_defs.specs.Answers.{NominalOut, cut, out_path, stuck}
use Rattle.ap_defs.specs.Goals.{NominalGoal, NominalClause, Clauses}
use Rattle.ap_defs.specs.PathOrder.{has_prefix}
use Rattle.ap_defs.specs.Paths.{Mark, choices_told, marked_solve, unmarked}
use Rattle.ap_defs.specs.Resolution as search
use Rattle.ap_defs.specs.Resolution.{State, by_clauses, calls_at, nothing_told, outcomes}
use Rattle.ap_defs.specs.Terms.{NominalTerm}
use Rattle.ap_defs.specs.declared.terms.Var.{Var}
use Rattle.ap_search.specs.Continuations.{calls_then, clauses_then, Continuation, goal_then, outputs_alone, stack_outs, Waiting}
use Rattle.ap_search.specs.Marks.{NominalMark, out, choice, mark_path, outs_among, with_choices, stack_marks}
use Rattle.ap_search.specs.Prefixes.{AllBegin, beginning}
use Rattle.ap_search.specs.Records.{Answering, vars_brought}
use Rattle.ap_search.proofs.ContinuationLemmas.{follow, marked_solve_follows, no_mark, search_follows, ways_follow}
use Rattle.ap_search.proofs.OutcomeLemmas.{outputs_among, ways_among}
use Rattle.ap_search.proofs.TreeLemmas.{marked_stack_begins}

pub outs_among-append : (ms ns : List NominalMark) → outs_among (ms ++ ns) ≡ outs_among ms ++ outs_among ns
outs_among-append [] ns = refl
outs_among-append (out o ∷ ms) ns = ap (λ l. o ∷ l) (outs_among-append ms ns)
outs_among-append (choice p w ∷ ms) ns = outs_among-append ms ns

pub begin_among : (p : List ℕ) (ms : List NominalMark) → AllBegin mark_path p ms → AllBegin out_path p (outs_among ms)
begin_among p [] h = tt
begin_among p (out o ∷ ms) h = (h.0, begin_among p ms h.1)
begin_among p (choice q w ∷ ms) h = begin_among p ms h.1

pub beginning_among : (p : List ℕ) (ms : List NominalMark) → outs_among (beginning mark_path p ms) ≡ beginning out_path p (outs_among ms)
beginning_among p [] = refl
beginning_among p (out o ∷ ms) =
    elim (has_prefix p (out_path o)) as (λ b. outs_among (if b then (out o ∷ beginning mark_path p ms) else beginning mark_path p ms) ≡ (if b then (o ∷ beginning out_path p (outs_among ms)) else beginning out_path p (outs_among ms))) [
      | true ↦ ap (λ l. o ∷ l) (beginning_among p ms)
      | false ↦ beginning_among p ms
    ]
beginning_among p (choice q w ∷ ms) =
    elim (has_prefix p q) as (λ b. outs_among (if b then (choice q w ∷ beginning mark_path p ms) else beginning mark_path p ms) ≡ beginning out_path p (outs_among ms)) [
      | true ↦ beginning_among p ms
      | false ↦ beginning_among p ms
    ]

-- A continuation whose marks, without choices, are the outputs of another.
abbrev pub Marks : Continuation NominalMark → Continuation NominalOut → Type 0
Marks m k = (p : List ℕ) (s : State) (xs : List Var) → outs_among (m p s xs) ≡ k p s xs

-- What follows the marks of a search has the outputs of what follows its outputs.
module _ (m : Continuation NominalMark) (k : Continuation NominalOut) (h : Marks m k) where
  among_follow : (p : List ℕ) (xs : List Var) (os : List Mark) → outs_among (follow with_choices choice m p xs os) ≡ follow outputs_alone no_mark k p xs (unmarked os)
  among_follow p xs [] = refl
  among_follow p xs (search.found q s d ∷ os) =
      outs_among-append (m (p ++ q) s (xs ++ vars_brought d)) (follow with_choices choice m p xs os) ∙ ap₂ ◌++◌ (h (p ++ q) s (xs ++ vars_brought d)) (among_follow p xs os)
  among_follow p xs (search.cut q ∷ os) = ap (λ l. cut (p ++ q) ∷ l) (among_follow p xs os)
  among_follow p xs (search.stuck q ∷ os) = ap (λ l. stuck (p ++ q) ∷ l) (among_follow p xs os)
  among_follow p xs (search.chose q c ∷ os) = among_follow p xs os

  marks_goal : (program : Clauses) (d : ℕ) (g : NominalGoal) → Marks (goal_then with_choices (calls_then with_choices program d) g m) (goal_then outputs_alone (calls_then outputs_alone program d) g k)
  marks_goal program d g p s xs =
      ap outs_among (marked_solve_follows program d g m p s xs) ∙ among_follow p xs (marked_solve program d g s)
      ∙ ap (follow outputs_alone no_mark k p xs) (outputs_among program d g s) ∙ sym (search_follows outputs_alone no_mark nothing_told (λ q n ks. refl) program d g k p s xs)

  pub marks_clauses : (program : Clauses) (d : ℕ) (ts : List NominalTerm) (i : ℕ) (cs : List NominalClause)
      → Marks (clauses_then (goal_then with_choices (calls_then with_choices program d)) ts m i cs) (clauses_then (goal_then outputs_alone (calls_then outputs_alone program d)) ts k i cs)
  marks_clauses program d ts i cs p s xs =
      ap outs_among (ways_follow with_choices choice choices_told (λ q n ks. refl) program d ts m i cs p s xs)
      ∙ among_follow p xs (by_clauses (outcomes choices_told (calls_at choices_told program d)) ts s i cs)
      ∙ ap (follow outputs_alone no_mark k p xs) (ways_among program d ts s i cs) ∙ sym (ways_follow outputs_alone no_mark nothing_told (λ q n ks. refl) program d ts k i cs p s xs)

-- without the choices, the marks of a stack are its outputs
pub marks_stack : (program : Clauses) (answering : Answering) (ws : List Waiting) → Marks (stack_marks program answering ws) (stack_outs program answering ws)
marks_stack program answering [] p s xs = refl
marks_stack program answering (w ∷ ws) p s xs = marks_goal (stack_marks program answering ws) (stack_outs program answering ws) (marks_stack program answering ws) program w.depth w.goal p s xs

-- the outputs of a stack begin with the path
pub stack_begins : (program : Clauses) (answering : Answering) (ws : List Waiting) (p : List ℕ) (s : State) (xs : List Var)
    → AllBegin out_path p (stack_outs program answering ws p s xs)
stack_begins program answering ws p s xs =
    subst (AllBegin out_path p) (marks_stack program answering ws p s xs) (begin_among p (stack_marks program answering ws p s xs) (marked_stack_begins program answering ws p s xs))
