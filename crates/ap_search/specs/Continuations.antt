-- Search in continuation form: what is written of a goal with what is to follow it.
use Rattle.std.specs.Prelude.{ℕ, zero, suc, List, [], ◌∷◌, ◌++◌, map, length, Option, Some, None}
use Rattle.ap_defs.specs.declared.terms.Var.{Var}
use Rattle.ap_defs.specs.declared.terms.Cond.{Cond}
use Rattle.ap_defs.specs.Answers.{NominalOut, found, cut, stuck}
use Rattle.ap_defs.specs.Freshness.{add_conds, reduce}
use Rattle.ap_defs.specs.Goals.{NominalGoal, succeed, atom, equal, fresh, both, either, exists, new, NominalClause, Clauses, clauses_of}
use Rattle.ap_defs.specs.HeadKeys.{kept_clauses}
use Rattle.ap_defs.specs.Occurrences.{free_vars}
use Rattle.ap_defs.specs.Renaming.{local_vars, rename_goal, rename_term}
use Rattle.ap_defs.specs.Resolution.{State, next_number, fresh_for_each, kinds_of}
use Rattle.ap_defs.specs.Substitution.{under}
use Rattle.ap_defs.specs.Terms as terms
use Rattle.ap_defs.specs.Terms.{NominalTerm}
use Rattle.ap_defs.specs.Unification.{unify, Unified, reduce_all}
use Rattle.ap_search.specs.Records.{Answering}

-- How a search is written: each output, and what is written of a choice at a path among so many ways, of which some are kept.
pub record Writing (R : Type 0) : Type 0 where
  pub output : NominalOut → R
  pub choice : List ℕ → ℕ → List ℕ → List R

-- its outputs alone
abbrev pub outputs_alone : Writing NominalOut
outputs_alone = record { output = λ o. o; choice = λ p w ks. [] }

-- what follows from a path, a state and the variables that clauses and `exists` brought
abbrev pub Continuation : Type 0 → Type 0
Continuation R = List ℕ → State → List Var → List R

-- an atom with what follows it
abbrev pub CallThen : Type 0 → Type 0
CallThen R = ℕ → List NominalTerm → Continuation R → Continuation R

abbrev pub then_if_unified : {R : Type 0} → (State → List R) → State → Option Unified → List R
then_if_unified go s None = []
then_if_unified go s (Some r) = go (record s { bindings = r.bindings; conditions = r.conditions })

abbrev pub then_if_reduced : {R : Type 0} → (State → List R) → State → Option (List Cond) → List R
then_if_reduced go s None = []
then_if_reduced go s (Some cs) = go (record s { conditions = add_conds cs s.conditions })

-- the left side stands under the bindings already
abbrev pub then_test_fresh : {R : Type 0} → Writing R → (State → List R) → List ℕ → State → NominalTerm → NominalTerm → List R
then_test_fresh w go p s (terms.name a) u = then_if_reduced go s (reduce a (under s.bindings u))
then_test_fresh w go p s (terms.susp q x) u = w.output (stuck p) ∷ []
then_test_fresh w go p s _ u = []

-- what is written of a goal and of what follows it
abbrev pub goal_then : {R : Type 0} → Writing R → CallThen R → NominalGoal → Continuation R → Continuation R
goal_then w call succeed k p s xs = k p s xs
goal_then w call (atom c ts) k p s xs = call c ts k p s xs
goal_then w call (equal t u) k p s xs = then_if_unified (λ r. k p r xs) s (unify s.bindings s.conditions (t ∷ []) (u ∷ []))
goal_then w call (fresh t u) k p s xs = then_test_fresh w (λ r. k p r xs) p s (under s.bindings t) u
goal_then w call (both g h) k p s xs = goal_then w call g (goal_then w call h k) p s xs
goal_then w call (either g h) k p s xs =
    w.choice p 2 (1 ∷ 2 ∷ []) ++ (goal_then w call g k (p ++ 1 ∷ []) s xs ++ goal_then w call h k (p ++ 2 ∷ []) s xs)
goal_then w call (exists x g) k p s xs = goal_then w call g k p s (xs ++ x ∷ [])
goal_then w call (new a g) k p s xs =
    then_if_reduced (λ r. goal_then w call g k p r xs) s (reduce_all s.bindings (fresh_for_each a (free_vars g)))

-- what is written of the i-th clause: it is renamed, its head is unified with the atom, and its body follows
abbrev pub clause_then : {R : Type 0} → (NominalGoal → Continuation R → Continuation R) → List NominalTerm → Continuation R → ℕ → NominalClause → Continuation R
clause_then go ts k i c p s xs =
    then_if_unified (λ r. go (rename_goal (next_number s) c.body) k (p ++ i ∷ []) r (xs ++ local_vars (next_number s) c.locals))
    (record s { kinds = s.kinds ++ kinds_of c.locals })
    (unify s.bindings s.conditions ts (map (rename_term (next_number s)) c.args))

abbrev pub clauses_then : {R : Type 0} → (NominalGoal → Continuation R → Continuation R) → List NominalTerm → Continuation R → ℕ → List NominalClause → Continuation R
clauses_then go ts k i [] p s xs = []
clauses_then go ts k i (c ∷ cs) p s xs = clause_then go ts k i c p s xs ++ clauses_then go ts k (suc i) cs p s xs

-- an atom at a depth, with what follows it
abbrev pub calls_then : {R : Type 0} → Writing R → Clauses → ℕ → CallThen R
calls_then w program zero c ts k p s xs = w.output (cut p) ∷ []
calls_then w program (suc d) c ts k p s xs =
    let cs = clauses_of program c in
    w.choice p (length cs) (kept_clauses s.bindings ts cs) ++ clauses_then (goal_then w (calls_then w program d)) ts k 1 cs p s xs

-- no goal is left
abbrev pub answer_then : {R : Type 0} → Writing R → Answering → Continuation R
answer_then w answering p s xs = w.output (found p (answering s xs)) ∷ []

-- a goal that waits, and its depth
pub record Waiting : Type 0 where
  pub goal : NominalGoal
  pub depth : ℕ

-- what is written of goals that wait, the first one first
abbrev pub stack_then : {R : Type 0} → Writing R → Clauses → Answering → List Waiting → Continuation R
stack_then w program answering [] p s xs = answer_then w answering p s xs
stack_then w program answering (v ∷ vs) p s xs = goal_then w (calls_then w program v.depth) v.goal (stack_then w program answering vs) p s xs

-- the outputs of goals that wait
abbrev pub stack_outs : Clauses → Answering → List Waiting → Continuation NominalOut
stack_outs = stack_then outputs_alone
