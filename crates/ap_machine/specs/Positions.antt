-- Where a search stands between two goals, and what one goal makes of it.
use Rattle.std.specs.Prelude.{ℕ, zero, suc, List, [], ◌∷◌, ◌++◌, map, Option, Some, None}
use Rattle.ap_defs.specs.declared.terms.Cond.{Cond}
use Rattle.ap_defs.specs.declared.terms.Var.{Var}
use Rattle.ap_defs.specs.Answers.{NominalOut, found, cut, stuck}
use Rattle.ap_defs.specs.Freshness.{add_conds, reduce}
use Rattle.ap_defs.specs.Goals.{NominalGoal, succeed, atom, equal, fresh, both, either, exists, new, NominalClause, Clauses, clauses_of}
use Rattle.ap_defs.specs.Occurrences.{free_vars}
use Rattle.ap_defs.specs.Renaming.{local_vars, rename_goal, rename_term}
use Rattle.ap_defs.specs.Resolution.{State, fresh_for_each, kinds_of, next_number}
use Rattle.ap_defs.specs.Substitution.{under}
use Rattle.ap_defs.specs.Terms as terms
use Rattle.ap_defs.specs.Terms.{NominalTerm}
use Rattle.ap_defs.specs.Unification.{Unified, reduce_all, unify}
use Rattle.ap_search.specs.Records.{Answering}
use Rattle.ap_search.specs.Continuations.{Waiting, Writing, outputs_alone, stack_then}

-- The goals that wait, the first one first; the path and the state; and the variables that clauses and `exists` brought.
pub record Position : Type 0 where
  pub waiting : List Waiting
  pub path : List ℕ
  pub state : State
  pub brought : List Var

-- one more goal, in front of the others
abbrev pub with_goal : ℕ → NominalGoal → Position → Position
with_goal d g p = record p { waiting = record { goal = g; depth = d } ∷ p.waiting }

abbrev pub with_choice : ℕ → Position → Position
with_choice k p = record p { path = p.path ++ k ∷ [] }

abbrev pub with_state : State → Position → Position
with_state s p = record p { state = s }

abbrev pub with_vars : List Var → Position → Position
with_vars xs p = record p { brought = p.brought ++ xs }

-- a search ends with an output, or goes on from each of these machines
pub data Turned : Type 0 where
  ends : NominalOut → Turned
  goes : List Position → Turned

-- a state with what unification gives, or with more conditions
abbrev pub unified_state : State → Option Unified → Option State
unified_state s None = None
unified_state s (Some r) = Some (record s { bindings = r.bindings; conditions = r.conditions })

abbrev pub reduced_state : State → Option (List Cond) → Option State
reduced_state s None = None
reduced_state s (Some cs) = Some (record s { conditions = add_conds cs s.conditions })

abbrev pub each_position : (State → Position) → Option State → List Position
each_position f None = []
each_position f (Some s) = f s ∷ []

-- it goes on from this machine, with the state if there is one
abbrev pub goes_with : Position → Option State → Turned
goes_with p o = goes (each_position (λ s. with_state s p) o)

abbrev pub turned_fresh : Position → NominalTerm → NominalTerm → Turned
turned_fresh p (terms.name a) u = goes_with p (reduced_state p.state (reduce a (under p.state.bindings u)))
turned_fresh p (terms.susp q x) u = ends (stuck p.path)
turned_fresh p _ u = goes []

-- the state in which the head of a renamed clause is unified with an atom
abbrev pub clause_state : List NominalTerm → State → NominalClause → Option State
clause_state ts s c =
    unified_state (record s { kinds = s.kinds ++ kinds_of c.locals })
    (unify s.bindings s.conditions ts (map (rename_term (next_number s)) c.args))

-- the body of a renamed clause waits in this state, after the i-th choice
abbrev pub entered : ℕ → Position → ℕ → NominalClause → State → Position
entered d p i c s =
    with_goal d (rename_goal (next_number p.state) c.body) (with_vars (local_vars (next_number p.state) c.locals) (with_choice i (with_state s p)))

abbrev pub enters_clause : ℕ → List NominalTerm → Position → ℕ → NominalClause → List Position
enters_clause d ts p i c = each_position (entered d p i c) (clause_state ts p.state c)

-- clauses numbered from i on
abbrev pub positions_by_clauses : ℕ → List NominalTerm → Position → ℕ → List NominalClause → List Position
positions_by_clauses d ts p i [] = []
positions_by_clauses d ts p i (c ∷ cs) = enters_clause d ts p i c ++ positions_by_clauses d ts p (suc i) cs

abbrev pub turned_atom : Clauses → ℕ → ℕ → List NominalTerm → Position → Turned
turned_atom program zero c ts p = ends (cut p.path)
turned_atom program (suc d) c ts p = goes (positions_by_clauses d ts p 1 (clauses_of program c))

-- what a goal at a depth makes of a machine
abbrev pub turned_goal : Clauses → ℕ → NominalGoal → Position → Turned
turned_goal program d succeed p = goes (p ∷ [])
turned_goal program d (atom c ts) p = turned_atom program d c ts p
turned_goal program d (equal t u) p = goes_with p (unified_state p.state (unify p.state.bindings p.state.conditions (t ∷ []) (u ∷ [])))
turned_goal program d (fresh t u) p = turned_fresh p (under p.state.bindings t) u
turned_goal program d (both g h) p = goes (with_goal d g (with_goal d h p) ∷ [])
turned_goal program d (either g h) p = goes (with_goal d g (with_choice 1 p) ∷ with_goal d h (with_choice 2 p) ∷ [])
turned_goal program d (exists x g) p = goes (with_goal d g (with_vars (x ∷ []) p) ∷ [])
turned_goal program d (new a g) p =
    goes_with (with_goal d g p) (reduced_state p.state (reduce_all p.state.bindings (fresh_for_each a (free_vars g))))

abbrev pub turned_by : Clauses → Answering → List Waiting → Position → Turned
turned_by program answering [] p = ends (found p.path (answering p.state p.brought))
turned_by program answering (w ∷ ws) p = turned_goal program w.depth w.goal (record p { waiting = ws })

-- what the first goal that waits makes of a machine; where none waits, the search has found its state
abbrev pub turned : Clauses → Answering → Position → Turned
turned program answering p = turned_by program answering p.waiting p

-- what is written of the goals that wait, of several machines, and of what a turn makes of one
abbrev pub written_from : {R : Type 0} → Writing R → Clauses → Answering → Position → List R
written_from w program answering p = stack_then w program answering p.waiting p.path p.state p.brought

abbrev pub written_from_each : {R : Type 0} → Writing R → Clauses → Answering → List Position → List R
written_from_each w program answering [] = []
written_from_each w program answering (p ∷ ps) = written_from w program answering p ++ written_from_each w program answering ps

abbrev pub written_of_turned : {R : Type 0} → Writing R → Clauses → Answering → Turned → List R
written_of_turned w program answering (ends o) = w.output o ∷ []
written_of_turned w program answering (goes ps) = written_from_each w program answering ps

-- the outputs of the goals that wait
abbrev pub outs_from : Clauses → Answering → Position → List NominalOut
outs_from = written_from outputs_alone

abbrev pub outs_from_each : Clauses → Answering → List Position → List NominalOut
outs_from_each = written_from_each outputs_alone

abbrev pub outs_of_turned : Clauses → Answering → Turned → List NominalOut
outs_of_turned = written_of_turned outputs_alone
