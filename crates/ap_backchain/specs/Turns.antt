-- How many goals a search selects, which bounds its turns.
use Rattle.std.specs.Prelude.{ℕ, zero, suc, ◌+◌, ◌/◌, Bool, ◌&&◌, nat_le, nat_lt, List, [], ◌∷◌, Option, Some, None}
use Rattle.ap_defs.specs.Freshness.{reduce}
use Rattle.ap_defs.specs.Goals.{NominalGoal, succeed, atom, equal, fresh, both, either, exists, new, NominalClause, NominalQuery, Clauses, clauses_of}
use Rattle.ap_defs.specs.Occurrences.{free_vars}
use Rattle.ap_defs.specs.Renaming.{rename_goal}
use Rattle.ap_defs.specs.Resolution.{State, fresh_for_each, next_number}
use Rattle.ap_defs.specs.Substitution.{under}
use Rattle.ap_defs.specs.Terms as terms
use Rattle.ap_defs.specs.Terms.{NominalTerm}
use Rattle.ap_defs.specs.Unification.{reduce_all, unify}
use Rattle.ap_search.specs.Continuations.{Waiting}
use Rattle.ap_machine.specs.Positions.{Position, Turned, clause_state, ends, goes, reduced_state, unified_state}
use Rattle.ap_backchain.specs.Starts.{first_position}

abbrev pub turns_if : (State → ℕ) → Option State → ℕ
turns_if k None = 0
turns_if k (Some s) = k s

abbrev pub fresh_turns : (State → ℕ) → State → NominalTerm → NominalTerm → ℕ
fresh_turns k s (terms.name a) u = turns_if k (reduced_state s (reduce a (under s.bindings u)))
fresh_turns k s _ u = 0

-- the turns of a goal and of what follows it
abbrev pub goal_turns : (ℕ → List NominalTerm → (State → ℕ) → State → ℕ) → NominalGoal → (State → ℕ) → State → ℕ
goal_turns call succeed k s = suc (k s)
goal_turns call (atom c ts) k s = suc (call c ts k s)
goal_turns call (equal t u) k s = suc (turns_if k (unified_state s (unify s.bindings s.conditions (t ∷ []) (u ∷ []))))
goal_turns call (fresh t u) k s = suc (fresh_turns k s (under s.bindings t) u)
goal_turns call (both g h) k s = suc (goal_turns call g (goal_turns call h k) s)
goal_turns call (either g h) k s = suc (goal_turns call g k s + goal_turns call h k s)
goal_turns call (exists x g) k s = suc (goal_turns call g k s)
goal_turns call (new a g) k s = suc (turns_if (goal_turns call g k) (reduced_state s (reduce_all s.bindings (fresh_for_each a (free_vars g)))))

abbrev pub clauses_turns : (NominalGoal → (State → ℕ) → State → ℕ) → List NominalTerm → (State → ℕ) → State → List NominalClause → ℕ
clauses_turns go ts k s [] = 0
clauses_turns go ts k s (c ∷ cs) = turns_if (go (rename_goal (next_number s) c.body) k) (clause_state ts s c) + clauses_turns go ts k s cs

abbrev pub call_turns : Clauses → ℕ → ℕ → List NominalTerm → (State → ℕ) → State → ℕ
call_turns program zero c ts k s = 0
call_turns program (suc d) c ts k s = clauses_turns (goal_turns (call_turns program d)) ts k s (clauses_of program c)

abbrev pub stack_turns : Clauses → List Waiting → State → ℕ
stack_turns program [] s = 1
stack_turns program (w ∷ ws) s = goal_turns (call_turns program w.depth) w.goal (stack_turns program ws) s

abbrev pub turns_from : Clauses → Position → ℕ
turns_from program p = stack_turns program p.waiting p.state

abbrev pub turns_from_each : Clauses → List Position → ℕ
turns_from_each program [] = 0
turns_from_each program (p ∷ ps) = turns_from program p + turns_from_each program ps

abbrev pub turns_of_turned : Clauses → Turned → ℕ
turns_of_turned program (ends o) = 0
turns_of_turned program (goes ps) = turns_from_each program ps

-- those of the search of a query to a depth
abbrev pub query_turns : Clauses → ℕ → NominalQuery → ℕ
query_turns program d q = turns_from program (first_position d q)

-- a search that takes no more is never given up
abbrev pub few_turns : ℕ
few_turns = 2048

-- a search is wide that made many turns, and more than eight for each choice of its longest way
abbrev pub is_wide : ℕ → ℕ → Bool
is_wide turns longest = nat_le few_turns turns && nat_lt longest (turns / 8)
