-- Resolution along one path: the side of each disjunction and the clause of each atom are taken from the path, from the left.
use Rattle.std.specs.Prelude.{◌≡◌, ℕ, zero, suc, ◌==◌, if◌then◌else◌, List, [], ◌∷◌, ◌++◌, map, ◌⊎◌, Option, Some, None}
use Rattle.ap_defs.specs.declared.terms.Cond.{Cond}
use Rattle.ap_defs.specs.Derivations as nodes
use Rattle.ap_defs.specs.Derivations.{NominalDerivation}
use Rattle.ap_defs.specs.Freshness.{add_conds, reduce}
use Rattle.ap_defs.specs.Goals.{NominalGoal, succeed, atom, equal, fresh, both, either, exists, new, NominalClause, NominalQuery, Clauses, clauses_of}
use Rattle.ap_defs.specs.GroundProofs.{clause_at}
use Rattle.ap_defs.specs.Occurrences.{free_vars}
use Rattle.ap_defs.specs.Renaming.{rename_goal, rename_term}
use Rattle.ap_defs.specs.Resolution as search
use Rattle.ap_defs.specs.Resolution.{Output, State, clause_node, first_state, fresh_for_each, kinds_of, next_number}
use Rattle.ap_defs.specs.Substitution.{under}
use Rattle.ap_defs.specs.Terms as terms
use Rattle.ap_defs.specs.Terms.{NominalTerm}
use Rattle.ap_defs.specs.Unification.{Unified, reduce_all, unify}

-- Where a path leads: the state that is found, its derivation, and what is left of the path.
pub record Traced : Type 0 where
  pub state : State
  pub derivation : NominalDerivation
  pub rest : List ℕ

-- where each path leads from a state
abbrev pub Trace : Type 0
Trace = State → List ℕ → Option Traced

abbrev pub just_traced : NominalDerivation → Trace
just_traced d s path = Some (record { state = s; derivation = d; rest = path })

abbrev pub under_node : (NominalDerivation → NominalDerivation) → Option Traced → Option Traced
under_node node None = None
under_node node (Some r) = Some (record { state = r.state; derivation = node r.derivation; rest = r.rest })

-- the second goal goes on where the first one led
abbrev pub trace_then : Trace → Option Traced → Option Traced
trace_then next None = None
trace_then next (Some r) = under_node (nodes.both r.derivation) (next r.state r.rest)

abbrev pub trace_unified : Trace → State → Option Unified → List ℕ → Option Traced
trace_unified go s None path = None
trace_unified go s (Some r) path = go (record s { bindings = r.bindings; conditions = r.conditions }) path

abbrev pub trace_reduced : Trace → State → Option (List Cond) → List ℕ → Option Traced
trace_reduced go s None path = None
trace_reduced go s (Some cs) path = go (record s { conditions = add_conds cs s.conditions }) path

-- the left side stands under the bindings already
abbrev pub trace_fresh : NominalTerm → NominalTerm → Trace
trace_fresh (terms.name a) u s path = trace_reduced (just_traced nodes.fresh) s (reduce a (under s.bindings u)) path
trace_fresh _ u s path = None

abbrev pub trace_side : Trace → Trace → Trace
trace_side left right s [] = None
trace_side left right s (k ∷ path) = if k == 1 then under_node nodes.left (left s path) else (if k == 2 then under_node nodes.right (right s path) else None)

-- along a path from a goal, where `call` gives where it leads from an atom
abbrev pub trace_goal : (ℕ → List NominalTerm → Trace) → NominalGoal → Trace
trace_goal call succeed s path = just_traced nodes.succeed s path
trace_goal call (atom q ts) s path = call q ts s path
trace_goal call (equal t u) s path = trace_unified (just_traced nodes.equal) s (unify s.bindings s.conditions (t ∷ []) (u ∷ [])) path
trace_goal call (fresh t u) s path = trace_fresh (under s.bindings t) u s path
trace_goal call (both g h) s path = trace_then (trace_goal call h) (trace_goal call g s path)
trace_goal call (either g h) s path = trace_side (trace_goal call g) (trace_goal call h) s path
trace_goal call (exists x g) s path = under_node (nodes.exists (terms.susp [] x)) (trace_goal call g s path)
trace_goal call (new a g) s path = under_node (nodes.new a) (trace_reduced (trace_goal call g) s (reduce_all s.bindings (fresh_for_each a (free_vars g))) path)

-- by the clause with a number, which is renamed, its head unified with the atom, and its body follows
abbrev pub trace_clause : (NominalGoal → Trace) → List NominalTerm → ℕ → Option NominalClause → Trace
trace_clause go ts k None s path = None
trace_clause go ts k (Some c) s path =
    under_node (clause_node k (next_number s) c.locals)
    (trace_unified (go (rename_goal (next_number s) c.body)) (record s { kinds = s.kinds ++ kinds_of c.locals })
    (unify s.bindings s.conditions ts (map (rename_term (next_number s)) c.args)) path)

-- from an atom, at a depth
abbrev pub trace_call : Clauses → ℕ → ℕ → List NominalTerm → Trace
trace_call program zero q ts s path = None
trace_call program (suc depth) q ts s [] = None
trace_call program (suc depth) q ts s (k ∷ path) = trace_clause (trace_goal (trace_call program depth)) ts k (clause_at (clauses_of program q) k) s path

-- from a goal, at a depth
abbrev pub traced : Clauses → ℕ → NominalGoal → Trace
traced program depth = trace_goal (trace_call program depth)

-- from a query
abbrev pub traced_query : Clauses → ℕ → NominalQuery → List ℕ → Option Traced
traced_query program depth q path = traced program depth q.goal (first_state q) path

-- the state and the derivation are among outputs, at a path
abbrev pub Finds : List Output → List ℕ → State → NominalDerivation → Type 0
Finds [] path s d = ⊥
Finds (search.found q r e ∷ os) path s d = ((q ≡ path) × (r ≡ s) × (e ≡ d)) ⊎ Finds os path s d
Finds (search.cut q ∷ os) path s d = Finds os path s d
Finds (search.stuck q ∷ os) path s d = Finds os path s d
Finds (search.chose q c ∷ os) path s d = Finds os path s d
