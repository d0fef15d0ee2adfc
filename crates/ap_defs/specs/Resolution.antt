-- Sequential nominal resolution, after Cheney and Urban: the outcomes of a goal from a state, in order. Its outputs are
-- those where nothing is told of choices, its tree of paths those where their widths are. Paths are relative to the goal.
use Rattle.std.specs.Prelude.{ℕ, zero, suc, List, [], ◌∷◌, ◌++◌, map, length, Option, Some, None}
use Rattle.ap_defs.specs.declared.terms.Name.{Name}
use Rattle.ap_defs.specs.declared.terms.Var.{Var}
use Rattle.ap_defs.specs.declared.terms.Cond.{Cond}
use Rattle.ap_defs.specs.Terms as terms
use Rattle.ap_defs.specs.Terms.{NominalTerm}
use Rattle.ap_defs.specs.Freshness.{Conds, add_conds, reduce}
use Rattle.ap_defs.specs.Substitution.{Binding, Problem, ◌#◌, under}
use Rattle.ap_defs.specs.Unification.{unify, Unified, reduce_all}
use Rattle.ap_defs.specs.Types.{NominalKind, NominalLocal}
use Rattle.ap_defs.specs.Goals.{NominalGoal, succeed, atom, equal, fresh, both, either, exists, new, NominalClause, NominalQuery, Clauses, clauses_of}
use Rattle.ap_defs.specs.Occurrences.{free_vars}
use Rattle.ap_defs.specs.Renaming.{rename_term, rename_goal, local_names, local_vars}
use Rattle.ap_defs.specs.HeadKeys.{kept_clauses}
use Rattle.ap_defs.specs.Derivations as nodes
use Rattle.ap_defs.specs.Derivations.{NominalDerivation}

-- The substitution with every binding carried out, the conditions, and the kind of each number that was made.
pub record State : Type 0 where
  pub bindings : List Binding
  pub conditions : Conds
  pub kinds : List NominalKind

-- the next number
abbrev pub next_number : State → ℕ
next_number s = length s.kinds

-- What a search comes to: a state that was found, with its path and its derivation, in which a variable stands for
-- itself; a branch that was cut at the depth; one that is stuck; or a place where it chooses, with what is told of it.
pub data Outcome (C : Type 0) : Type 0 where
  found : List ℕ → State → NominalDerivation → Outcome C
  cut : List ℕ → Outcome C
  stuck : List ℕ → Outcome C
  chose : List ℕ → C → Outcome C

-- what is told of a choice among so many ways, of which these are kept: below the others there is nothing
abbrev pub Telling : Type 0 → Type 0
Telling C = ℕ → List ℕ → List C

-- an outcome where nothing is told of choices
abbrev pub Output : Type 0
Output = Outcome ⊥

abbrev pub nothing_told : Telling ⊥
nothing_told w ks = []

-- an outcome under a choice, or with no choice, and a node of the derivation
abbrev pub below : {C : Type 0} → List ℕ → (NominalDerivation → NominalDerivation) → Outcome C → Outcome C
below p node (found q s d) = found (p ++ q) s (node d)
below p node (cut q) = cut (p ++ q)
below p node (stuck q) = stuck (p ++ q)
below p node (chose q c) = chose (p ++ q) c

-- each state that was found is replaced by the outcomes that follow from it
abbrev pub each_found : {C : Type 0} → (State → List (Outcome C)) → List (Outcome C) → List (Outcome C)
each_found go [] = []
each_found go (found p s d ∷ os) = map (below p (nodes.both d)) (go s) ++ each_found go os
each_found go (cut p ∷ os) = cut p ∷ each_found go os
each_found go (stuck p ∷ os) = stuck p ∷ each_found go os
each_found go (chose p c ∷ os) = chose p c ∷ each_found go os

abbrev pub if_unified : {C : Type 0} → (State → List (Outcome C)) → State → Option Unified → List (Outcome C)
if_unified go s None = []
if_unified go s (Some r) = go (record s { bindings = r.bindings; conditions = r.conditions })

abbrev pub if_reduced : {C : Type 0} → (State → List (Outcome C)) → State → Option (List Cond) → List (Outcome C)
if_reduced go s None = []
if_reduced go s (Some cs) = go (record s { conditions = add_conds cs s.conditions })

abbrev pub just_found : {C : Type 0} → NominalDerivation → State → List (Outcome C)
just_found d s = found [] s d ∷ []

-- the left side stands under the bindings already
abbrev pub test_fresh : {C : Type 0} → State → NominalTerm → NominalTerm → List (Outcome C)
test_fresh s (terms.name a) u = if_reduced (just_found nodes.fresh) s (reduce a (under s.bindings u))
test_fresh s (terms.susp p x) u = stuck [] ∷ []
test_fresh s _ u = []

-- a choice among so many ways, of which these are kept, and the outcomes of all of them
abbrev pub choose : {C : Type 0} → Telling C → ℕ → List ℕ → List (Outcome C) → List (Outcome C)
choose tell w ks os = map (chose []) (tell w ks) ++ os

abbrev pub fresh_for_each : Name → List Var → List Problem
fresh_for_each a xs = map (λ x. a # terms.susp [] x) xs

-- the outcomes of an atom from a state
abbrev pub CallOf : Type 0 → Type 0
CallOf C = ℕ → List NominalTerm → State → List (Outcome C)

-- the outcomes of a goal, where `call` gives those of an atom, and `tell` what is told of a choice
abbrev pub outcomes : {C : Type 0} → Telling C → CallOf C → NominalGoal → State → List (Outcome C)
outcomes tell call succeed s = just_found nodes.succeed s
outcomes tell call (atom p ts) s = call p ts s
outcomes tell call (equal t u) s = if_unified (just_found nodes.equal) s (unify s.bindings s.conditions (t ∷ []) (u ∷ []))
outcomes tell call (fresh t u) s = test_fresh s (under s.bindings t) u
outcomes tell call (both g h) s = each_found (outcomes tell call h) (outcomes tell call g s)
outcomes tell call (either g h) s =
    choose tell 2 (1 ∷ 2 ∷ []) (map (below (1 ∷ []) nodes.left) (outcomes tell call g s) ++ map (below (2 ∷ []) nodes.right) (outcomes tell call h s))
outcomes tell call (exists x g) s = map (below [] (nodes.exists (terms.susp [] x))) (outcomes tell call g s)
outcomes tell call (new a g) s =
    map (below [] (nodes.new a)) (if_reduced (outcomes tell call g) s (reduce_all s.bindings (fresh_for_each a (free_vars g))))

abbrev pub kinds_of : List NominalLocal → List NominalKind
kinds_of = map (λ l. l.kind)

-- the node of a clause whose identifiers are numbered from n on
abbrev pub clause_node : ℕ → ℕ → List NominalLocal → NominalDerivation → NominalDerivation
clause_node k n locals = nodes.atom k (local_names n locals) (map (terms.susp []) (local_vars n locals))

-- the outcomes by the k-th clause: it is renamed, its head is unified with the atom, and its body follows
abbrev pub by_clause : {C : Type 0} → (NominalGoal → State → List (Outcome C)) → List NominalTerm → State → ℕ → NominalClause → List (Outcome C)
by_clause go ts s k c =
    map (below (k ∷ []) (clause_node k (next_number s) c.locals))
    (if_unified (go (rename_goal (next_number s) c.body)) (record s { kinds = s.kinds ++ kinds_of c.locals })
    (unify s.bindings s.conditions ts (map (rename_term (next_number s)) c.args)))

-- the outcomes by clauses that are numbered from k on
abbrev pub by_clauses : {C : Type 0} → (NominalGoal → State → List (Outcome C)) → List NominalTerm → State → ℕ → List NominalClause → List (Outcome C)
by_clauses go ts s k [] = []
by_clauses go ts s k (c ∷ cs) = by_clause go ts s k c ++ by_clauses go ts s (suc k) cs

-- the outcomes of an atom at a depth: a choice among the clauses of its predicate
abbrev pub calls_at : {C : Type 0} → Telling C → Clauses → ℕ → CallOf C
calls_at tell program zero p ts s = cut [] ∷ []
calls_at tell program (suc d) p ts s =
    let cs = clauses_of program p in
    choose tell (length cs) (kept_clauses s.bindings ts cs) (by_clauses (outcomes tell (calls_at tell program d)) ts s 1 cs)

-- the outputs of an atom, and of a goal, where nothing is told of choices
abbrev pub Call : Type 0
Call = CallOf ⊥

abbrev pub outputs : Call → NominalGoal → State → List Output
outputs = outcomes nothing_told

abbrev pub calls : Clauses → ℕ → Call
calls = calls_at nothing_told

-- the outputs of a goal at a depth
abbrev pub solve : Clauses → ℕ → NominalGoal → State → List Output
solve program d = outputs (calls program d)

-- where the search of a query begins
abbrev pub first_state : NominalQuery → State
first_state q = record { bindings = []; conditions = []; kinds = kinds_of q.locals }

-- the outputs of a query at a depth
abbrev pub solve_query : Clauses → ℕ → NominalQuery → List Output
solve_query program d q = solve program d q.goal (first_state q)
