-- Definitions with one mistake each, and a row that tells each of them from the right one.
use Rattle.std.proofs.Common.{◌≡◌, ℕ, zero, suc, List, [], ◌∷◌, ◌++◌, map, refl}
use Rattle.std.specs.Prelude.{Option, Some, None, if◌then◌else◌}
use Rattle.ap_defs.specs.declared.terms.Name.{Name}
use Rattle.ap_defs.specs.declared.terms.Cond.{Cond}
use Rattle.ap_defs.specs.Permutations.{swap_of, swap_name, name_eq, name_before}
use Rattle.ap_defs.specs.Terms.{NominalTerm, name, app, abs, susp, act_term}
use Rattle.ap_defs.specs.Substitution.{Binding, ◌:=◌, Equation, ◌≐◌, Problem, ◌#◌, under}
use Rattle.ap_defs.specs.Unification as right
use Rattle.ap_defs.specs.Unification.{Rule, replace, Stage, Progress, done, Ending, unfinished, ending_after, apply_rule, steps_for, first_stage, finish, Unified, unify, ending, reduce_all}
use Rattle.ap_defs.specs.Goals as goals
use Rattle.ap_defs.specs.Goals.{NominalGoal}
use Rattle.ap_defs.specs.Derivations as nodes
use Rattle.ap_defs.specs.Occurrences.{free_vars}
use Rattle.ap_defs.specs.Resolution.{Call, Output, State, below, calls, each_found, found, fresh_for_each, if_reduced, if_unified, just_found, solve, test_fresh}
use Rattle.ap_defs.specs.Types as types
use Rattle.ap_rows.proofs.Programs.{n, v}

-- unification by some rule in the place of the table
abbrev Table : Type 0
Table = NominalTerm → NominalTerm → Rule

abbrev step_by : Table → List Equation → List Problem → List Binding → Progress
step_by rule [] ps s = done
step_by rule ((t ≐ u) ∷ es) ps s = apply_rule (rule t u) es ps s

abbrev run_by : Table → ℕ → Stage → Ending
run_by rule zero s = unfinished
run_by rule (suc k) s = ending_after (run_by rule k) s (step_by rule s.equations s.problems s.bindings)

abbrev unify_by : Table → NominalTerm → NominalTerm → Option Unified
unify_by rule t u = finish [] (run_by rule (steps_for (first_stage [] (t ∷ []) (u ∷ []))) (first_stage [] (t ∷ []) (u ∷ [])))

-- binders that differ, without the problem that the first is fresh for the second body
abbrev without_problem : Table
without_problem (abs a t) (abs b u) = if name_eq a b then replace ((t ≐ u) ∷ []) [] else replace ((t ≐ act_term (swap_of a b ∷ []) u) ∷ []) []
without_problem t u = right.rule t u

-- binders that differ, with the swapping put in front twice
abbrev swapped_twice : Table
swapped_twice (abs a t) (abs b u) =
    if name_eq a b then replace ((t ≐ u) ∷ []) []
    else replace ((t ≐ act_term (swap_of a b ∷ swap_of a b ∷ []) u) ∷ []) ((a # u) ∷ [])
swapped_twice t u = right.rule t u

-- `a\X = b\Y`: a, X, b, Y have the numbers 0 to 3
abbrev left_side : NominalTerm
left_side = abs (n 0 0) (v 1)

abbrev right_side : NominalTerm
right_side = abs (n 0 2) (v 3)

-- the copy of the definition is the definition, on this row
the_table : unify_by right.rule left_side right_side ≡ unify [] [] (left_side ∷ []) (right_side ∷ [])
unfolding swap_name name_eq name_before unify ending
the_table = refl

the_answer : unify [] [] (left_side ∷ []) (right_side ∷ []) ≡ Some (record {
  bindings = (record { num = 3 } := susp (swap_of (n 0 0) (n 0 2) ∷ []) (record { num = 1 })) ∷ [];
  conditions = record { name = n 0 2; var = record { num = 1 } } ∷ [];
})
unfolding swap_name name_eq name_before unify ending
the_answer = refl

no_condition : unify_by without_problem left_side right_side ≡ Some (record {
  bindings = (record { num = 3 } := susp (swap_of (n 0 0) (n 0 2) ∷ []) (record { num = 1 })) ∷ [];
  conditions = [];
})
unfolding swap_name name_eq name_before
no_condition = refl

-- `a\a = b\b` has a solution, and none where the swapping is put in front twice
own_names : unify [] [] (abs (n 0 0) (name (n 0 0)) ∷ []) (abs (n 0 1) (name (n 0 1)) ∷ []) ≡ Some (record { bindings = []; conditions = [] })
unfolding swap_name name_eq name_before unify ending
own_names = refl

own_names_lost : unify_by swapped_twice (abs (n 0 0) (name (n 0 0))) (abs (n 0 1) (name (n 0 1))) ≡ None
unfolding swap_name name_eq name_before
own_names_lost = refl

-- resolution of a goal, where it is told what `new` asks of its name
abbrev Asked : Type 0
Asked = State → Name → NominalGoal → Option (List Cond)

abbrev outputs_by : Asked → Call → NominalGoal → State → List Output
outputs_by asked call goals.succeed s = just_found nodes.succeed s
outputs_by asked call (goals.atom p ts) s = call p ts s
outputs_by asked call (goals.equal t u) s = if_unified (just_found nodes.equal) s (unify s.bindings s.conditions (t ∷ []) (u ∷ []))
outputs_by asked call (goals.fresh t u) s = test_fresh s (under s.bindings t) u
outputs_by asked call (goals.both g h) s = each_found (outputs_by asked call h) (outputs_by asked call g s)
outputs_by asked call (goals.either g h) s =
    map (below (1 ∷ []) nodes.left) (outputs_by asked call g s) ++ map (below (2 ∷ []) nodes.right) (outputs_by asked call h s)
outputs_by asked call (goals.exists x g) s = map (below [] (nodes.exists (susp [] x))) (outputs_by asked call g s)
outputs_by asked call (goals.new a g) s = map (below [] (nodes.new a)) (if_reduced (outputs_by asked call g) s (asked s a g))

-- that it is fresh for what the free variables of the goal stand for; and nothing
abbrev freshness : Asked
freshness s a g = reduce_all s.bindings (fresh_for_each a (free_vars g))

abbrev asks_nothing : Asked
asks_nothing s a g = Some []

-- `new x (var(x) = R)` has no output, since x # R is refuted; without that condition it has one
abbrev start : State
start = record { bindings = []; conditions = []; kinds = types.name 0 ∷ types.var (types.base 0) ∷ [] }

abbrev bound : NominalGoal
bound = goals.new (n 0 0) (goals.equal (app 2 (name (n 0 0))) (v 1))

-- the copy of the definition is the definition, on this row
the_search : outputs_by freshness (calls [] 1) bound start ≡ solve [] 1 bound start
unfolding swap_name name_eq name_before unify ending
the_search = refl

refuted : solve [] 1 bound start ≡ []
unfolding swap_name name_eq name_before unify ending
refuted = refl

without_conditions : outputs_by asks_nothing (calls [] 1) bound start
    ≡ found [] (record start { bindings = (record { num = 1 } := app 2 (name (n 0 0))) ∷ [] }) (nodes.new (n 0 0) nodes.equal) ∷ []
unfolding swap_name name_eq name_before unify ending
without_conditions = refl
