-- What it is for a derivation to check: nominal logic's rules over terms with variables, under an answer's conditions.
-- Nodes count from 1 in preorder, and node 0 is the answer. The first refused node counts, and at a node the least rule:
--   1 shape: the node's form isn't that of the goal at its place
--   2 clause: the atom's predicate has no clause of that number
--   3 count: the names and terms aren't as many as the clause's free names and free variables
--   4 distinct: two of the names are equal
--   5 typing: a name hasn't the sort, or a term not the type, of its place
--   6 head: an argument of the atom doesn't equal the head's, with the names and terms put in
--   7 equal: the sides of an equation aren't equal
--   8 fresh: the left side isn't a name, or the name isn't fresh for the right side
--   9 new name: the name stands for a free name of the goal, or isn't fresh for what stands for a free variable
--   10 answer: there is no such query, or its bindings, conditions and typed variables don't fit it and one another
use Rattle.std.specs.Prelude.{◌≡◌, ℕ, zero, suc, ◌+◌, ◌-◌, ◌^◌, nat_lt, Bool, true, false, ◌==◌, ◌&&◌, not, if◌then◌else◌, List, [], ◌∷◌, map, length, Option, Some, None}
use Rattle.std.specs.List.{list_all}
use Rattle.ap_defs.specs.declared.terms.Name.{Name}
use Rattle.ap_defs.specs.declared.terms.Var.{Var}
use Rattle.ap_defs.specs.Answers.{NominalAnswer, kind_at}
use Rattle.ap_defs.specs.Derivations as nodes
use Rattle.ap_defs.specs.Derivations.{DerivationOver, NominalDerivation}
use Rattle.ap_defs.specs.Freshness.{Conds, alpha_under, fresh_under}
use Rattle.ap_defs.specs.Goals as goals
use Rattle.ap_defs.specs.Goals.{NominalClause, NominalGoal, NominalProgram, NominalQuery, clauses_of}
use Rattle.ap_defs.specs.GroundProofs.{clause_at}
use Rattle.ap_defs.specs.Occurrences.{free_names, free_vars}
use Rattle.ap_defs.specs.Permutations.{has_name, name_eq}
use Rattle.ap_defs.specs.Renaming.{local_names, local_vars}
use Rattle.ap_defs.specs.Resolution.{kinds_of}
use Rattle.ap_defs.specs.Terms as terms
use Rattle.ap_defs.specs.Terms.{NominalTerm}
use Rattle.ap_defs.specs.Types.{NominalKind, NominalLocal, NominalType}
use Rattle.ap_defs.specs.Unification.{has_var}
use Rattle.ap_checks.specs.OpenEnvironments.{OpenEnvironment, open_environment, put_in, with_open_name, with_open_term}
use Rattle.ap_checks.specs.TypeTests.{has_kind, have_kinds, have_sorts, type_beside}

-- Yes, or the first refused node and its least rule.
pub data NominalVerdict : Type 0 where
  yes : NominalVerdict
  no : ℕ → ℕ → NominalVerdict

-- A refused node, and the rule.
pub record Refusal : Type 0 where
  pub node : ℕ
  pub rule : ℕ

abbrev pub refusal_of_rule : ℕ → ℕ → Refusal
refusal_of_rule n r = record { node = n; rule = r }

-- a test, and what comes after it where it holds
abbrev pub test : Bool → Refusal → Option Refusal → Option Refusal
test true r rest = rest
test false r rest = Some r

abbrev pub first_refusal : Option Refusal → Option Refusal → Option Refusal
first_refusal None o = o
first_refusal (Some r) o = Some r

-- how many nodes
abbrev pub node_count : {T : Type 0} → DerivationOver T → ℕ
node_count (nodes.atom k as' ts d) = suc (node_count d)
node_count nodes.equal = 1
node_count nodes.fresh = 1
node_count nodes.succeed = 1
node_count (nodes.both d e) = suc (node_count d + node_count e)
node_count (nodes.left d) = suc (node_count d)
node_count (nodes.right d) = suc (node_count d)
node_count (nodes.exists t d) = suc (node_count d)
node_count (nodes.new a d) = suc (node_count d)

-- the names and terms are as many as the free names and free variables
abbrev pub have_counts : List NominalLocal → List Name → List NominalTerm → Bool
have_counts locals names ts = (length names == length (local_names 0 locals)) && (length ts == length (local_vars 0 locals))

abbrev pub are_different : List Name → Bool
are_different [] = true
are_different (a ∷ as') = not (has_name a as') && are_different as'

-- equal under the conditions, one by one
abbrev pub equal_each : Conds → List NominalTerm → List NominalTerm → Bool
equal_each ds [] [] = true
equal_each ds (t ∷ ts) (u ∷ us) = alpha_under ds t u && equal_each ds ts us
equal_each ds _ _ = false

-- the left side is a name that is fresh for the right side
abbrev pub is_fresh : Conds → NominalTerm → NominalTerm → Bool
is_fresh ds (terms.name a) t = fresh_under ds a t
is_fresh ds _ t = false

-- the name stands for no free name of the goal, and is fresh for what stands for its free variables
abbrev pub is_new : Conds → Name → NominalGoal → OpenEnvironment → Bool
is_new ds c goal e = list_all (λ b. not (name_eq (e.names b) c)) (free_names goal) && list_all (λ x. fresh_under ds c (e.terms x)) (free_vars goal)

-- the tests of an atom's node by a clause, where the atom has these arguments, before what comes after them
abbrev pub tests_by_clause : NominalProgram → NominalAnswer → ℕ → List Name → List NominalTerm → List NominalTerm → NominalClause → Option Refusal → Option Refusal
tests_by_clause p a n names ts us c rest =
    test (have_counts c.locals names ts) (refusal_of_rule n 3)
    (test (are_different names) (refusal_of_rule n 4)
    (test (have_sorts (local_names 0 c.locals) names && have_kinds p.signature.constructors (type_beside a.vars) (kinds_of c.locals) (local_vars 0 c.locals) ts) (refusal_of_rule n 5)
    (test (equal_each a.conds us (map (put_in (open_environment c.locals names ts)) c.args)) (refusal_of_rule n 6) rest)))

abbrev pub with_clause : ℕ → Option NominalClause → (NominalClause → Option Refusal) → Option Refusal
with_clause n None check = Some (refusal_of_rule n 2)
with_clause n (Some c) check = check c

-- the first refusal of a derivation, whose first node has this number, of a goal in an item whose identifiers have these kinds
abbrev pub refusal : NominalProgram → NominalAnswer → List NominalKind → ℕ → NominalDerivation → NominalGoal → OpenEnvironment → Option Refusal
refusal p a kinds n (nodes.atom k names ts d) (goals.atom q us) e =
    with_clause n (clause_at (clauses_of p.clauses q) k)
    (λ c. tests_by_clause p a n names ts (map (put_in e) us) c (refusal p a (kinds_of c.locals) (suc n) d c.body (open_environment c.locals names ts)))
refusal p a kinds n nodes.equal (goals.equal t u) e = test (alpha_under a.conds (put_in e t) (put_in e u)) (refusal_of_rule n 7) None
refusal p a kinds n nodes.fresh (goals.fresh t u) e = test (is_fresh a.conds (put_in e t) (put_in e u)) (refusal_of_rule n 8) None
refusal p a kinds n nodes.succeed goals.succeed e = None
refusal p a kinds n (nodes.both d f) (goals.both g h) e = first_refusal (refusal p a kinds (suc n) d g e) (refusal p a kinds (suc n + node_count d) f h e)
refusal p a kinds n (nodes.left d) (goals.either g h) e = refusal p a kinds (suc n) d g e
refusal p a kinds n (nodes.right d) (goals.either g h) e = refusal p a kinds (suc n) d h e
refusal p a kinds n (nodes.exists t d) (goals.exists x g) e =
    test (has_kind p.signature.constructors (type_beside a.vars) (kind_at kinds x.num) t) (refusal_of_rule n 5) (refusal p a kinds (suc n) d g (with_open_term e x t))
refusal p a kinds n (nodes.new c d) (goals.new b g) e =
    test (c.sort == b.sort) (refusal_of_rule n 5) (test (is_new a.conds c (goals.new b g) e) (refusal_of_rule n 9) (refusal p a kinds (suc n) d g (with_open_name e b c)))
refusal p a kinds n _ _ e = Some (refusal_of_rule n 1)

-- no variable stands twice
abbrev pub each_once : List (Var × NominalType) → Bool
each_once [] = true
each_once (v ∷ vs) = not (has_var v.0 (map (λ w. w.0) vs)) && each_once vs

-- the bindings are those of the query's free variables, of their types, and the conditions are on typed variables
abbrev pub is_answer : NominalProgram → NominalQuery → NominalAnswer → Bool
is_answer p q a =
    have_kinds p.signature.constructors (type_beside a.vars) (kinds_of q.locals) (local_vars 0 q.locals) a.binds
    && (each_once a.vars && list_all (λ c. has_var c.var (map (λ v. v.0) a.vars)) a.conds)

-- a number that doesn't fit in 64 bits is given as the greatest that does
abbrev pub reported : ℕ → ℕ
reported n = if nat_lt n (2 ^ 64) then n else (2 ^ 64 - 1)

abbrev pub verdict : Option Refusal → NominalVerdict
verdict None = yes
verdict (Some r) = no (reported r.node) r.rule

-- the verdict on a derivation of an answer to a query; each free name of a query stands for itself
abbrev pub verdict_on : NominalProgram → NominalQuery → NominalAnswer → NominalDerivation → NominalVerdict
verdict_on p q a d =
    verdict (test (is_answer p q a) (refusal_of_rule 0 10) (refusal p a (kinds_of q.locals) 1 d q.goal (open_environment q.locals (local_names 0 q.locals) a.binds)))

-- the query with this number, from 1
abbrev pub query_at : List NominalQuery → ℕ → Option NominalQuery
query_at [] k = None
query_at (q ∷ qs) zero = None
query_at (q ∷ qs) (suc zero) = Some q
query_at (q ∷ qs) (suc (suc k)) = query_at qs (suc k)

abbrev pub on_query : Option NominalQuery → (NominalQuery → NominalVerdict) → NominalVerdict
on_query None check = no 0 10
on_query (Some q) check = check q

-- the verdict on a derivation of an answer to the query with this number
abbrev pub verdict_of : NominalProgram → ℕ → NominalAnswer → NominalDerivation → NominalVerdict
verdict_of p k a d = on_query (query_at p.queries k) (λ q. verdict_on p q a d)

-- the derivation checks
abbrev pub Checks : NominalProgram → NominalQuery → NominalAnswer → NominalDerivation → Type 0
Checks p q a d = verdict_on p q a d ≡ yes
