-- Worked rows of derivations: those that check, and for each rule some that are refused, with the node.
use Rattle.std.proofs.Common.{◌≡◌, [], ◌∷◌, refl}
use Rattle.std.specs.Prelude.{ℕ, List, codes}
use Rattle.ap_defs.specs.declared.terms.Cond.{Cond}
use Rattle.ap_defs.specs.declared.terms.Var.{Var}
use Rattle.ap_defs.specs.Answers.{NominalAnswer}
use Rattle.ap_defs.specs.Derivations as nodes
use Rattle.ap_defs.specs.Derivations.{NominalDerivation}
use Rattle.ap_defs.specs.Goals as goals
use Rattle.ap_defs.specs.Goals.{NominalClause, NominalGoal, NominalProgram}
use Rattle.ap_defs.specs.Permutations.{name_eq, swap_name}
use Rattle.ap_defs.specs.Terms.{NominalTerm, abs, app, name, pair, unit}
use Rattle.ap_defs.specs.Types as types
use Rattle.ap_defs.specs.Types.{NominalLocal, NominalSignature, NominalType}
use Rattle.ap_checks.specs.Checks.{no, verdict_of, yes}
use Rattle.ap_rows.proofs.Programs.{brought_name, clause, n, named, program, query, signature, some_variable, v, variable}
use Rattle.ap_rows.proofs.Rows.{substitution_clauses, substitution_signature}

abbrev answer : List NominalTerm → List Cond → List (Var × NominalType) → NominalAnswer
answer binds conds vars = record { binds = binds; conds = conds; vars = vars }

abbrev var : ℕ → Var
var num = record { num = num }

-- Names of one sort, and a query.
abbrev names_only : NominalGoal → List NominalLocal → NominalProgram
names_only goal locals = program (signature (codes "id" ∷ codes "tag" ∷ []) [] [] []) [] (query goal locals) []

abbrev a_and_b : List NominalLocal
a_and_b = named 0 (codes "a") ∷ named 0 (codes "b") ∷ []

abbrev a : NominalTerm
a = name (n 0 0)

abbrev b : NominalTerm
b = name (n 0 1)

-- `?- a # b.`
names_differ : verdict_of (names_only (goals.fresh a b) a_and_b) 1 (answer [] [] []) nodes.fresh ≡ yes
unfolding name_eq
names_differ = refl

-- another form of node, and a node of a query that is none
another_form : verdict_of (names_only (goals.fresh a b) a_and_b) 1 (answer [] [] []) nodes.equal ≡ no 1 1
another_form = refl

form_below : verdict_of (names_only (goals.both (goals.fresh a b) (goals.fresh b a)) a_and_b) 1 (answer [] [] []) (nodes.both nodes.fresh (nodes.left nodes.fresh)) ≡ no 3 1
unfolding name_eq
form_below = refl

no_such_query : verdict_of (names_only (goals.fresh a b) a_and_b) 2 (answer [] [] []) nodes.fresh ≡ no 0 10
no_such_query = refl

no_query_zero : verdict_of (names_only (goals.fresh a b) a_and_b) 0 (answer [] [] []) nodes.fresh ≡ no 0 10
no_query_zero = refl

-- `?- a # a.`, and `?- a = b.`
not_fresh : verdict_of (names_only (goals.fresh a a) a_and_b) 1 (answer [] [] []) nodes.fresh ≡ no 1 8
unfolding name_eq
not_fresh = refl

not_equal : verdict_of (names_only (goals.equal a b) a_and_b) 1 (answer [] [] []) nodes.equal ≡ no 1 7
unfolding name_eq
not_equal = refl

equal_below : verdict_of (names_only (goals.either (goals.equal a a) (goals.equal a b)) a_and_b) 1 (answer [] [] []) (nodes.right nodes.equal) ≡ no 2 7
unfolding name_eq
equal_below = refl

-- Answers with a variable. `?- a # X.`
abbrev a_and_x : List NominalLocal
a_and_x = named 0 (codes "a") ∷ variable (types.names 0) (codes "X") ∷ []

abbrev fresh_for_x : NominalProgram
fresh_for_x = names_only (goals.fresh a (v 1)) a_and_x

abbrev a_fresh_for : ℕ → Cond
a_fresh_for x = record { name = n 0 0; var = var x }

by_condition : verdict_of fresh_for_x 1 (answer (v 1 ∷ []) (a_fresh_for 1 ∷ []) ((var 1, types.names 0) ∷ [])) nodes.fresh ≡ yes
unfolding name_eq
by_condition = refl

without_condition : verdict_of fresh_for_x 1 (answer (v 1 ∷ []) [] ((var 1, types.names 0) ∷ [])) nodes.fresh ≡ no 1 8
without_condition = refl

no_binding : verdict_of fresh_for_x 1 (answer [] [] []) nodes.fresh ≡ no 0 10
no_binding = refl

binding_of_another_type : verdict_of fresh_for_x 1 (answer (unit ∷ []) [] []) nodes.fresh ≡ no 0 10
binding_of_another_type = refl

untyped_variable : verdict_of fresh_for_x 1 (answer (v 1 ∷ []) [] []) nodes.fresh ≡ no 0 10
untyped_variable = refl

variable_twice : verdict_of fresh_for_x 1 (answer (v 1 ∷ []) (a_fresh_for 1 ∷ []) ((var 1, types.names 0) ∷ (var 1, types.names 0) ∷ [])) nodes.fresh ≡ no 0 10
variable_twice = refl

condition_on_no_variable : verdict_of fresh_for_x 1 (answer (v 1 ∷ []) (a_fresh_for 5 ∷ []) ((var 1, types.names 0) ∷ [])) nodes.fresh ≡ no 0 10
condition_on_no_variable = refl

-- `?- X # a.`: what stands for X isn't a name
left_side_is_no_name : verdict_of (names_only (goals.fresh (v 1) a) a_and_x) 1 (answer (v 1 ∷ []) (a_fresh_for 1 ∷ []) ((var 1, types.names 0) ∷ [])) nodes.fresh ≡ no 1 8
left_side_is_no_name = refl

-- New names. `?- new x (x # a).`
abbrev new_beside_a : NominalProgram
new_beside_a = names_only (goals.new (n 0 1) (goals.fresh b a)) (named 0 (codes "a") ∷ brought_name 0 (codes "x") ∷ [])

new_name : verdict_of new_beside_a 1 (answer [] [] []) (nodes.new (n 0 7) nodes.fresh) ≡ yes
unfolding name_eq
new_name = refl

-- the name that `new` brings is not free in its goal
own_name : verdict_of new_beside_a 1 (answer [] [] []) (nodes.new (n 0 1) nodes.fresh) ≡ yes
unfolding name_eq
own_name = refl

free_name : verdict_of new_beside_a 1 (answer [] [] []) (nodes.new (n 0 0) nodes.fresh) ≡ no 1 9
unfolding name_eq
free_name = refl

name_of_another_sort : verdict_of new_beside_a 1 (answer [] [] []) (nodes.new (n 1 7) nodes.fresh) ≡ no 1 5
name_of_another_sort = refl

-- `?- new x (x # X).`, where what stands for X is `n7\n7`: the name stands in it, and is fresh for it
abbrev new_beside_x : NominalType → NominalProgram
new_beside_x type = names_only (goals.new (n 0 1) (goals.fresh b (v 0))) (variable type (codes "X") ∷ brought_name 0 (codes "x") ∷ [])

names_put_in_do_not_count : verdict_of (new_beside_x (types.abs 0 (types.names 0))) 1 (answer (abs (n 0 7) (name (n 0 7)) ∷ []) [] []) (nodes.new (n 0 7) nodes.fresh) ≡ yes
unfolding name_eq
names_put_in_do_not_count = refl

not_fresh_for_x : verdict_of (new_beside_x (types.names 0)) 1 (answer (name (n 0 7) ∷ []) [] []) (nodes.new (n 0 7) nodes.fresh) ≡ no 1 9
unfolding name_eq
not_fresh_for_x = refl

no_condition_on_x : verdict_of (new_beside_x (types.names 0)) 1 (answer (v 5 ∷ []) [] ((var 5, types.names 0) ∷ [])) (nodes.new (n 0 7) nodes.fresh) ≡ no 1 9
unfolding name_eq
no_condition_on_x = refl

condition_on_x : verdict_of (new_beside_x (types.names 0)) 1 (answer (v 5 ∷ []) (record { name = n 0 7; var = var 5 } ∷ []) ((var 5, types.names 0) ∷ [])) (nodes.new (n 0 7) nodes.fresh) ≡ yes
unfolding name_eq
condition_on_x = refl

-- `?- exists X (X = a).`
abbrev some_x : NominalProgram
some_x = names_only (goals.exists (var 1) (goals.equal (v 1) a)) (named 0 (codes "a") ∷ some_variable (types.names 0) (codes "X") ∷ [])

some_name : verdict_of some_x 1 (answer [] [] []) (nodes.exists a nodes.equal) ≡ yes
unfolding name_eq
some_name = refl

of_another_type : verdict_of some_x 1 (answer [] [] []) (nodes.exists unit nodes.equal) ≡ no 1 5
of_another_type = refl

of_no_type : verdict_of some_x 1 (answer [] [] []) (nodes.exists (v 9) nodes.equal) ≡ no 1 5
of_no_type = refl

another_name : verdict_of some_x 1 (answer [] [] []) (nodes.exists b nodes.equal) ≡ no 2 7
unfolding name_eq
another_name = refl

-- A clause with two names, `two :- a # c.`, of one sort or of two.
abbrev two_names_for : NominalGoal → ℕ → NominalProgram
two_names_for goal sort =
    program (signature (codes "id" ∷ codes "tag" ∷ []) [] [] ([] ∷ []))
    ((clause 0 [] (goals.fresh (name (n 0 0)) (name (n sort 1))) (named 0 (codes "a") ∷ named sort (codes "c") ∷ []) ∷ []) ∷ []) (query goal []) []

abbrev two_names : ℕ → NominalProgram
two_names = two_names_for (goals.atom 0 [])

different_names : verdict_of (two_names 0) 1 (answer [] [] []) (nodes.atom 1 (n 0 5 ∷ n 0 6 ∷ []) [] nodes.fresh) ≡ yes
unfolding name_eq
different_names = refl

one_name_twice : verdict_of (two_names 0) 1 (answer [] [] []) (nodes.atom 1 (n 0 5 ∷ n 0 5 ∷ []) [] nodes.fresh) ≡ no 1 4
unfolding name_eq
one_name_twice = refl

name_twice_below : verdict_of (two_names_for (goals.both goals.succeed (goals.atom 0 [])) 0) 1 (answer [] [] []) (nodes.both nodes.succeed (nodes.atom 1 (n 0 5 ∷ n 0 5 ∷ []) [] nodes.fresh)) ≡ no 3 4
unfolding name_eq
name_twice_below = refl

-- names of two sorts are different, also where their numbers are equal
one_number_twice : verdict_of (two_names 1) 1 (answer [] [] []) (nodes.atom 1 (n 0 5 ∷ n 1 5 ∷ []) [] nodes.fresh) ≡ yes
unfolding name_eq
one_number_twice = refl

sorts_exchanged : verdict_of (two_names 1) 1 (answer [] [] []) (nodes.atom 1 (n 1 5 ∷ n 0 5 ∷ []) [] nodes.fresh) ≡ no 1 5
unfolding name_eq
sorts_exchanged = refl

one_name_too_few : verdict_of (two_names 0) 1 (answer [] [] []) (nodes.atom 1 (n 0 5 ∷ []) [] nodes.fresh) ≡ no 1 3
one_name_too_few = refl

one_term_too_many : verdict_of (two_names 0) 1 (answer [] [] []) (nodes.atom 1 (n 0 5 ∷ n 0 6 ∷ []) (unit ∷ []) nodes.fresh) ≡ no 1 3
one_term_too_many = refl

no_second_clause : verdict_of (two_names 0) 1 (answer [] [] []) (nodes.atom 2 (n 0 5 ∷ n 0 6 ∷ []) [] nodes.fresh) ≡ no 1 2
no_second_clause = refl

no_clause_zero : verdict_of (two_names 0) 1 (answer [] [] []) (nodes.atom 0 (n 0 5 ∷ n 0 6 ∷ []) [] nodes.fresh) ≡ no 1 2
no_clause_zero = refl

-- Substitution in the lambda calculus. `?- subst(lam(b\app(var(a),var(b))), a, var(b), R).`
abbrev word : ℕ → NominalTerm
word k = app 2 (name (n 0 k))

abbrev applied : NominalTerm → NominalTerm → NominalTerm
applied t u = app 3 (pair t u)

abbrev substitution_program : NominalProgram
substitution_program =
    program substitution_signature substitution_clauses
    (query (goals.atom 0 (app 4 (abs (n 0 0) (applied (word 1) (word 0))) ∷ name (n 0 1) ∷ word 0 ∷ v 2 ∷ [])) (named 0 (codes "b") ∷ named 0 (codes "a") ∷ variable (types.base 0) (codes "R") ∷ [])) []

-- the body of the clause for `lam`, with the node of the right variable of the application
abbrev body_with : ℕ → NominalDerivation → NominalDerivation → NominalDerivation
body_with k first second = nodes.both nodes.fresh (nodes.both nodes.fresh (nodes.atom k [] (word 1 ∷ word 3 ∷ name (n 0 1) ∷ word 0 ∷ word 0 ∷ word 3 ∷ []) (nodes.both first second)))

abbrev lam_node : NominalDerivation → NominalDerivation
lam_node body = nodes.atom 4 (n 0 3 ∷ []) (applied (word 1) (word 3) ∷ name (n 0 1) ∷ word 0 ∷ applied (word 0) (word 3) ∷ []) body

abbrev same_word : NominalDerivation
same_word = nodes.atom 1 [] (name (n 0 1) ∷ word 0 ∷ []) nodes.succeed

abbrev other_word : NominalDerivation
other_word = nodes.atom 2 [] (name (n 0 3) ∷ name (n 0 1) ∷ word 0 ∷ []) nodes.fresh

abbrev without_capture : NominalAnswer
without_capture = answer (app 4 (abs (n 0 3) (applied (word 0) (word 3))) ∷ []) [] []

substitution_checks : verdict_of substitution_program 1 without_capture (lam_node (body_with 3 same_word other_word)) ≡ yes
unfolding swap_name name_eq
substitution_checks = refl

-- the answer with another name for the binder checks too, with the same nodes
binder_renamed : verdict_of substitution_program 1 (answer (app 4 (abs (n 0 8) (applied (word 0) (word 8))) ∷ []) [] []) (lam_node (body_with 3 same_word other_word)) ≡ yes
unfolding swap_name name_eq
binder_renamed = refl

-- with capture, the binder isn't fresh for what is substituted
captured : verdict_of substitution_program 1 (answer (app 4 (abs (n 0 0) (applied (word 0) (word 0))) ∷ []) [] [])
    (nodes.atom 4 (n 0 0 ∷ []) (applied (word 1) (word 0) ∷ name (n 0 1) ∷ word 0 ∷ applied (word 0) (word 0) ∷ []) (body_with 3 same_word other_word)) ≡ no 5 8
unfolding swap_name name_eq
captured = refl

another_answer : verdict_of substitution_program 1 (answer (app 4 (abs (n 0 3) (applied (word 1) (word 3))) ∷ []) [] []) (lam_node (body_with 3 same_word other_word)) ≡ no 1 6
unfolding swap_name name_eq
another_answer = refl

another_clause_below : verdict_of substitution_program 1 without_capture (lam_node (body_with 9 same_word other_word)) ≡ no 6 2
unfolding swap_name name_eq
another_clause_below = refl

another_form_below : verdict_of substitution_program 1 without_capture (lam_node (body_with 3 (nodes.atom 1 [] (name (n 0 1) ∷ word 0 ∷ []) nodes.fresh) other_word)) ≡ no 9 1
unfolding swap_name name_eq
another_form_below = refl

head_below : verdict_of substitution_program 1 without_capture (lam_node (body_with 3 same_word (nodes.atom 2 [] (name (n 0 1) ∷ name (n 0 1) ∷ word 0 ∷ []) nodes.fresh))) ≡ no 10 6
unfolding swap_name name_eq
head_below = refl

-- the first refused node counts
first_node_counts : verdict_of substitution_program 1 without_capture
    (lam_node (body_with 3 (nodes.atom 1 [] (name (n 0 3) ∷ word 0 ∷ []) nodes.succeed) (nodes.atom 7 [] [] nodes.fresh))) ≡ no 8 6
unfolding swap_name name_eq
first_node_counts = refl

-- and at a node the least rule: two terms of one type are exchanged, and one is left out besides
least_rule_counts : verdict_of substitution_program 1 without_capture (lam_node (body_with 3 same_word (nodes.atom 2 [] (name (n 0 1) ∷ name (n 0 3) ∷ []) nodes.fresh))) ≡ no 10 3
unfolding swap_name name_eq
least_rule_counts = refl

-- another clause of the predicate, with another number of free variables
clause_of_another_count : verdict_of substitution_program 1 without_capture (lam_node (body_with 3 same_word (nodes.atom 1 [] (name (n 0 3) ∷ name (n 0 1) ∷ word 0 ∷ []) nodes.fresh))) ≡ no 10 3
unfolding swap_name name_eq
clause_of_another_count = refl

type_below : verdict_of substitution_program 1 without_capture (lam_node (body_with 3 same_word (nodes.atom 2 [] (word 3 ∷ name (n 0 1) ∷ word 0 ∷ []) nodes.fresh))) ≡ no 10 5
unfolding swap_name name_eq
type_below = refl
