-- Programs whose answers have conditions on names that aren't shown. The reports were worked out by hand.
use Rattle.std.proofs.Common.{◌≡◌, [], ◌∷◌, refl}
use Rattle.std.specs.Prelude.{codes}
use Rattle.std.specs.Fmt.{digits}
use Rattle.ap_defs.specs.Permutations.{swap_name, name_eq, name_before}
use Rattle.ap_defs.specs.Terms.{name, pair, app, abs}
use Rattle.ap_defs.specs.Unification.{unify, ending}
use Rattle.ap_defs.specs.Canonical.{canonical}
use Rattle.ap_defs.specs.Types as types
use Rattle.ap_defs.specs.Types.{NominalSignature}
use Rattle.ap_defs.specs.Goals as goals
use Rattle.ap_defs.specs.Goals.{Clauses, NominalQuery}
use Rattle.ap_defs.specs.Answers.{derivation_in, found, query_outs}
use Rattle.ap_defs.specs.Derivations as nodes
use Rattle.ap_defs.specs.Derivations.{NominalDerivation}
use Rattle.ap_defs.specs.Resolution as resolution
use Rattle.ap_defs.specs.Resolution.{State, solve_query}
use Rattle.ap_defs.specs.Substitution.{◌:=◌}
use Rattle.ap_defs.specs.Lines.{program_report}
use Rattle.ap_rows.proofs.Programs.{n, v, named, brought_name, variable, constructor, signature, clause, query, programs}

-- expressions: var, app and lam have the numbers 2, 3 and 4
abbrev expressions : NominalSignature
expressions =
    signature (codes "id" ∷ []) (codes "exp" ∷ [])
    (constructor (codes "var") (types.names 0 ∷ []) 0 ∷ constructor (codes "app") (types.base 0 ∷ types.base 0 ∷ []) 0
    ∷ constructor (codes "lam") (types.abs 0 (types.base 0) ∷ []) 0 ∷ [])
    []

-- `p(X) :- new c (c # X).`
abbrev brought : Clauses
brought =
    (clause 0 (v 0 ∷ []) (goals.new (n 0 1) (goals.fresh (name (n 0 1)) (v 0)))
    (variable (types.base 0) (codes "X") ∷ brought_name 0 (codes "c") ∷ []) ∷ []) ∷ []

-- `?- p(X).`
abbrev of_one : NominalQuery
of_one = query (goals.atom 0 (v 0 ∷ [])) (variable (types.base 0) (codes "X") ∷ [])

-- the answer has the condition, and its variable with its type
brought_answer : query_outs brought 1 of_one ≡ found (1 ∷ []) (record {
  binds = v 0 ∷ [];
  conds = record { name = n 0 2; var = record { num = 0 } } ∷ [];
  vars = (record { num = 0 }, types.base 0) ∷ [];
}) ∷ []
unfolding swap_name name_eq name_before unify ending canonical
brought_answer = refl

-- the state that is found, and its derivation, in which variables stand for themselves
abbrev brought_state : State
brought_state = record {
  bindings = (record { num = 1 } := v 0) ∷ [];
  conditions = record { name = n 0 2; var = record { num = 0 } } ∷ [];
  kinds = types.var (types.base 0) ∷ types.var (types.base 0) ∷ types.name 0 ∷ [];
}

abbrev brought_derivation : NominalDerivation
brought_derivation = nodes.atom 1 [] (v 1 ∷ []) (nodes.new (n 0 2) nodes.fresh)

brought_state_found : solve_query brought 1 of_one ≡ resolution.found (1 ∷ []) brought_state brought_derivation ∷ []
unfolding swap_name name_eq name_before unify ending
brought_state_found = refl

-- the answer's derivation has what stands for them, and the output's path
brought_closed : derivation_in brought_state brought_derivation ≡ nodes.atom 1 [] (v 0 ∷ []) (nodes.new (n 0 2) nodes.fresh)
unfolding swap_name name_eq name_before canonical
brought_closed = refl

brought_path : nodes.path brought_derivation ≡ 1 ∷ []
brought_path = refl

brought_report : program_report (programs expressions brought (of_one ∷ []) (codes "id" ∷ codes "exp" ∷ codes "var" ∷ codes "app" ∷ codes "lam" ∷ codes "p" ∷ codes "X" ∷ codes "c" ∷ [])) 1
    ≡ codes "X = _1\n% query 1: 1 answers, 0 cut, 0 stuck\n"
unfolding swap_name name_eq name_before unify ending canonical digits
brought_report = refl

-- `p(X) :- a # X.`
abbrev of_the_clause : Clauses
of_the_clause =
    (clause 0 (v 0 ∷ []) (goals.fresh (name (n 0 1)) (v 0)) (variable (types.base 0) (codes "X") ∷ named 0 (codes "a") ∷ []) ∷ []) ∷ []

-- `?- p(X), p(Y), X = Y.` has a condition for each of the two names of the clause.
abbrev of_two : NominalQuery
of_two =
    query (goals.both (goals.atom 0 (v 0 ∷ [])) (goals.both (goals.atom 0 (v 1 ∷ [])) (goals.equal (v 0) (v 1))))
    (variable (types.base 0) (codes "X") ∷ variable (types.base 0) (codes "Y") ∷ [])

two_answer : query_outs of_the_clause 1 of_two ≡ found (1 ∷ 1 ∷ []) (record {
  binds = v 0 ∷ v 0 ∷ [];
  conds = record { name = n 0 3; var = record { num = 0 } } ∷ record { name = n 0 5; var = record { num = 0 } } ∷ [];
  vars = (record { num = 0 }, types.base 0) ∷ [];
}) ∷ []
unfolding swap_name name_eq name_before unify ending canonical
two_answer = refl

two_report : program_report (programs expressions of_the_clause (of_two ∷ []) (codes "id" ∷ codes "exp" ∷ codes "var" ∷ codes "app" ∷ codes "lam" ∷ codes "p" ∷ codes "X" ∷ codes "a" ∷ codes "Y" ∷ [])) 1
    ≡ codes "X = _1, Y = _1\n% query 1: 1 answers, 0 cut, 0 stuck\n"
unfolding swap_name name_eq name_before unify ending canonical digits
two_report = refl

-- `?- b # X, p(X).`: of the two conditions the one on the query's name is shown.
one_of_two_report : program_report (programs expressions of_the_clause (query (goals.both (goals.fresh (name (n 0 0)) (v 1)) (goals.atom 0 (v 1 ∷ []))) (named 0 (codes "b") ∷ variable (types.base 0) (codes "X") ∷ []) ∷ []) (codes "id" ∷ codes "exp" ∷ codes "var" ∷ codes "app" ∷ codes "lam" ∷ codes "p" ∷ codes "X" ∷ codes "a" ∷ codes "b" ∷ [])) 1
    ≡ codes "X = _1 where b # _1\n% query 1: 1 answers, 0 cut, 0 stuck\n"
unfolding swap_name name_eq name_before unify ending canonical digits
one_of_two_report = refl

-- `p(lam(x\M), M) :- x # M.`
abbrev opened : Clauses
opened =
    (clause 0 (app 4 (abs (n 0 0) (v 1)) ∷ v 1 ∷ []) (goals.fresh (name (n 0 0)) (v 1)) (named 0 (codes "x") ∷ variable (types.base 0) (codes "M") ∷ []) ∷ []) ∷ []

-- `?- p(_, B).` and `?- p(A, B).`: the name is shown where its binder is.
opened_report : program_report (programs expressions opened
    (query (goals.atom 0 (v 0 ∷ v 1 ∷ [])) (variable (types.base 0) (codes "_") ∷ variable (types.base 0) (codes "B") ∷ [])
    ∷ query (goals.atom 0 (v 0 ∷ v 1 ∷ [])) (variable (types.base 0) (codes "A") ∷ variable (types.base 0) (codes "B") ∷ []) ∷ [])
    (codes "id" ∷ codes "exp" ∷ codes "var" ∷ codes "app" ∷ codes "lam" ∷ codes "p" ∷ codes "x" ∷ codes "M" ∷ codes "B" ∷ codes "A" ∷ [])) 1
    ≡ codes "B = _1\n% query 1: 1 answers, 0 cut, 0 stuck\nA = lam(n1\\_1), B = _1 where n1 # _1\n% query 2: 1 answers, 0 cut, 0 stuck\n"
unfolding swap_name name_eq name_before unify ending canonical digits
opened_report = refl

-- `p(X) :- new c (r(X, c)).` `r(var(Y), Y).` `r(app(M, N), Z).`: a condition that isn't shown refutes the first clause of r.
abbrev refuting : Clauses
refuting =
    (clause 0 (v 0 ∷ []) (goals.new (n 0 1) (goals.atom 1 (v 0 ∷ name (n 0 1) ∷ []))) (variable (types.base 0) (codes "X") ∷ brought_name 0 (codes "c") ∷ []) ∷ [])
    ∷ (clause 1 (app 2 (v 0) ∷ v 0 ∷ []) goals.succeed (variable (types.names 0) (codes "Y") ∷ [])
    ∷ clause 1 (app 3 (pair (v 0) (v 1)) ∷ v 2 ∷ []) goals.succeed
    (variable (types.base 0) (codes "M") ∷ variable (types.base 0) (codes "N") ∷ variable (types.names 0) (codes "Z") ∷ []) ∷ [])
    ∷ []

-- its parts have the condition each
refuting_answer : query_outs refuting 2 of_one ≡ found (1 ∷ 2 ∷ []) (record {
  binds = app 3 (pair (v 3) (v 4)) ∷ [];
  conds = record { name = n 0 2; var = record { num = 3 } } ∷ record { name = n 0 2; var = record { num = 4 } } ∷ [];
  vars = (record { num = 3 }, types.base 0) ∷ (record { num = 4 }, types.base 0) ∷ [];
}) ∷ []
unfolding swap_name name_eq name_before unify ending canonical
refuting_answer = refl

refuting_report : program_report (programs expressions refuting (of_one ∷ []) (codes "id" ∷ codes "exp" ∷ codes "var" ∷ codes "app" ∷ codes "lam" ∷ codes "p" ∷ codes "X" ∷ codes "c" ∷ codes "r" ∷ codes "Y" ∷ codes "M" ∷ codes "N" ∷ codes "Z" ∷ [])) 2
    ≡ codes "X = app(_1,_2)\n% query 1: 1 answers, 0 cut, 0 stuck\n"
unfolding swap_name name_eq name_before unify ending canonical digits
refuting_report = refl
