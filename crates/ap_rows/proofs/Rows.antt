-- The worked rows: what the definitions write, to the byte, for small programs.
use Rattle.std.proofs.Common.{◌≡◌, [], ◌∷◌, refl}
use Rattle.std.specs.Prelude.{codes}
use Rattle.std.specs.Fmt.{digits}
use Rattle.ap_defs.specs.Permutations.{swap_of, swap_name, name_eq, name_before}
use Rattle.ap_defs.specs.Terms.{unit, name, pair, app, abs, susp}
use Rattle.ap_defs.specs.Unification.{unify, ending}
use Rattle.ap_defs.specs.Canonical.{canonical}
use Rattle.ap_defs.specs.Types as types
use Rattle.ap_defs.specs.Types.{NominalSignature}
use Rattle.ap_defs.specs.Goals as goals
use Rattle.ap_defs.specs.Goals.{Clauses}
use Rattle.ap_defs.specs.Lines.{program_report}
use Rattle.ap_rows.proofs.Programs.{n, v, named, brought_name, variable, some_variable, constructor, signature, clause, query, program}

-- capture-avoiding substitution in the lambda calculus
abbrev pub substitution_signature : NominalSignature
substitution_signature = signature (codes "id" ∷ []) (codes "exp" ∷ []) (constructor (codes "var") ((types.names 0) ∷ []) 0 ∷ constructor (codes "app") ((types.base 0) ∷ (types.base 0) ∷ []) 0 ∷ constructor (codes "lam") ((types.abs 0 (types.base 0)) ∷ []) 0 ∷ []) (((types.base 0) ∷ (types.names 0) ∷ (types.base 0) ∷ (types.base 0) ∷ []) ∷ [])

abbrev pub substitution_clauses : Clauses
substitution_clauses =
    (clause 0 ((app 2 (v 0)) ∷ (v 0) ∷ (v 1) ∷ (v 1) ∷ []) goals.succeed (variable (types.names 0) (codes "X") ∷ variable (types.base 0) (codes "E") ∷ [])
    ∷ clause 0 ((app 2 (v 0)) ∷ (v 1) ∷ (v 2) ∷ (app 2 (v 0)) ∷ []) (goals.fresh (v 1) (v 0)) (variable (types.names 0) (codes "Y") ∷ variable (types.names 0) (codes "X") ∷ variable (types.base 0) (codes "E") ∷ [])
    ∷ clause 0 ((app 3 (pair (v 0) (v 1))) ∷ (v 2) ∷ (v 3) ∷ (app 3 (pair (v 4) (v 5))) ∷ []) (goals.both (goals.atom 0 ((v 0) ∷ (v 2) ∷ (v 3) ∷ (v 4) ∷ [])) (goals.atom 0 ((v 1) ∷ (v 2) ∷ (v 3) ∷ (v 5) ∷ []))) (variable (types.base 0) (codes "M") ∷ variable (types.base 0) (codes "N") ∷ variable (types.names 0) (codes "X") ∷ variable (types.base 0) (codes "E") ∷ variable (types.base 0) (codes "M2") ∷ variable (types.base 0) (codes "N2") ∷ [])
    ∷ clause 0 ((app 4 (abs (n 0 0) (v 1))) ∷ (v 2) ∷ (v 3) ∷ (app 4 (abs (n 0 0) (v 4))) ∷ []) (goals.both (goals.fresh (name (n 0 0)) (v 2)) (goals.both (goals.fresh (name (n 0 0)) (v 3)) (goals.atom 0 ((v 1) ∷ (v 2) ∷ (v 3) ∷ (v 4) ∷ [])))) (named 0 (codes "y") ∷ variable (types.base 0) (codes "M") ∷ variable (types.names 0) (codes "X") ∷ variable (types.base 0) (codes "E") ∷ variable (types.base 0) (codes "M2") ∷ [])
    ∷ [])
    ∷ []

-- simple types of lambda terms
abbrev typing_signature : NominalSignature
typing_signature = signature (codes "id" ∷ []) (codes "exp" ∷ codes "ty" ∷ []) (constructor (codes "var") ((types.names 0) ∷ []) 0 ∷ constructor (codes "app") ((types.base 0) ∷ (types.base 0) ∷ []) 0 ∷ constructor (codes "lam") ((types.abs 0 (types.base 0)) ∷ []) 0 ∷ constructor (codes "o") [] 1 ∷ constructor (codes "arr") ((types.base 1) ∷ (types.base 1) ∷ []) 1 ∷ []) (((types.pair (types.names 0) (types.base 1)) ∷ (types.list (types.pair (types.names 0) (types.base 1))) ∷ []) ∷ ((types.list (types.pair (types.names 0) (types.base 1))) ∷ (types.base 0) ∷ (types.base 1) ∷ []) ∷ [])

abbrev typing_clauses : Clauses
typing_clauses =
    (clause 0 ((v 0) ∷ (app 1 (pair (v 0) (v 1))) ∷ []) goals.succeed (variable (types.pair (types.names 0) (types.base 1)) (codes "P") ∷ variable (types.list (types.pair (types.names 0) (types.base 1))) (codes "L") ∷ [])
    ∷ clause 0 ((v 0) ∷ (app 1 (pair (v 1) (v 2))) ∷ []) (goals.atom 0 ((v 0) ∷ (v 2) ∷ [])) (variable (types.pair (types.names 0) (types.base 1)) (codes "P") ∷ variable (types.pair (types.names 0) (types.base 1)) (codes "Q") ∷ variable (types.list (types.pair (types.names 0) (types.base 1))) (codes "L") ∷ [])
    ∷ [])
    ∷ (clause 1 ((v 0) ∷ (app 2 (v 1)) ∷ (v 2) ∷ []) (goals.atom 0 ((pair (v 1) (v 2)) ∷ (v 0) ∷ [])) (variable (types.list (types.pair (types.names 0) (types.base 1))) (codes "G") ∷ variable (types.names 0) (codes "X") ∷ variable (types.base 1) (codes "T") ∷ [])
    ∷ clause 1 ((v 0) ∷ (app 3 (pair (v 1) (v 2))) ∷ (v 3) ∷ []) (goals.both (goals.atom 1 ((v 0) ∷ (v 1) ∷ (app 6 (pair (v 4) (v 3))) ∷ [])) (goals.atom 1 ((v 0) ∷ (v 2) ∷ (v 4) ∷ []))) (variable (types.list (types.pair (types.names 0) (types.base 1))) (codes "G") ∷ variable (types.base 0) (codes "M") ∷ variable (types.base 0) (codes "N") ∷ variable (types.base 1) (codes "U") ∷ variable (types.base 1) (codes "T") ∷ [])
    ∷ clause 1 ((v 0) ∷ (app 4 (abs (n 0 1) (v 2))) ∷ (app 6 (pair (v 3) (v 4))) ∷ []) (goals.both (goals.fresh (name (n 0 1)) (v 0)) (goals.atom 1 ((app 1 (pair (pair (name (n 0 1)) (v 3)) (v 0))) ∷ (v 2) ∷ (v 4) ∷ []))) (variable (types.list (types.pair (types.names 0) (types.base 1))) (codes "G") ∷ named 0 (codes "x") ∷ variable (types.base 0) (codes "M") ∷ variable (types.base 1) (codes "T") ∷ variable (types.base 1) (codes "U") ∷ [])
    ∷ [])
    ∷ []

-- `?- subst(lam(b\app(var(a),var(b))), a, var(b), R).` at depth 5
capture_is_avoided : program_report (program substitution_signature substitution_clauses (query (goals.atom 0 ((app 4 (abs (n 0 0) (app 3 (pair (app 2 (name (n 0 1))) (app 2 (name (n 0 0))))))) ∷ (name (n 0 1)) ∷ (app 2 (name (n 0 0))) ∷ (v 2) ∷ [])) (named 0 (codes "b") ∷ named 0 (codes "a") ∷ variable (types.base 0) (codes "R") ∷ [])) (codes "id" ∷ codes "exp" ∷ codes "var" ∷ codes "app" ∷ codes "lam" ∷ codes "subst" ∷ codes "X" ∷ codes "E" ∷ codes "Y" ∷ codes "M" ∷ codes "N" ∷ codes "M2" ∷ codes "N2" ∷ codes "y" ∷ codes "b" ∷ codes "a" ∷ codes "R" ∷ [])) 5
    ≡ codes "R = lam(n1\\app(var(b),var(n1)))\n% query 1: 1 answers, 0 cut, 0 stuck\n"
unfolding swap_name name_eq name_before unify ending canonical digits
capture_is_avoided = refl

-- `?- subst(lam(b\app(var(a),var(b))), a, var(b), R).` at depth 2
cut_inside : program_report (program substitution_signature substitution_clauses (query (goals.atom 0 ((app 4 (abs (n 0 0) (app 3 (pair (app 2 (name (n 0 1))) (app 2 (name (n 0 0))))))) ∷ (name (n 0 1)) ∷ (app 2 (name (n 0 0))) ∷ (v 2) ∷ [])) (named 0 (codes "b") ∷ named 0 (codes "a") ∷ variable (types.base 0) (codes "R") ∷ [])) (codes "id" ∷ codes "exp" ∷ codes "var" ∷ codes "app" ∷ codes "lam" ∷ codes "subst" ∷ codes "X" ∷ codes "E" ∷ codes "Y" ∷ codes "M" ∷ codes "N" ∷ codes "M2" ∷ codes "N2" ∷ codes "y" ∷ codes "b" ∷ codes "a" ∷ codes "R" ∷ [])) 2
    ≡ codes "% cut 1\n% query 1: 0 answers, 1 cut, 0 stuck\n"
unfolding swap_name name_eq name_before unify ending canonical digits
cut_inside = refl

-- `?- subst(lam(b\app(var(a),var(b))), a, var(b), R).` at depth 0
cut_at_once : program_report (program substitution_signature substitution_clauses (query (goals.atom 0 ((app 4 (abs (n 0 0) (app 3 (pair (app 2 (name (n 0 1))) (app 2 (name (n 0 0))))))) ∷ (name (n 0 1)) ∷ (app 2 (name (n 0 0))) ∷ (v 2) ∷ [])) (named 0 (codes "b") ∷ named 0 (codes "a") ∷ variable (types.base 0) (codes "R") ∷ [])) (codes "id" ∷ codes "exp" ∷ codes "var" ∷ codes "app" ∷ codes "lam" ∷ codes "subst" ∷ codes "X" ∷ codes "E" ∷ codes "Y" ∷ codes "M" ∷ codes "N" ∷ codes "M2" ∷ codes "N2" ∷ codes "y" ∷ codes "b" ∷ codes "a" ∷ codes "R" ∷ [])) 0
    ≡ codes "% cut 1\n% query 1: 0 answers, 1 cut, 0 stuck\n"
unfolding swap_name name_eq name_before unify ending canonical digits
cut_at_once = refl

-- `?- subst(lam(y\app(var(a),var(y))), a, var(y), R).` at depth 5
capture_is_avoided_again : program_report (program substitution_signature substitution_clauses (query (goals.atom 0 ((app 4 (abs (n 0 0) (app 3 (pair (app 2 (name (n 0 1))) (app 2 (name (n 0 0))))))) ∷ (name (n 0 1)) ∷ (app 2 (name (n 0 0))) ∷ (v 2) ∷ [])) (named 0 (codes "y") ∷ named 0 (codes "a") ∷ variable (types.base 0) (codes "R") ∷ [])) (codes "id" ∷ codes "exp" ∷ codes "var" ∷ codes "app" ∷ codes "lam" ∷ codes "subst" ∷ codes "X" ∷ codes "E" ∷ codes "Y" ∷ codes "M" ∷ codes "N" ∷ codes "M2" ∷ codes "N2" ∷ codes "y" ∷ codes "a" ∷ codes "R" ∷ [])) 5
    ≡ codes "R = lam(n1\\app(var(y),var(n1)))\n% query 1: 1 answers, 0 cut, 0 stuck\n"
unfolding swap_name name_eq name_before unify ending canonical digits
capture_is_avoided_again = refl

-- `?- lam(a\lam(b\app(X,var(b)))) = lam(b\lam(a\app(var(a),X))).` at depth 5
no_common_body : program_report (program substitution_signature substitution_clauses (query (goals.equal (app 4 (abs (n 0 0) (app 4 (abs (n 0 1) (app 3 (pair (v 2) (app 2 (name (n 0 1))))))))) (app 4 (abs (n 0 1) (app 4 (abs (n 0 0) (app 3 (pair (app 2 (name (n 0 0))) (v 2)))))))) (named 0 (codes "a") ∷ named 0 (codes "b") ∷ variable (types.base 0) (codes "X") ∷ [])) (codes "id" ∷ codes "exp" ∷ codes "var" ∷ codes "app" ∷ codes "lam" ∷ codes "subst" ∷ codes "X" ∷ codes "E" ∷ codes "Y" ∷ codes "M" ∷ codes "N" ∷ codes "M2" ∷ codes "N2" ∷ codes "y" ∷ codes "a" ∷ codes "b" ∷ [])) 5
    ≡ codes "% query 1: 0 answers, 0 cut, 0 stuck\n"
unfolding swap_name name_eq name_before unify ending canonical digits
no_common_body = refl

-- `?- lam(a\X) = lam(b\Y).` at depth 5
swapped_bodies : program_report (program substitution_signature substitution_clauses (query (goals.equal (app 4 (abs (n 0 0) (v 1))) (app 4 (abs (n 0 2) (v 3)))) (named 0 (codes "a") ∷ variable (types.base 0) (codes "X") ∷ named 0 (codes "b") ∷ variable (types.base 0) (codes "Y") ∷ [])) (codes "id" ∷ codes "exp" ∷ codes "var" ∷ codes "app" ∷ codes "lam" ∷ codes "subst" ∷ codes "X" ∷ codes "E" ∷ codes "Y" ∷ codes "M" ∷ codes "N" ∷ codes "M2" ∷ codes "N2" ∷ codes "y" ∷ codes "a" ∷ codes "b" ∷ [])) 5
    ≡ codes "X = _1, Y = swap(a,b,_1) where b # _1\n% query 1: 1 answers, 0 cut, 0 stuck\n"
unfolding swap_name name_eq name_before unify ending canonical digits
swapped_bodies = refl

-- `?- lam(a\lam(b\app(X,var(b)))) = lam(b\lam(a\app(var(a),Y))).` at depth 5
bound_names : program_report (program substitution_signature substitution_clauses (query (goals.equal (app 4 (abs (n 0 0) (app 4 (abs (n 0 1) (app 3 (pair (v 2) (app 2 (name (n 0 1))))))))) (app 4 (abs (n 0 1) (app 4 (abs (n 0 0) (app 3 (pair (app 2 (name (n 0 0))) (v 3)))))))) (named 0 (codes "a") ∷ named 0 (codes "b") ∷ variable (types.base 0) (codes "X") ∷ variable (types.base 0) (codes "Y") ∷ [])) (codes "id" ∷ codes "exp" ∷ codes "var" ∷ codes "app" ∷ codes "lam" ∷ codes "subst" ∷ codes "X" ∷ codes "E" ∷ codes "Y" ∷ codes "M" ∷ codes "N" ∷ codes "M2" ∷ codes "N2" ∷ codes "y" ∷ codes "a" ∷ codes "b" ∷ [])) 5
    ≡ codes "X = var(b), Y = var(a)\n% query 1: 1 answers, 0 cut, 0 stuck\n"
unfolding swap_name name_eq name_before unify ending canonical digits
bound_names = refl

-- `?- lam(a\lam(b\app(var(b),X))) = lam(b\lam(a\app(var(a),Y))).` at depth 5
swapped_under_binders : program_report (program substitution_signature substitution_clauses (query (goals.equal (app 4 (abs (n 0 0) (app 4 (abs (n 0 1) (app 3 (pair (app 2 (name (n 0 1))) (v 2))))))) (app 4 (abs (n 0 1) (app 4 (abs (n 0 0) (app 3 (pair (app 2 (name (n 0 0))) (v 3)))))))) (named 0 (codes "a") ∷ named 0 (codes "b") ∷ variable (types.base 0) (codes "X") ∷ variable (types.base 0) (codes "Y") ∷ [])) (codes "id" ∷ codes "exp" ∷ codes "var" ∷ codes "app" ∷ codes "lam" ∷ codes "subst" ∷ codes "X" ∷ codes "E" ∷ codes "Y" ∷ codes "M" ∷ codes "N" ∷ codes "M2" ∷ codes "N2" ∷ codes "y" ∷ codes "a" ∷ codes "b" ∷ [])) 5
    ≡ codes "X = _1, Y = swap(a,b,_1)\n% query 1: 1 answers, 0 cut, 0 stuck\n"
unfolding swap_name name_eq name_before unify ending canonical digits
swapped_under_binders = refl

-- `?- lam(a\lam(b\app(var(b),X))) = lam(a\lam(a\app(var(a),Y))).` at depth 5
shadowed_binder : program_report (program substitution_signature substitution_clauses (query (goals.equal (app 4 (abs (n 0 0) (app 4 (abs (n 0 1) (app 3 (pair (app 2 (name (n 0 1))) (v 2))))))) (app 4 (abs (n 0 0) (app 4 (abs (n 0 0) (app 3 (pair (app 2 (name (n 0 0))) (v 3)))))))) (named 0 (codes "a") ∷ named 0 (codes "b") ∷ variable (types.base 0) (codes "X") ∷ variable (types.base 0) (codes "Y") ∷ [])) (codes "id" ∷ codes "exp" ∷ codes "var" ∷ codes "app" ∷ codes "lam" ∷ codes "subst" ∷ codes "X" ∷ codes "E" ∷ codes "Y" ∷ codes "M" ∷ codes "N" ∷ codes "M2" ∷ codes "N2" ∷ codes "y" ∷ codes "a" ∷ codes "b" ∷ [])) 5
    ≡ codes "X = _1, Y = swap(a,b,_1) where a # _1\n% query 1: 1 answers, 0 cut, 0 stuck\n"
unfolding swap_name name_eq name_before unify ending canonical digits
shadowed_binder = refl

-- `?- X = lam(a\X).` at depth 5
occurs_under_binder : program_report (program substitution_signature substitution_clauses (query (goals.equal (v 0) (app 4 (abs (n 0 1) (v 0)))) (variable (types.base 0) (codes "X") ∷ named 0 (codes "a") ∷ [])) (codes "id" ∷ codes "exp" ∷ codes "var" ∷ codes "app" ∷ codes "lam" ∷ codes "subst" ∷ codes "X" ∷ codes "E" ∷ codes "Y" ∷ codes "M" ∷ codes "N" ∷ codes "M2" ∷ codes "N2" ∷ codes "y" ∷ codes "a" ∷ [])) 5
    ≡ codes "% query 1: 0 answers, 0 cut, 0 stuck\n"
unfolding swap_name name_eq name_before unify ending canonical digits
occurs_under_binder = refl

-- `?- X = swap(a,b,lam(a\var(b))).` at depth 5
swapping_is_carried_out : program_report (program substitution_signature substitution_clauses (query (goals.equal (v 0) (app 4 (abs (n 0 2) (app 2 (name (n 0 1)))))) (variable (types.base 0) (codes "X") ∷ named 0 (codes "a") ∷ named 0 (codes "b") ∷ [])) (codes "id" ∷ codes "exp" ∷ codes "var" ∷ codes "app" ∷ codes "lam" ∷ codes "subst" ∷ codes "X" ∷ codes "E" ∷ codes "Y" ∷ codes "M" ∷ codes "N" ∷ codes "M2" ∷ codes "N2" ∷ codes "y" ∷ codes "a" ∷ codes "b" ∷ [])) 5
    ≡ codes "X = lam(b\\var(a))\n% query 1: 1 answers, 0 cut, 0 stuck\n"
unfolding swap_name name_eq name_before unify ending canonical digits
swapping_is_carried_out = refl

-- `?- swap(a,b,var(X)) = var(X).` at depth 5
fixed_variable : program_report (program substitution_signature substitution_clauses (query (goals.equal (app 2 (susp (swap_of (n 0 0) (n 0 1) ∷ []) (record { num = 2 }))) (app 2 (v 2))) (named 0 (codes "a") ∷ named 0 (codes "b") ∷ variable (types.names 0) (codes "X") ∷ [])) (codes "id" ∷ codes "exp" ∷ codes "var" ∷ codes "app" ∷ codes "lam" ∷ codes "subst" ∷ codes "X" ∷ codes "E" ∷ codes "Y" ∷ codes "M" ∷ codes "N" ∷ codes "M2" ∷ codes "N2" ∷ codes "y" ∷ codes "a" ∷ codes "b" ∷ [])) 5
    ≡ codes "X = _1 where a # _1, b # _1\n% query 1: 1 answers, 0 cut, 0 stuck\n"
unfolding swap_name name_eq name_before unify ending canonical digits
fixed_variable = refl

-- `?- swap(a,b,var(X)) = var(X), X = a.` at depth 5
fixed_variable_refuted : program_report (program substitution_signature substitution_clauses (query (goals.both (goals.equal (app 2 (susp (swap_of (n 0 0) (n 0 1) ∷ []) (record { num = 2 }))) (app 2 (v 2))) (goals.equal (v 2) (name (n 0 0)))) (named 0 (codes "a") ∷ named 0 (codes "b") ∷ variable (types.names 0) (codes "X") ∷ [])) (codes "id" ∷ codes "exp" ∷ codes "var" ∷ codes "app" ∷ codes "lam" ∷ codes "subst" ∷ codes "X" ∷ codes "E" ∷ codes "Y" ∷ codes "M" ∷ codes "N" ∷ codes "M2" ∷ codes "N2" ∷ codes "y" ∷ codes "a" ∷ codes "b" ∷ [])) 5
    ≡ codes "% query 1: 0 answers, 0 cut, 0 stuck\n"
unfolding swap_name name_eq name_before unify ending canonical digits
fixed_variable_refuted = refl

-- `?- swap(a,b,var(X)) = var(X), X = c.` at depth 5
fixed_variable_found : program_report (program substitution_signature substitution_clauses (query (goals.both (goals.equal (app 2 (susp (swap_of (n 0 0) (n 0 1) ∷ []) (record { num = 2 }))) (app 2 (v 2))) (goals.equal (v 2) (name (n 0 3)))) (named 0 (codes "a") ∷ named 0 (codes "b") ∷ variable (types.names 0) (codes "X") ∷ named 0 (codes "c") ∷ [])) (codes "id" ∷ codes "exp" ∷ codes "var" ∷ codes "app" ∷ codes "lam" ∷ codes "subst" ∷ codes "X" ∷ codes "E" ∷ codes "Y" ∷ codes "M" ∷ codes "N" ∷ codes "M2" ∷ codes "N2" ∷ codes "y" ∷ codes "a" ∷ codes "b" ∷ codes "c" ∷ [])) 5
    ≡ codes "X = c\n% query 1: 1 answers, 0 cut, 0 stuck\n"
unfolding swap_name name_eq name_before unify ending canonical digits
fixed_variable_found = refl

-- `?- subst(var(a), X, var(c), R).` at depth 5
stuck_branch : program_report (program substitution_signature substitution_clauses (query (goals.atom 0 ((app 2 (name (n 0 0))) ∷ (v 1) ∷ (app 2 (name (n 0 2))) ∷ (v 3) ∷ [])) (named 0 (codes "a") ∷ variable (types.names 0) (codes "X") ∷ named 0 (codes "c") ∷ variable (types.base 0) (codes "R") ∷ [])) (codes "id" ∷ codes "exp" ∷ codes "var" ∷ codes "app" ∷ codes "lam" ∷ codes "subst" ∷ codes "X" ∷ codes "E" ∷ codes "Y" ∷ codes "M" ∷ codes "N" ∷ codes "M2" ∷ codes "N2" ∷ codes "y" ∷ codes "a" ∷ codes "c" ∷ codes "R" ∷ [])) 5
    ≡ codes "X = a, R = var(c)\n% stuck 1\n% query 1: 1 answers, 0 cut, 1 stuck\n"
unfolding swap_name name_eq name_before unify ending canonical digits
stuck_branch = refl

-- `pred p. pred q. p :- q. p :- q. q :- q. ?- p.`
abbrev two_cuts_signature : NominalSignature
two_cuts_signature = signature [] [] [] ([] ∷ [] ∷ [])

abbrev two_cuts_clauses : Clauses
two_cuts_clauses =
    (clause 0 [] (goals.atom 1 []) []
    ∷ clause 0 [] (goals.atom 1 []) []
    ∷ [])
    ∷ (clause 1 [] (goals.atom 1 []) []
    ∷ [])
    ∷ []

-- `?- p.` at depth 1
two_cuts : program_report (program two_cuts_signature two_cuts_clauses (query (goals.atom 0 []) []) (codes "p" ∷ codes "q" ∷ [])) 1
    ≡ codes "% cut 2\n% query 1: 0 answers, 2 cut, 0 stuck\n"
unfolding swap_name name_eq name_before unify ending canonical digits
two_cuts = refl

-- `?- new x (lam(x\var(x)) = R).` at depth 5
new_name : program_report (program substitution_signature substitution_clauses (query (goals.new (n 0 0) (goals.equal (app 4 (abs (n 0 0) (app 2 (name (n 0 0))))) (v 1))) (brought_name 0 (codes "x") ∷ variable (types.base 0) (codes "R") ∷ [])) (codes "id" ∷ codes "exp" ∷ codes "var" ∷ codes "app" ∷ codes "lam" ∷ codes "subst" ∷ codes "X" ∷ codes "E" ∷ codes "Y" ∷ codes "M" ∷ codes "N" ∷ codes "M2" ∷ codes "N2" ∷ codes "y" ∷ codes "x" ∷ codes "R" ∷ [])) 5
    ≡ codes "R = lam(n1\\var(n1))\n% query 1: 1 answers, 0 cut, 0 stuck\n"
unfolding swap_name name_eq name_before unify ending canonical digits
new_name = refl

-- `?- new x (var(x) = R).` at depth 5
new_name_refuted : program_report (program substitution_signature substitution_clauses (query (goals.new (n 0 0) (goals.equal (app 2 (name (n 0 0))) (v 1))) (brought_name 0 (codes "x") ∷ variable (types.base 0) (codes "R") ∷ [])) (codes "id" ∷ codes "exp" ∷ codes "var" ∷ codes "app" ∷ codes "lam" ∷ codes "subst" ∷ codes "X" ∷ codes "E" ∷ codes "Y" ∷ codes "M" ∷ codes "N" ∷ codes "M2" ∷ codes "N2" ∷ codes "y" ∷ codes "x" ∷ codes "R" ∷ [])) 5
    ≡ codes "% query 1: 0 answers, 0 cut, 0 stuck\n"
unfolding swap_name name_eq name_before unify ending canonical digits
new_name_refuted = refl

-- `?- tc([], lam(a\lam(b\var(a))), T).` at depth 10
typed_pair_of_abstractions : program_report (program typing_signature typing_clauses (query (goals.atom 1 ((app 0 unit) ∷ (app 4 (abs (n 0 0) (app 4 (abs (n 0 1) (app 2 (name (n 0 0))))))) ∷ (v 2) ∷ [])) (named 0 (codes "a") ∷ named 0 (codes "b") ∷ variable (types.base 1) (codes "T") ∷ [])) (codes "id" ∷ codes "exp" ∷ codes "var" ∷ codes "app" ∷ codes "lam" ∷ codes "ty" ∷ codes "o" ∷ codes "arr" ∷ codes "mem" ∷ codes "P" ∷ codes "L" ∷ codes "Q" ∷ codes "tc" ∷ codes "G" ∷ codes "X" ∷ codes "T" ∷ codes "M" ∷ codes "N" ∷ codes "U" ∷ codes "x" ∷ codes "a" ∷ codes "b" ∷ [])) 10
    ≡ codes "T = arr(_1,arr(_2,_1))\n% query 1: 1 answers, 0 cut, 0 stuck\n"
unfolding swap_name name_eq name_before unify ending canonical digits
typed_pair_of_abstractions = refl

-- `?- tc([], lam(a\app(var(a),var(a))), T).` at depth 10
self_application : program_report (program typing_signature typing_clauses (query (goals.atom 1 ((app 0 unit) ∷ (app 4 (abs (n 0 0) (app 3 (pair (app 2 (name (n 0 0))) (app 2 (name (n 0 0))))))) ∷ (v 1) ∷ [])) (named 0 (codes "a") ∷ variable (types.base 1) (codes "T") ∷ [])) (codes "id" ∷ codes "exp" ∷ codes "var" ∷ codes "app" ∷ codes "lam" ∷ codes "ty" ∷ codes "o" ∷ codes "arr" ∷ codes "mem" ∷ codes "P" ∷ codes "L" ∷ codes "Q" ∷ codes "tc" ∷ codes "G" ∷ codes "X" ∷ codes "T" ∷ codes "M" ∷ codes "N" ∷ codes "U" ∷ codes "x" ∷ codes "a" ∷ [])) 10
    ≡ codes "% query 1: 0 answers, 0 cut, 0 stuck\n"
unfolding swap_name name_eq name_before unify ending canonical digits
self_application = refl

-- `?- a # b.` at depth 5
apart : program_report (program substitution_signature substitution_clauses (query (goals.fresh (name (n 0 0)) (name (n 0 1))) (named 0 (codes "a") ∷ named 0 (codes "b") ∷ [])) (codes "id" ∷ codes "exp" ∷ codes "var" ∷ codes "app" ∷ codes "lam" ∷ codes "subst" ∷ codes "X" ∷ codes "E" ∷ codes "Y" ∷ codes "M" ∷ codes "N" ∷ codes "M2" ∷ codes "N2" ∷ codes "y" ∷ codes "a" ∷ codes "b" ∷ [])) 5
    ≡ codes "yes\n% query 1: 1 answers, 0 cut, 0 stuck\n"
unfolding swap_name name_eq name_before unify ending canonical digits
apart = refl

-- `?- a # a.` at depth 5
not_apart : program_report (program substitution_signature substitution_clauses (query (goals.fresh (name (n 0 0)) (name (n 0 0))) (named 0 (codes "a") ∷ [])) (codes "id" ∷ codes "exp" ∷ codes "var" ∷ codes "app" ∷ codes "lam" ∷ codes "subst" ∷ codes "X" ∷ codes "E" ∷ codes "Y" ∷ codes "M" ∷ codes "N" ∷ codes "M2" ∷ codes "N2" ∷ codes "y" ∷ codes "a" ∷ [])) 5
    ≡ codes "% query 1: 0 answers, 0 cut, 0 stuck\n"
unfolding swap_name name_eq name_before unify ending canonical digits
not_apart = refl

-- `?- X = a ; X = b.` at depth 5
two_sides : program_report (program substitution_signature substitution_clauses (query (goals.either (goals.equal (v 0) (name (n 0 1))) (goals.equal (v 0) (name (n 0 2)))) (variable (types.names 0) (codes "X") ∷ named 0 (codes "a") ∷ named 0 (codes "b") ∷ [])) (codes "id" ∷ codes "exp" ∷ codes "var" ∷ codes "app" ∷ codes "lam" ∷ codes "subst" ∷ codes "X" ∷ codes "E" ∷ codes "Y" ∷ codes "M" ∷ codes "N" ∷ codes "M2" ∷ codes "N2" ∷ codes "y" ∷ codes "a" ∷ codes "b" ∷ [])) 5
    ≡ codes "X = a\nX = b\n% query 1: 2 answers, 0 cut, 0 stuck\n"
unfolding swap_name name_eq name_before unify ending canonical digits
two_sides = refl

-- `?- X = a ; X = a.` at depth 5
equal_answers : program_report (program substitution_signature substitution_clauses (query (goals.either (goals.equal (v 0) (name (n 0 1))) (goals.equal (v 0) (name (n 0 1)))) (variable (types.names 0) (codes "X") ∷ named 0 (codes "a") ∷ [])) (codes "id" ∷ codes "exp" ∷ codes "var" ∷ codes "app" ∷ codes "lam" ∷ codes "subst" ∷ codes "X" ∷ codes "E" ∷ codes "Y" ∷ codes "M" ∷ codes "N" ∷ codes "M2" ∷ codes "N2" ∷ codes "y" ∷ codes "a" ∷ [])) 5
    ≡ codes "X = a\nX = a\n% query 1: 2 answers, 0 cut, 0 stuck\n"
unfolding swap_name name_eq name_before unify ending canonical digits
equal_answers = refl

-- `?- subst(lam(n1\var(n1)), a, var(a), R).` at depth 5
generated_name_is_taken : program_report (program substitution_signature substitution_clauses (query (goals.atom 0 ((app 4 (abs (n 0 0) (app 2 (name (n 0 0))))) ∷ (name (n 0 1)) ∷ (app 2 (name (n 0 1))) ∷ (v 2) ∷ [])) (named 0 (codes "n1") ∷ named 0 (codes "a") ∷ variable (types.base 0) (codes "R") ∷ [])) (codes "id" ∷ codes "exp" ∷ codes "var" ∷ codes "app" ∷ codes "lam" ∷ codes "subst" ∷ codes "X" ∷ codes "E" ∷ codes "Y" ∷ codes "M" ∷ codes "N" ∷ codes "M2" ∷ codes "N2" ∷ codes "y" ∷ codes "n1" ∷ codes "a" ∷ codes "R" ∷ [])) 5
    ≡ codes "R = lam(n2\\var(n2))\n% query 1: 1 answers, 0 cut, 0 stuck\n"
unfolding swap_name name_eq name_before unify ending canonical digits
generated_name_is_taken = refl

-- `nat : type. z : nat. s : nat -> nat. pred p(nat). p(z). p(s(z)). ?- p(X).`
abbrev first_run_signature : NominalSignature
first_run_signature = signature [] (codes "nat" ∷ []) (constructor (codes "z") [] 0 ∷ constructor (codes "s") ((types.base 0) ∷ []) 0 ∷ []) (((types.base 0) ∷ []) ∷ [])

abbrev first_run_clauses : Clauses
first_run_clauses =
    (clause 0 ((app 2 unit) ∷ []) goals.succeed []
    ∷ clause 0 ((app 3 (app 2 unit)) ∷ []) goals.succeed []
    ∷ [])
    ∷ []

-- `?- p(X).` at depth 1
first_run : program_report (program first_run_signature first_run_clauses (query (goals.atom 0 ((v 0) ∷ [])) (variable (types.base 0) (codes "X") ∷ [])) (codes "nat" ∷ codes "z" ∷ codes "s" ∷ codes "p" ∷ codes "X" ∷ [])) 1
    ≡ codes "X = z\nX = s(z)\n% query 1: 2 answers, 0 cut, 0 stuck\n"
unfolding swap_name name_eq name_before unify ending canonical digits
first_run = refl

-- `e : type. c : e. f : e -> e. pred p(e, e). p(c, f(c)). ?- p(Y, X).`
abbrev order_of_variables_signature : NominalSignature
order_of_variables_signature = signature [] (codes "e" ∷ []) (constructor (codes "c") [] 0 ∷ constructor (codes "f") ((types.base 0) ∷ []) 0 ∷ []) (((types.base 0) ∷ (types.base 0) ∷ []) ∷ [])

abbrev order_of_variables_clauses : Clauses
order_of_variables_clauses =
    (clause 0 ((app 2 unit) ∷ (app 3 (app 2 unit)) ∷ []) goals.succeed []
    ∷ [])
    ∷ []

-- `?- p(Y, X).` at depth 1
order_of_variables : program_report (program order_of_variables_signature order_of_variables_clauses (query (goals.atom 0 ((v 0) ∷ (v 1) ∷ [])) (variable (types.base 0) (codes "Y") ∷ variable (types.base 0) (codes "X") ∷ [])) (codes "e" ∷ codes "c" ∷ codes "f" ∷ codes "p" ∷ codes "Y" ∷ codes "X" ∷ [])) 1
    ≡ codes "Y = c, X = f(c)\n% query 1: 1 answers, 0 cut, 0 stuck\n"
unfolding swap_name name_eq name_before unify ending canonical digits
order_of_variables = refl

-- `?- p(Y, X).` at depth 0
depth_zero : program_report (program order_of_variables_signature order_of_variables_clauses (query (goals.atom 0 ((v 0) ∷ (v 1) ∷ [])) (variable (types.base 0) (codes "Y") ∷ variable (types.base 0) (codes "X") ∷ [])) (codes "e" ∷ codes "c" ∷ codes "f" ∷ codes "p" ∷ codes "Y" ∷ codes "X" ∷ [])) 0
    ≡ codes "% cut 1\n% query 1: 0 answers, 1 cut, 0 stuck\n"
unfolding swap_name name_eq name_before unify ending canonical digits
depth_zero = refl

-- `e : type. c : e. pred p(e). p(X). ?- p(Y).`
abbrev unbound_variable_signature : NominalSignature
unbound_variable_signature = signature [] (codes "e" ∷ []) (constructor (codes "c") [] 0 ∷ []) (((types.base 0) ∷ []) ∷ [])

abbrev unbound_variable_clauses : Clauses
unbound_variable_clauses =
    (clause 0 ((v 0) ∷ []) goals.succeed (variable (types.base 0) (codes "X") ∷ [])
    ∷ [])
    ∷ []

-- `?- p(Y).` at depth 1
unbound_variable : program_report (program unbound_variable_signature unbound_variable_clauses (query (goals.atom 0 ((v 0) ∷ [])) (variable (types.base 0) (codes "Y") ∷ [])) (codes "e" ∷ codes "c" ∷ codes "p" ∷ codes "X" ∷ codes "Y" ∷ [])) 1
    ≡ codes "Y = _1\n% query 1: 1 answers, 0 cut, 0 stuck\n"
unfolding swap_name name_eq name_before unify ending canonical digits
unbound_variable = refl

-- `e : type. c : e. pred q([(e, e)]). q([(c,c)]). ?- q(L).`
abbrev list_of_pairs_signature : NominalSignature
list_of_pairs_signature = signature [] (codes "e" ∷ []) (constructor (codes "c") [] 0 ∷ []) (((types.list (types.pair (types.base 0) (types.base 0))) ∷ []) ∷ [])

abbrev list_of_pairs_clauses : Clauses
list_of_pairs_clauses =
    (clause 0 ((app 1 (pair (pair (app 2 unit) (app 2 unit)) (app 0 unit))) ∷ []) goals.succeed []
    ∷ [])
    ∷ []

-- `?- q(L).` at depth 1
list_of_pairs : program_report (program list_of_pairs_signature list_of_pairs_clauses (query (goals.atom 0 ((v 0) ∷ [])) (variable (types.list (types.pair (types.base 0) (types.base 0))) (codes "L") ∷ [])) (codes "e" ∷ codes "c" ∷ codes "q" ∷ codes "L" ∷ [])) 1
    ≡ codes "L = [(c,c)]\n% query 1: 1 answers, 0 cut, 0 stuck\n"
unfolding swap_name name_eq name_before unify ending canonical digits
list_of_pairs = refl

-- `id : name_type. exp : type. var : id -> exp. app : (exp, exp) -> exp. lam : id\exp -> exp. pred i(exp). i(lam(x\var(x))). ?- i(R).`
abbrev printed_binder_signature : NominalSignature
printed_binder_signature = signature (codes "id" ∷ []) (codes "exp" ∷ []) (constructor (codes "var") ((types.names 0) ∷ []) 0 ∷ constructor (codes "app") ((types.base 0) ∷ (types.base 0) ∷ []) 0 ∷ constructor (codes "lam") ((types.abs 0 (types.base 0)) ∷ []) 0 ∷ []) (((types.base 0) ∷ []) ∷ [])

abbrev printed_binder_clauses : Clauses
printed_binder_clauses =
    (clause 0 ((app 4 (abs (n 0 0) (app 2 (name (n 0 0))))) ∷ []) goals.succeed (named 0 (codes "x") ∷ [])
    ∷ [])
    ∷ []

-- `?- i(R).` at depth 5
printed_binder : program_report (program printed_binder_signature printed_binder_clauses (query (goals.atom 0 ((v 0) ∷ [])) (variable (types.base 0) (codes "R") ∷ [])) (codes "id" ∷ codes "exp" ∷ codes "var" ∷ codes "app" ∷ codes "lam" ∷ codes "i" ∷ codes "x" ∷ codes "R" ∷ [])) 5
    ≡ codes "R = lam(n1\\var(n1))\n% query 1: 1 answers, 0 cut, 0 stuck\n"
unfolding swap_name name_eq name_before unify ending canonical digits
printed_binder = refl

-- `?- exists X (X = a).` at depth 5
hidden_variable : program_report (program substitution_signature substitution_clauses (query (goals.exists (record { num = 0 }) (goals.equal (v 0) (name (n 0 1)))) (some_variable (types.names 0) (codes "X") ∷ named 0 (codes "a") ∷ [])) (codes "id" ∷ codes "exp" ∷ codes "var" ∷ codes "app" ∷ codes "lam" ∷ codes "subst" ∷ codes "X" ∷ codes "E" ∷ codes "Y" ∷ codes "M" ∷ codes "N" ∷ codes "M2" ∷ codes "N2" ∷ codes "y" ∷ codes "a" ∷ [])) 5
    ≡ codes "yes\n% query 1: 1 answers, 0 cut, 0 stuck\n"
unfolding swap_name name_eq name_before unify ending canonical digits
hidden_variable = refl
