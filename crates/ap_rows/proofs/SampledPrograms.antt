-- Programs made at random, with the answers of an implementation that was written apart: the definitions write the same.
use Rattle.std.proofs.Common.{◌≡◌, [], ◌∷◌, refl}
use Rattle.std.specs.Prelude.{codes}
use Rattle.std.specs.Fmt.{digits}
use Rattle.ap_defs.specs.Permutations.{swap_of, swap_name, name_eq, name_before}
use Rattle.ap_defs.specs.Terms.{unit, name, pair, app, abs, susp}
use Rattle.ap_defs.specs.Unification.{unify, ending}
use Rattle.ap_defs.specs.Canonical.{canonical}
use Rattle.ap_defs.specs.Types as types
use Rattle.ap_defs.specs.Goals as goals
use Rattle.ap_defs.specs.Lines.{program_report}
use Rattle.ap_rows.proofs.Programs.{n, v, named, brought_name, variable, some_variable, constructor, signature, clause, query, programs}

sampled_broken_00035 : program_report (programs (signature (codes "id" ∷ codes "nm" ∷ []) (codes "exp" ∷ []) (constructor (codes "var") ((types.names 0) ∷ []) 0 ∷ constructor (codes "con") ((types.names 1) ∷ []) 0 ∷ constructor (codes "app") ((types.base 0) ∷ (types.base 0) ∷ []) 0 ∷ constructor (codes "lam") ((types.abs 0 (types.base 0)) ∷ []) 0 ∷ constructor (codes "mu") ((types.abs 1 (types.base 0)) ∷ []) 0 ∷ []) (((types.base 0) ∷ (types.names 0) ∷ (types.base 0) ∷ (types.base 0) ∷ []) ∷ ((types.base 0) ∷ (types.names 1) ∷ (types.names 1) ∷ (types.base 0) ∷ []) ∷ ((types.names 0) ∷ (types.names 1) ∷ (types.base 0) ∷ []) ∷ ((types.base 0) ∷ (types.list (types.pair (types.names 0) (types.names 1))) ∷ []) ∷ [])) ((clause 0 ((app 2 (v 0)) ∷ (v 0) ∷ (v 1) ∷ (v 1) ∷ []) goals.succeed (variable (types.names 0) (codes "X") ∷ variable (types.base 0) (codes "E") ∷ []) ∷ clause 0 ((app 2 (v 0)) ∷ (v 1) ∷ (v 2) ∷ (app 2 (v 0)) ∷ []) (goals.fresh (v 0) (v 1)) (variable (types.names 0) (codes "Y") ∷ variable (types.names 0) (codes "X") ∷ variable (types.base 0) (codes "E") ∷ []) ∷ clause 0 ((app 3 (v 0)) ∷ (v 1) ∷ (v 2) ∷ (app 3 (v 0)) ∷ []) goals.succeed (variable (types.names 1) (codes "C") ∷ variable (types.names 0) (codes "X") ∷ variable (types.base 0) (codes "E") ∷ []) ∷ clause 0 ((app 4 (pair (v 0) (v 1))) ∷ (v 2) ∷ (v 3) ∷ (app 4 (pair (v 4) (v 5))) ∷ []) (goals.both (goals.atom 0 ((v 0) ∷ (v 2) ∷ (v 3) ∷ (v 4) ∷ [])) (goals.atom 0 ((v 1) ∷ (v 2) ∷ (v 3) ∷ (v 5) ∷ []))) (variable (types.base 0) (codes "M") ∷ variable (types.base 0) (codes "N") ∷ variable (types.names 0) (codes "X") ∷ variable (types.base 0) (codes "E") ∷ variable (types.base 0) (codes "M2") ∷ variable (types.base 0) (codes "N2") ∷ []) ∷ clause 0 ((app 5 (abs (n 0 0) (v 1))) ∷ (v 2) ∷ (v 3) ∷ (app 5 (abs (n 0 0) (v 4))) ∷ []) (goals.both (goals.fresh (name (n 0 0)) (v 2)) (goals.both (goals.fresh (name (n 0 0)) (v 3)) (goals.atom 0 ((v 1) ∷ (v 2) ∷ (v 3) ∷ (v 4) ∷ [])))) (named 0 (codes "y") ∷ variable (types.base 0) (codes "M") ∷ variable (types.names 0) (codes "X") ∷ variable (types.base 0) (codes "E") ∷ variable (types.base 0) (codes "M2") ∷ []) ∷ clause 0 ((app 6 (abs (n 1 0) (v 1))) ∷ (v 2) ∷ (v 3) ∷ (app 6 (abs (n 1 0) (v 4))) ∷ []) (goals.both (goals.fresh (name (n 1 0)) (v 3)) (goals.atom 0 ((v 1) ∷ (v 2) ∷ (v 3) ∷ (v 4) ∷ []))) (named 1 (codes "k") ∷ variable (types.base 0) (codes "M") ∷ variable (types.names 0) (codes "X") ∷ variable (types.base 0) (codes "E") ∷ variable (types.base 0) (codes "M2") ∷ []) ∷ []) ∷ (clause 1 ((app 3 (v 0)) ∷ (v 0) ∷ (v 1) ∷ (app 3 (v 1)) ∷ []) goals.succeed (variable (types.names 1) (codes "C") ∷ variable (types.names 1) (codes "D") ∷ []) ∷ clause 1 ((app 3 (v 0)) ∷ (v 1) ∷ (v 2) ∷ (app 3 (v 0)) ∷ []) (goals.fresh (v 0) (v 1)) (variable (types.names 1) (codes "E") ∷ variable (types.names 1) (codes "C") ∷ variable (types.names 1) (codes "D") ∷ []) ∷ clause 1 ((app 2 (v 0)) ∷ (v 1) ∷ (v 2) ∷ (app 2 (v 0)) ∷ []) goals.succeed (variable (types.names 0) (codes "X") ∷ variable (types.names 1) (codes "C") ∷ variable (types.names 1) (codes "D") ∷ []) ∷ clause 1 ((app 6 (abs (n 1 0) (v 1))) ∷ (v 2) ∷ (v 3) ∷ (app 6 (abs (n 1 0) (v 4))) ∷ []) (goals.both (goals.fresh (name (n 1 0)) (v 2)) (goals.both (goals.fresh (name (n 1 0)) (v 3)) (goals.atom 1 ((v 1) ∷ (v 2) ∷ (v 3) ∷ (v 4) ∷ [])))) (named 1 (codes "k") ∷ variable (types.base 0) (codes "M") ∷ variable (types.names 1) (codes "C") ∷ variable (types.names 1) (codes "D") ∷ variable (types.base 0) (codes "N") ∷ []) ∷ clause 1 ((app 5 (abs (n 0 0) (v 1))) ∷ (v 2) ∷ (v 3) ∷ (app 5 (abs (n 0 0) (v 4))) ∷ []) (goals.atom 1 ((v 1) ∷ (v 2) ∷ (v 3) ∷ (v 4) ∷ [])) (named 0 (codes "y") ∷ variable (types.base 0) (codes "M") ∷ variable (types.names 1) (codes "C") ∷ variable (types.names 1) (codes "D") ∷ variable (types.base 0) (codes "N") ∷ []) ∷ []) ∷ (clause 2 ((v 0) ∷ (v 1) ∷ (v 2) ∷ []) (goals.both (goals.fresh (v 0) (v 2)) (goals.fresh (v 1) (v 2))) (variable (types.names 0) (codes "X") ∷ variable (types.names 1) (codes "C") ∷ variable (types.base 0) (codes "M") ∷ []) ∷ clause 2 ((v 0) ∷ (v 1) ∷ (v 2) ∷ []) (goals.exists (record { num = 3 }) (goals.both (goals.equal (v 2) (app 4 (pair (v 3) (v 3)))) (goals.either (goals.fresh (v 0) (v 3)) (goals.fresh (v 1) (v 3))))) (variable (types.names 0) (codes "X") ∷ variable (types.names 1) (codes "C") ∷ variable (types.base 0) (codes "M") ∷ some_variable (types.base 0) (codes "N") ∷ []) ∷ []) ∷ (clause 3 ((v 0) ∷ (app 0 unit) ∷ []) goals.succeed (variable (types.base 0) (codes "M") ∷ []) ∷ clause 3 ((app 5 (abs (n 0 0) (v 1))) ∷ (app 1 (pair (pair (v 2) (v 3)) (v 4))) ∷ []) (goals.both (goals.fresh (name (n 0 0)) (v 4)) (goals.both (goals.fresh (name (n 0 0)) (v 2)) (goals.new (n 1 5) (goals.both (goals.equal (app 6 (abs (n 1 5) (v 1))) (app 6 (abs (n 1 5) (v 1)))) (goals.atom 3 ((v 1) ∷ (v 4) ∷ [])))))) (named 0 (codes "x") ∷ variable (types.base 0) (codes "M") ∷ variable (types.names 0) (codes "Y") ∷ variable (types.names 1) (codes "C") ∷ variable (types.list (types.pair (types.names 0) (types.names 1))) (codes "L") ∷ brought_name 1 (codes "k") ∷ []) ∷ []) ∷ []) (query (goals.atom 1 ((v 0) ∷ (v 1) ∷ (name (n 1 2)) ∷ (app 5 (abs (n 0 3) (app 3 (name (n 1 4))))) ∷ [])) (variable (types.base 0) (codes "X") ∷ variable (types.names 1) (codes "Y") ∷ named 1 (codes "k") ∷ named 0 (codes "b") ∷ named 1 (codes "m") ∷ []) ∷ query (goals.both (goals.either (goals.both (goals.equal (v 0) (app 3 (name (n 1 1)))) (goals.atom 2 ((name (n 0 2)) ∷ (name (n 1 3)) ∷ (app 6 (abs (n 1 3) (v 4))) ∷ []))) (goals.atom 1 ((app 5 (abs (n 0 5) (v 0))) ∷ (name (n 1 1)) ∷ (name (n 1 3)) ∷ (app 2 (name (n 0 2))) ∷ []))) (goals.new (n 1 7) (goals.atom 1 ((app 3 (name (n 1 7))) ∷ (name (n 1 6)) ∷ (name (n 1 6)) ∷ (app 2 (name (n 0 5))) ∷ [])))) (variable (types.base 0) (codes "X") ∷ named 1 (codes "k") ∷ named 0 (codes "b") ∷ named 1 (codes "m") ∷ variable (types.base 0) (codes "Y") ∷ named 0 (codes "a") ∷ named 1 (codes "n2") ∷ brought_name 1 (codes "m") ∷ []) ∷ []) (codes "id" ∷ codes "nm" ∷ codes "exp" ∷ codes "var" ∷ codes "con" ∷ codes "app" ∷ codes "lam" ∷ codes "mu" ∷ codes "sub" ∷ codes "X" ∷ codes "E" ∷ codes "Y" ∷ codes "C" ∷ codes "M" ∷ codes "N" ∷ codes "M2" ∷ codes "N2" ∷ codes "y" ∷ codes "k" ∷ codes "ren" ∷ codes "D" ∷ codes "fresh2" ∷ codes "gen" ∷ codes "x" ∷ codes "L" ∷ codes "b" ∷ codes "m" ∷ codes "a" ∷ codes "n2" ∷ [])) 1
    ≡ codes "% cut 1\n% query 1: 0 answers, 1 cut, 0 stuck\n% query 2: 0 answers, 0 cut, 0 stuck\n"
unfolding swap_name name_eq name_before unify ending canonical digits
sampled_broken_00035 = refl

sampled_deep_00000 : program_report (programs (signature (codes "id" ∷ []) [] [] []) [] (query (goals.equal (v 0) (name (n 0 2))) (variable (types.names 0) (codes "X") ∷ named 0 (codes "a") ∷ named 0 (codes "b") ∷ []) ∷ []) (codes "id" ∷ codes "X" ∷ codes "a" ∷ codes "b" ∷ [])) 1
    ≡ codes "X = b\n% query 1: 1 answers, 0 cut, 0 stuck\n"
unfolding swap_name name_eq name_before unify ending canonical digits
sampled_deep_00000 = refl

sampled_deep_00002 : program_report (programs (signature (codes "id" ∷ []) [] [] []) [] (query (goals.equal (v 0) (abs (n 0 1) (abs (n 0 1) (abs (n 0 1) (abs (n 0 1) (abs (n 0 1) (abs (n 0 1) (abs (n 0 1) (abs (n 0 1) (abs (n 0 1) (abs (n 0 1) (abs (n 0 1) (abs (n 0 1) (abs (n 0 1) (abs (n 0 1) (abs (n 0 1) (abs (n 0 1) (abs (n 0 1) (abs (n 0 1) (abs (n 0 1) (abs (n 0 1) (abs (n 0 1) (abs (n 0 1) (abs (n 0 1) (abs (n 0 1) (abs (n 0 1) (abs (n 0 1) (abs (n 0 1) (abs (n 0 1) (abs (n 0 1) (abs (n 0 1) (abs (n 0 1) (abs (n 0 1) (abs (n 0 1) (abs (n 0 1) (abs (n 0 1) (abs (n 0 1) (abs (n 0 1) (abs (n 0 1) (abs (n 0 1) (abs (n 0 1) (abs (n 0 1) (abs (n 0 1) (abs (n 0 1) (abs (n 0 1) (abs (n 0 1) (abs (n 0 1) (abs (n 0 1) (abs (n 0 1) (abs (n 0 1) (abs (n 0 1) (abs (n 0 1) (abs (n 0 1) (abs (n 0 1) (abs (n 0 1) (abs (n 0 1) (abs (n 0 1) (abs (n 0 1) (abs (n 0 1) (abs (n 0 1) (abs (n 0 1) (abs (n 0 1) (abs (n 0 1) (abs (n 0 1) (abs (n 0 1) (abs (n 0 1) (abs (n 0 1) (abs (n 0 1) (abs (n 0 1) (abs (n 0 1) (abs (n 0 1) (abs (n 0 1) (abs (n 0 1) (abs (n 0 1) (abs (n 0 1) (abs (n 0 1) (abs (n 0 1) (abs (n 0 1) (abs (n 0 1) (abs (n 0 1) (abs (n 0 1) (abs (n 0 1) (abs (n 0 1) (abs (n 0 1) (abs (n 0 1) (abs (n 0 1) (abs (n 0 1) (abs (n 0 1) (abs (n 0 1) (abs (n 0 1) (abs (n 0 1) (abs (n 0 1) (abs (n 0 1) (abs (n 0 1) (abs (n 0 1) (abs (n 0 1) (abs (n 0 1) (abs (n 0 1) (abs (n 0 1) (abs (n 0 1) (abs (n 0 1) (abs (n 0 1) (abs (n 0 1) (abs (n 0 1) (abs (n 0 1) (abs (n 0 1) (abs (n 0 1) (abs (n 0 1) (abs (n 0 1) (abs (n 0 1) (abs (n 0 1) (abs (n 0 1) (abs (n 0 1) (abs (n 0 1) (abs (n 0 1) (abs (n 0 1) (abs (n 0 1) (abs (n 0 1) (abs (n 0 1) (abs (n 0 1) (abs (n 0 1) (abs (n 0 1) (abs (n 0 1) (abs (n 0 1) (abs (n 0 1) (abs (n 0 1) (abs (n 0 1) (abs (n 0 1) unit)))))))))))))))))))))))))))))))))))))))))))))))))))))))))))))))))))))))))))))))))))))))))))))))))))))))))))))))))))))))))))))))) (variable (types.abs 0 (types.abs 0 (types.abs 0 (types.abs 0 (types.abs 0 (types.abs 0 (types.abs 0 (types.abs 0 (types.abs 0 (types.abs 0 (types.abs 0 (types.abs 0 (types.abs 0 (types.abs 0 (types.abs 0 (types.abs 0 (types.abs 0 (types.abs 0 (types.abs 0 (types.abs 0 (types.abs 0 (types.abs 0 (types.abs 0 (types.abs 0 (types.abs 0 (types.abs 0 (types.abs 0 (types.abs 0 (types.abs 0 (types.abs 0 (types.abs 0 (types.abs 0 (types.abs 0 (types.abs 0 (types.abs 0 (types.abs 0 (types.abs 0 (types.abs 0 (types.abs 0 (types.abs 0 (types.abs 0 (types.abs 0 (types.abs 0 (types.abs 0 (types.abs 0 (types.abs 0 (types.abs 0 (types.abs 0 (types.abs 0 (types.abs 0 (types.abs 0 (types.abs 0 (types.abs 0 (types.abs 0 (types.abs 0 (types.abs 0 (types.abs 0 (types.abs 0 (types.abs 0 (types.abs 0 (types.abs 0 (types.abs 0 (types.abs 0 (types.abs 0 (types.abs 0 (types.abs 0 (types.abs 0 (types.abs 0 (types.abs 0 (types.abs 0 (types.abs 0 (types.abs 0 (types.abs 0 (types.abs 0 (types.abs 0 (types.abs 0 (types.abs 0 (types.abs 0 (types.abs 0 (types.abs 0 (types.abs 0 (types.abs 0 (types.abs 0 (types.abs 0 (types.abs 0 (types.abs 0 (types.abs 0 (types.abs 0 (types.abs 0 (types.abs 0 (types.abs 0 (types.abs 0 (types.abs 0 (types.abs 0 (types.abs 0 (types.abs 0 (types.abs 0 (types.abs 0 (types.abs 0 (types.abs 0 (types.abs 0 (types.abs 0 (types.abs 0 (types.abs 0 (types.abs 0 (types.abs 0 (types.abs 0 (types.abs 0 (types.abs 0 (types.abs 0 (types.abs 0 (types.abs 0 (types.abs 0 (types.abs 0 (types.abs 0 (types.abs 0 (types.abs 0 (types.abs 0 (types.abs 0 (types.abs 0 (types.abs 0 (types.abs 0 (types.abs 0 (types.abs 0 (types.abs 0 (types.abs 0 (types.abs 0 types.unit))))))))))))))))))))))))))))))))))))))))))))))))))))))))))))))))))))))))))))))))))))))))))))))))))))))))))))))))))))))))))))))) (codes "X") ∷ named 0 (codes "a") ∷ []) ∷ []) (codes "id" ∷ codes "X" ∷ codes "a" ∷ [])) 0
    ≡ codes "X = a\\a\\a\\a\\a\\a\\a\\a\\a\\a\\a\\a\\a\\a\\a\\a\\a\\a\\a\\a\\a\\a\\a\\a\\a\\a\\a\\a\\a\\a\\a\\a\\a\\a\\a\\a\\a\\a\\a\\a\\a\\a\\a\\a\\a\\a\\a\\a\\a\\a\\a\\a\\a\\a\\a\\a\\a\\a\\a\\a\\a\\a\\a\\a\\a\\a\\a\\a\\a\\a\\a\\a\\a\\a\\a\\a\\a\\a\\a\\a\\a\\a\\a\\a\\a\\a\\a\\a\\a\\a\\a\\a\\a\\a\\a\\a\\a\\a\\a\\a\\a\\a\\a\\a\\a\\a\\a\\a\\a\\a\\a\\a\\a\\a\\a\\a\\a\\a\\a\\a\\a\\a\\a\\a\\a\\a\\a\\()\n% query 1: 1 answers, 0 cut, 0 stuck\n"
unfolding swap_name name_eq name_before unify ending canonical digits
sampled_deep_00002 = refl

sampled_deep_00004 : program_report (programs (signature (codes "id" ∷ []) [] [] []) [] (query (goals.equal (v 0) (app 1 (pair (abs (n 0 1) (name (n 0 2))) (app 1 (pair (abs (n 0 1) (name (n 0 2))) (app 1 (pair (abs (n 0 1) (name (n 0 2))) (app 1 (pair (abs (n 0 1) (name (n 0 2))) (app 1 (pair (abs (n 0 1) (name (n 0 2))) (app 1 (pair (abs (n 0 1) (name (n 0 2))) (app 1 (pair (abs (n 0 1) (name (n 0 2))) (app 1 (pair (abs (n 0 1) (name (n 0 2))) (app 1 (pair (abs (n 0 1) (name (n 0 2))) (app 1 (pair (abs (n 0 1) (name (n 0 2))) (app 1 (pair (abs (n 0 1) (name (n 0 2))) (app 1 (pair (abs (n 0 1) (name (n 0 2))) (app 1 (pair (abs (n 0 1) (name (n 0 2))) (app 1 (pair (abs (n 0 1) (name (n 0 2))) (app 1 (pair (abs (n 0 1) (name (n 0 2))) (app 1 (pair (abs (n 0 1) (name (n 0 2))) (app 1 (pair (abs (n 0 1) (name (n 0 2))) (app 1 (pair (abs (n 0 1) (name (n 0 2))) (app 1 (pair (abs (n 0 1) (name (n 0 2))) (app 1 (pair (abs (n 0 1) (name (n 0 2))) (app 1 (pair (abs (n 0 1) (name (n 0 2))) (app 1 (pair (abs (n 0 1) (name (n 0 2))) (app 1 (pair (abs (n 0 1) (name (n 0 2))) (app 1 (pair (abs (n 0 1) (name (n 0 2))) (app 1 (pair (abs (n 0 1) (name (n 0 2))) (app 1 (pair (abs (n 0 1) (name (n 0 2))) (app 1 (pair (abs (n 0 1) (name (n 0 2))) (app 1 (pair (abs (n 0 1) (name (n 0 2))) (app 1 (pair (abs (n 0 1) (name (n 0 2))) (app 1 (pair (abs (n 0 1) (name (n 0 2))) (app 1 (pair (abs (n 0 1) (name (n 0 2))) (app 1 (pair (abs (n 0 1) (name (n 0 2))) (app 1 (pair (abs (n 0 1) (name (n 0 2))) (app 1 (pair (abs (n 0 1) (name (n 0 2))) (app 1 (pair (abs (n 0 1) (name (n 0 2))) (app 1 (pair (abs (n 0 1) (name (n 0 2))) (app 1 (pair (abs (n 0 1) (name (n 0 2))) (app 1 (pair (abs (n 0 1) (name (n 0 2))) (app 1 (pair (abs (n 0 1) (name (n 0 2))) (app 1 (pair (abs (n 0 1) (name (n 0 2))) (app 1 (pair (abs (n 0 1) (name (n 0 2))) (app 1 (pair (abs (n 0 1) (name (n 0 2))) (app 1 (pair (abs (n 0 1) (name (n 0 2))) (app 1 (pair (abs (n 0 1) (name (n 0 2))) (app 1 (pair (abs (n 0 1) (name (n 0 2))) (app 1 (pair (abs (n 0 1) (name (n 0 2))) (app 1 (pair (abs (n 0 1) (name (n 0 2))) (app 1 (pair (abs (n 0 1) (name (n 0 2))) (app 1 (pair (abs (n 0 1) (name (n 0 2))) (app 1 (pair (abs (n 0 1) (name (n 0 2))) (app 1 (pair (abs (n 0 1) (name (n 0 2))) (app 1 (pair (abs (n 0 1) (name (n 0 2))) (app 1 (pair (abs (n 0 1) (name (n 0 2))) (app 1 (pair (abs (n 0 1) (name (n 0 2))) (app 1 (pair (abs (n 0 1) (name (n 0 2))) (app 1 (pair (abs (n 0 1) (name (n 0 2))) (app 1 (pair (abs (n 0 1) (name (n 0 2))) (app 1 (pair (abs (n 0 1) (name (n 0 2))) (app 1 (pair (abs (n 0 1) (name (n 0 2))) (app 1 (pair (abs (n 0 1) (name (n 0 2))) (app 1 (pair (abs (n 0 1) (name (n 0 2))) (app 1 (pair (abs (n 0 1) (name (n 0 2))) (app 1 (pair (abs (n 0 1) (name (n 0 2))) (app 1 (pair (abs (n 0 1) (name (n 0 2))) (app 1 (pair (abs (n 0 1) (name (n 0 2))) (app 1 (pair (abs (n 0 1) (name (n 0 2))) (app 1 (pair (abs (n 0 1) (name (n 0 2))) (app 1 (pair (abs (n 0 1) (name (n 0 2))) (app 1 (pair (abs (n 0 1) (name (n 0 2))) (app 1 (pair (abs (n 0 1) (name (n 0 2))) (app 1 (pair (abs (n 0 1) (name (n 0 2))) (app 1 (pair (abs (n 0 1) (name (n 0 2))) (app 1 (pair (abs (n 0 1) (name (n 0 2))) (app 1 (pair (abs (n 0 1) (name (n 0 2))) (app 1 (pair (abs (n 0 1) (name (n 0 2))) (app 1 (pair (abs (n 0 1) (name (n 0 2))) (app 1 (pair (abs (n 0 1) (name (n 0 2))) (app 1 (pair (abs (n 0 1) (name (n 0 2))) (app 1 (pair (abs (n 0 1) (name (n 0 2))) (app 1 (pair (abs (n 0 1) (name (n 0 2))) (app 1 (pair (abs (n 0 1) (name (n 0 2))) (app 1 (pair (abs (n 0 1) (name (n 0 2))) (app 1 (pair (abs (n 0 1) (name (n 0 2))) (app 1 (pair (abs (n 0 1) (name (n 0 2))) (app 1 (pair (abs (n 0 1) (name (n 0 2))) (app 1 (pair (abs (n 0 1) (name (n 0 2))) (app 1 (pair (abs (n 0 1) (name (n 0 2))) (app 1 (pair (abs (n 0 1) (name (n 0 2))) (app 1 (pair (abs (n 0 1) (name (n 0 2))) (app 1 (pair (abs (n 0 1) (name (n 0 2))) (app 1 (pair (abs (n 0 1) (name (n 0 2))) (app 1 (pair (abs (n 0 1) (name (n 0 2))) (app 1 (pair (abs (n 0 1) (name (n 0 2))) (app 1 (pair (abs (n 0 1) (name (n 0 2))) (app 1 (pair (abs (n 0 1) (name (n 0 2))) (app 1 (pair (abs (n 0 1) (name (n 0 2))) (app 1 (pair (abs (n 0 1) (name (n 0 2))) (app 1 (pair (abs (n 0 1) (name (n 0 2))) (app 1 (pair (abs (n 0 1) (name (n 0 2))) (app 1 (pair (abs (n 0 1) (name (n 0 2))) (app 1 (pair (abs (n 0 1) (name (n 0 2))) (app 1 (pair (abs (n 0 1) (name (n 0 2))) (app 1 (pair (abs (n 0 1) (name (n 0 2))) (app 1 (pair (abs (n 0 1) (name (n 0 2))) (app 1 (pair (abs (n 0 1) (name (n 0 2))) (app 1 (pair (abs (n 0 1) (name (n 0 2))) (app 1 (pair (abs (n 0 1) (name (n 0 2))) (app 1 (pair (abs (n 0 1) (name (n 0 2))) (app 1 (pair (abs (n 0 1) (name (n 0 2))) (app 1 (pair (abs (n 0 1) (name (n 0 2))) (app 1 (pair (abs (n 0 1) (name (n 0 2))) (app 1 (pair (abs (n 0 1) (name (n 0 2))) (app 1 (pair (abs (n 0 1) (name (n 0 2))) (app 1 (pair (abs (n 0 1) (name (n 0 2))) (app 1 (pair (abs (n 0 1) (name (n 0 2))) (app 1 (pair (abs (n 0 1) (name (n 0 2))) (app 1 (pair (abs (n 0 1) (name (n 0 2))) (app 1 (pair (abs (n 0 1) (name (n 0 2))) (app 1 (pair (abs (n 0 1) (name (n 0 2))) (app 1 (pair (abs (n 0 1) (name (n 0 2))) (app 1 (pair (abs (n 0 1) (name (n 0 2))) (app 1 (pair (abs (n 0 1) (name (n 0 2))) (app 1 (pair (abs (n 0 1) (name (n 0 2))) (app 1 (pair (abs (n 0 1) (name (n 0 2))) (app 1 (pair (abs (n 0 1) (name (n 0 2))) (app 1 (pair (abs (n 0 1) (name (n 0 2))) (app 1 (pair (abs (n 0 1) (name (n 0 2))) (app 1 (pair (abs (n 0 1) (name (n 0 2))) (app 1 (pair (abs (n 0 1) (name (n 0 2))) (app 1 (pair (abs (n 0 1) (name (n 0 2))) (app 1 (pair (abs (n 0 1) (name (n 0 2))) (app 1 (pair (abs (n 0 1) (name (n 0 2))) (app 1 (pair (abs (n 0 1) (name (n 0 2))) (app 1 (pair (abs (n 0 1) (name (n 0 2))) (app 1 (pair (abs (n 0 1) (name (n 0 2))) (app 1 (pair (abs (n 0 1) (name (n 0 2))) (app 1 (pair (abs (n 0 1) (name (n 0 2))) (app 1 (pair (abs (n 0 1) (name (n 0 2))) (app 1 (pair (abs (n 0 1) (name (n 0 2))) (app 1 (pair (abs (n 0 1) (name (n 0 2))) (app 1 (pair (abs (n 0 1) (name (n 0 2))) (app 1 (pair (abs (n 0 1) (name (n 0 2))) (app 1 (pair (abs (n 0 1) (name (n 0 2))) (app 1 (pair (abs (n 0 1) (name (n 0 2))) (app 1 (pair (abs (n 0 1) (name (n 0 2))) (app 1 (pair (abs (n 0 1) (name (n 0 2))) (app 1 (pair (abs (n 0 1) (name (n 0 2))) (app 1 (pair (abs (n 0 1) (name (n 0 2))) (app 1 (pair (abs (n 0 1) (name (n 0 2))) (app 1 (pair (abs (n 0 1) (name (n 0 2))) (app 1 (pair (abs (n 0 1) (name (n 0 2))) (app 1 (pair (abs (n 0 1) (name (n 0 2))) (app 1 (pair (abs (n 0 1) (name (n 0 2))) (app 1 (pair (abs (n 0 1) (name (n 0 2))) (app 1 (pair (abs (n 0 1) (name (n 0 2))) (app 1 (pair (abs (n 0 1) (name (n 0 2))) (app 1 (pair (abs (n 0 1) (name (n 0 2))) (app 1 (pair (abs (n 0 1) (name (n 0 2))) (app 1 (pair (abs (n 0 1) (name (n 0 2))) (app 1 (pair (abs (n 0 1) (name (n 0 2))) (app 1 (pair (abs (n 0 1) (name (n 0 2))) (app 1 (pair (abs (n 0 1) (name (n 0 2))) (app 1 (pair (abs (n 0 1) (name (n 0 2))) (app 1 (pair (abs (n 0 1) (name (n 0 2))) (app 1 (pair (abs (n 0 1) (name (n 0 2))) (app 1 (pair (abs (n 0 1) (name (n 0 2))) (app 1 (pair (abs (n 0 1) (name (n 0 2))) (app 1 (pair (abs (n 0 1) (name (n 0 2))) (app 1 (pair (abs (n 0 1) (name (n 0 2))) (app 1 (pair (abs (n 0 1) (name (n 0 2))) (app 1 (pair (abs (n 0 1) (name (n 0 2))) (app 1 (pair (abs (n 0 1) (name (n 0 2))) (app 1 (pair (abs (n 0 1) (name (n 0 2))) (app 1 (pair (abs (n 0 1) (name (n 0 2))) (app 1 (pair (abs (n 0 1) (name (n 0 2))) (app 1 (pair (abs (n 0 1) (name (n 0 2))) (app 1 (pair (abs (n 0 1) (name (n 0 2))) (app 1 (pair (abs (n 0 1) (name (n 0 2))) (app 1 (pair (abs (n 0 1) (name (n 0 2))) (app 1 (pair (abs (n 0 1) (name (n 0 2))) (app 1 (pair (abs (n 0 1) (name (n 0 2))) (app 1 (pair (abs (n 0 1) (name (n 0 2))) (app 1 (pair (abs (n 0 1) (name (n 0 2))) (app 1 (pair (abs (n 0 1) (name (n 0 2))) (app 1 (pair (abs (n 0 1) (name (n 0 2))) (app 1 (pair (abs (n 0 1) (name (n 0 2))) (app 1 (pair (abs (n 0 1) (name (n 0 2))) (app 1 (pair (abs (n 0 1) (name (n 0 2))) (app 1 (pair (abs (n 0 1) (name (n 0 2))) (app 1 (pair (abs (n 0 1) (name (n 0 2))) (app 1 (pair (abs (n 0 1) (name (n 0 2))) (app 1 (pair (abs (n 0 1) (name (n 0 2))) (app 1 (pair (abs (n 0 1) (name (n 0 2))) (app 1 (pair (abs (n 0 1) (name (n 0 2))) (app 1 (pair (abs (n 0 1) (name (n 0 2))) (app 1 (pair (abs (n 0 1) (name (n 0 2))) (app 1 (pair (abs (n 0 1) (name (n 0 2))) (app 1 (pair (abs (n 0 1) (name (n 0 2))) (app 1 (pair (abs (n 0 1) (name (n 0 2))) (app 1 (pair (abs (n 0 1) (name (n 0 2))) (app 1 (pair (abs (n 0 1) (name (n 0 2))) (app 1 (pair (abs (n 0 1) (name (n 0 2))) (app 1 (pair (abs (n 0 1) (name (n 0 2))) (app 1 (pair (abs (n 0 1) (name (n 0 2))) (app 1 (pair (abs (n 0 1) (name (n 0 2))) (app 1 (pair (abs (n 0 1) (name (n 0 2))) (app 1 (pair (abs (n 0 1) (name (n 0 2))) (app 1 (pair (abs (n 0 1) (name (n 0 2))) (app 1 (pair (abs (n 0 1) (name (n 0 2))) (app 1 (pair (abs (n 0 1) (name (n 0 2))) (app 1 (pair (abs (n 0 1) (name (n 0 2))) (app 1 (pair (abs (n 0 1) (name (n 0 2))) (app 1 (pair (abs (n 0 1) (name (n 0 2))) (app 1 (pair (abs (n 0 1) (name (n 0 2))) (app 1 (pair (abs (n 0 1) (name (n 0 2))) (app 1 (pair (abs (n 0 1) (name (n 0 2))) (app 1 (pair (abs (n 0 1) (name (n 0 2))) (app 1 (pair (abs (n 0 1) (name (n 0 2))) (app 1 (pair (abs (n 0 1) (name (n 0 2))) (app 1 (pair (abs (n 0 1) (name (n 0 2))) (app 1 (pair (abs (n 0 1) (name (n 0 2))) (app 1 (pair (abs (n 0 1) (name (n 0 2))) (app 1 (pair (abs (n 0 1) (name (n 0 2))) (app 1 (pair (abs (n 0 1) (name (n 0 2))) (app 1 (pair (abs (n 0 1) (name (n 0 2))) (app 1 (pair (abs (n 0 1) (name (n 0 2))) (app 1 (pair (abs (n 0 1) (name (n 0 2))) (app 1 (pair (abs (n 0 1) (name (n 0 2))) (app 1 (pair (abs (n 0 1) (name (n 0 2))) (app 1 (pair (abs (n 0 1) (name (n 0 2))) (app 1 (pair (abs (n 0 1) (name (n 0 2))) (app 1 (pair (abs (n 0 1) (name (n 0 2))) (app 1 (pair (abs (n 0 1) (name (n 0 2))) (app 1 (pair (abs (n 0 1) (name (n 0 2))) (app 1 (pair (abs (n 0 1) (name (n 0 2))) (app 1 (pair (abs (n 0 1) (name (n 0 2))) (app 1 (pair (abs (n 0 1) (name (n 0 2))) (app 1 (pair (abs (n 0 1) (name (n 0 2))) (app 1 (pair (abs (n 0 1) (name (n 0 2))) (app 1 (pair (abs (n 0 1) (name (n 0 2))) (app 1 (pair (abs (n 0 1) (name (n 0 2))) (app 1 (pair (abs (n 0 1) (name (n 0 2))) (app 1 (pair (abs (n 0 1) (name (n 0 2))) (app 1 (pair (abs (n 0 1) (name (n 0 2))) (app 1 (pair (abs (n 0 1) (name (n 0 2))) (app 1 (pair (abs (n 0 1) (name (n 0 2))) (app 1 (pair (abs (n 0 1) (name (n 0 2))) (app 1 (pair (abs (n 0 1) (name (n 0 2))) (app 1 (pair (abs (n 0 1) (name (n 0 2))) (app 1 (pair (abs (n 0 1) (name (n 0 2))) (app 1 (pair (abs (n 0 1) (name (n 0 2))) (app 1 (pair (abs (n 0 1) (name (n 0 2))) (app 1 (pair (abs (n 0 1) (name (n 0 2))) (app 1 (pair (abs (n 0 1) (name (n 0 2))) (app 1 (pair (abs (n 0 1) (name (n 0 2))) (app 1 (pair (abs (n 0 1) (name (n 0 2))) (app 1 (pair (abs (n 0 1) (name (n 0 2))) (app 1 (pair (abs (n 0 1) (name (n 0 2))) (app 0 unit)))))))))))))))))))))))))))))))))))))))))))))))))))))))))))))))))))))))))))))))))))))))))))))))))))))))))))))))))))))))))))))))))))))))))))))))))))))))))))))))))))))))))))))))))))))))))))))))))))))))))))))))))))))))))))))))))))))))))))))))))))))))))))))))))))))))))))))))))))))))))))))))))))))))))))))))))))))))))))))))))))))))))))))))))))))))))))))))))))))))))))))))))))))))))))))))))))))))))))))))))))))))))))))))))))))))))))))))))))))))))))))))))))))))))))))))))))))))))))))))))))))))))))))))))))))))))))))))))))))) (variable (types.list (types.abs 0 (types.names 0))) (codes "X") ∷ named 0 (codes "a") ∷ named 0 (codes "b") ∷ []) ∷ []) (codes "id" ∷ codes "X" ∷ codes "a" ∷ codes "b" ∷ [])) 4
    ≡ codes "X = [a\\b,a\\b,a\\b,a\\b,a\\b,a\\b,a\\b,a\\b,a\\b,a\\b,a\\b,a\\b,a\\b,a\\b,a\\b,a\\b,a\\b,a\\b,a\\b,a\\b,a\\b,a\\b,a\\b,a\\b,a\\b,a\\b,a\\b,a\\b,a\\b,a\\b,a\\b,a\\b,a\\b,a\\b,a\\b,a\\b,a\\b,a\\b,a\\b,a\\b,a\\b,a\\b,a\\b,a\\b,a\\b,a\\b,a\\b,a\\b,a\\b,a\\b,a\\b,a\\b,a\\b,a\\b,a\\b,a\\b,a\\b,a\\b,a\\b,a\\b,a\\b,a\\b,a\\b,a\\b,a\\b,a\\b,a\\b,a\\b,a\\b,a\\b,a\\b,a\\b,a\\b,a\\b,a\\b,a\\b,a\\b,a\\b,a\\b,a\\b,a\\b,a\\b,a\\b,a\\b,a\\b,a\\b,a\\b,a\\b,a\\b,a\\b,a\\b,a\\b,a\\b,a\\b,a\\b,a\\b,a\\b,a\\b,a\\b,a\\b,a\\b,a\\b,a\\b,a\\b,a\\b,a\\b,a\\b,a\\b,a\\b,a\\b,a\\b,a\\b,a\\b,a\\b,a\\b,a\\b,a\\b,a\\b,a\\b,a\\b,a\\b,a\\b,a\\b,a\\b,a\\b,a\\b,a\\b,a\\b,a\\b,a\\b,a\\b,a\\b,a\\b,a\\b,a\\b,a\\b,a\\b,a\\b,a\\b,a\\b,a\\b,a\\b,a\\b,a\\b,a\\b,a\\b,a\\b,a\\b,a\\b,a\\b,a\\b,a\\b,a\\b,a\\b,a\\b,a\\b,a\\b,a\\b,a\\b,a\\b,a\\b,a\\b,a\\b,a\\b,a\\b,a\\b,a\\b,a\\b,a\\b,a\\b,a\\b,a\\b,a\\b,a\\b,a\\b,a\\b,a\\b,a\\b,a\\b,a\\b,a\\b,a\\b,a\\b,a\\b,a\\b,a\\b,a\\b,a\\b,a\\b,a\\b,a\\b,a\\b,a\\b,a\\b,a\\b,a\\b,a\\b,a\\b,a\\b,a\\b,a\\b,a\\b,a\\b,a\\b,a\\b,a\\b,a\\b,a\\b,a\\b,a\\b,a\\b,a\\b,a\\b,a\\b,a\\b,a\\b,a\\b,a\\b,a\\b,a\\b,a\\b,a\\b,a\\b,a\\b,a\\b,a\\b,a\\b,a\\b,a\\b,a\\b,a\\b,a\\b,a\\b,a\\b,a\\b,a\\b,a\\b,a\\b,a\\b,a\\b,a\\b,a\\b,a\\b,a\\b,a\\b,a\\b,a\\b,a\\b,a\\b,a\\b,a\\b,a\\b,a\\b,a\\b,a\\b,a\\b,a\\b,a\\b]\n% query 1: 1 answers, 0 cut, 0 stuck\n"
unfolding swap_name name_eq name_before unify ending canonical digits
sampled_deep_00004 = refl

sampled_deep_00007 : program_report (programs (signature (codes "id" ∷ []) [] [] []) [] (query (goals.equal (v 0) (pair (name (n 0 1)) (app 1 (pair (abs (n 0 2) (pair (name (n 0 1)) (app 1 (pair (abs (n 0 2) (pair (name (n 0 1)) (app 1 (pair (abs (n 0 2) (pair (name (n 0 1)) (app 1 (pair (abs (n 0 2) (pair (name (n 0 1)) (app 1 (pair (abs (n 0 2) (pair (name (n 0 1)) (app 1 (pair (abs (n 0 2) (pair (name (n 0 1)) (app 1 (pair (abs (n 0 2) (pair (name (n 0 1)) (app 1 (pair (abs (n 0 2) (pair (name (n 0 1)) (app 1 (pair (abs (n 0 2) (pair (name (n 0 1)) (app 1 (pair (abs (n 0 2) (pair (name (n 0 1)) (app 1 (pair (abs (n 0 2) (pair (name (n 0 1)) (app 1 (pair (abs (n 0 2) (pair (name (n 0 1)) (app 1 (pair (abs (n 0 2) (pair (name (n 0 1)) (app 1 (pair (abs (n 0 2) (pair (name (n 0 1)) (app 1 (pair (abs (n 0 2) (pair (name (n 0 1)) (app 1 (pair (abs (n 0 2) (pair (name (n 0 1)) (app 1 (pair (abs (n 0 2) (pair (name (n 0 1)) (app 1 (pair (abs (n 0 2) (pair (name (n 0 1)) (app 1 (pair (abs (n 0 2) (pair (name (n 0 1)) (app 1 (pair (abs (n 0 2) (pair (name (n 0 1)) (app 1 (pair (abs (n 0 2) (pair (name (n 0 1)) (app 1 (pair (abs (n 0 2) (pair (name (n 0 1)) (app 1 (pair (abs (n 0 2) (pair (name (n 0 1)) (app 1 (pair (abs (n 0 2) (pair (name (n 0 1)) (app 1 (pair (abs (n 0 2) (pair (name (n 0 1)) (app 1 (pair (abs (n 0 2) (pair (name (n 0 1)) (app 1 (pair (abs (n 0 2) (pair (name (n 0 1)) (app 1 (pair (abs (n 0 2) (pair (name (n 0 1)) (app 1 (pair (abs (n 0 2) (pair (name (n 0 1)) (app 1 (pair (abs (n 0 2) (pair (name (n 0 1)) (app 1 (pair (abs (n 0 2) (pair (name (n 0 1)) (app 1 (pair (abs (n 0 2) (pair (name (n 0 1)) (app 1 (pair (abs (n 0 2) (pair (name (n 0 1)) (app 1 (pair (abs (n 0 2) (pair (name (n 0 1)) (app 1 (pair (abs (n 0 2) (pair (name (n 0 1)) (app 1 (pair (abs (n 0 2) (pair (name (n 0 1)) (app 1 (pair (abs (n 0 2) (pair (name (n 0 1)) (app 1 (pair (abs (n 0 2) (pair (name (n 0 1)) (app 1 (pair (abs (n 0 2) (pair (name (n 0 1)) (app 1 (pair (abs (n 0 2) (pair (name (n 0 1)) (app 1 (pair (abs (n 0 2) (pair (name (n 0 1)) (app 1 (pair (abs (n 0 2) (pair (name (n 0 1)) (app 1 (pair (abs (n 0 2) (pair (name (n 0 1)) (app 1 (pair (abs (n 0 2) (pair (name (n 0 1)) (app 1 (pair (abs (n 0 2) (pair (name (n 0 1)) (app 1 (pair (abs (n 0 2) (pair (name (n 0 1)) (app 1 (pair (abs (n 0 2) (pair (name (n 0 1)) (app 1 (pair (abs (n 0 2) (pair (name (n 0 1)) (app 1 (pair (abs (n 0 2) (pair (name (n 0 1)) (app 1 (pair (abs (n 0 2) (pair (name (n 0 1)) (app 1 (pair (abs (n 0 2) (pair (name (n 0 1)) (app 1 (pair (abs (n 0 2) (pair (name (n 0 1)) (app 1 (pair (abs (n 0 2) (pair (name (n 0 1)) (app 1 (pair (abs (n 0 2) (pair (name (n 0 1)) (app 1 (pair (abs (n 0 2) (pair (name (n 0 1)) (app 1 (pair (abs (n 0 2) (pair (name (n 0 1)) (app 1 (pair (abs (n 0 2) (pair (name (n 0 1)) (app 1 (pair (abs (n 0 2) (pair (name (n 0 1)) (app 1 (pair (abs (n 0 2) (pair (name (n 0 1)) (app 1 (pair (abs (n 0 2) (pair (name (n 0 1)) (app 1 (pair (abs (n 0 2) (pair (name (n 0 1)) (app 1 (pair (abs (n 0 2) (pair (name (n 0 1)) (app 1 (pair (abs (n 0 2) (pair (name (n 0 1)) (app 1 (pair (abs (n 0 2) (pair (name (n 0 1)) (app 1 (pair (abs (n 0 2) (pair (name (n 0 1)) (app 1 (pair (abs (n 0 2) (pair (name (n 0 1)) (app 1 (pair (abs (n 0 2) (pair (name (n 0 1)) (app 1 (pair (abs (n 0 2) (pair (name (n 0 1)) (app 1 (pair (abs (n 0 2) (pair (name (n 0 1)) (app 1 (pair (abs (n 0 2) (pair (name (n 0 1)) (app 1 (pair (abs (n 0 2) (pair (name (n 0 1)) (app 1 (pair (abs (n 0 2) (pair (name (n 0 1)) (app 1 (pair (abs (n 0 2) (pair (name (n 0 1)) (app 1 (pair (abs (n 0 2) (pair (name (n 0 1)) (app 1 (pair (abs (n 0 2) (pair (name (n 0 1)) (app 1 (pair (abs (n 0 2) (pair (name (n 0 1)) (app 1 (pair (abs (n 0 2) (pair (name (n 0 1)) (app 1 (pair (abs (n 0 2) (pair (name (n 0 1)) (app 1 (pair (abs (n 0 2) (pair (name (n 0 1)) (app 1 (pair (abs (n 0 2) (pair (name (n 0 1)) (app 1 (pair (abs (n 0 2) (pair (name (n 0 1)) (app 1 (pair (abs (n 0 2) (pair (name (n 0 1)) (app 1 (pair (abs (n 0 2) (pair (name (n 0 1)) (app 1 (pair (abs (n 0 2) (name (n 0 3))) (app 0 unit))))) (app 0 unit))))) (app 0 unit))))) (app 0 unit))))) (app 0 unit))))) (app 0 unit))))) (app 0 unit))))) (app 0 unit))))) (app 0 unit))))) (app 0 unit))))) (app 0 unit))))) (app 0 unit))))) (app 0 unit))))) (app 0 unit))))) (app 0 unit))))) (app 0 unit))))) (app 0 unit))))) (app 0 unit))))) (app 0 unit))))) (app 0 unit))))) (app 0 unit))))) (app 0 unit))))) (app 0 unit))))) (app 0 unit))))) (app 0 unit))))) (app 0 unit))))) (app 0 unit))))) (app 0 unit))))) (app 0 unit))))) (app 0 unit))))) (app 0 unit))))) (app 0 unit))))) (app 0 unit))))) (app 0 unit))))) (app 0 unit))))) (app 0 unit))))) (app 0 unit))))) (app 0 unit))))) (app 0 unit))))) (app 0 unit))))) (app 0 unit))))) (app 0 unit))))) (app 0 unit))))) (app 0 unit))))) (app 0 unit))))) (app 0 unit))))) (app 0 unit))))) (app 0 unit))))) (app 0 unit))))) (app 0 unit))))) (app 0 unit))))) (app 0 unit))))) (app 0 unit))))) (app 0 unit))))) (app 0 unit))))) (app 0 unit))))) (app 0 unit))))) (app 0 unit))))) (app 0 unit))))) (app 0 unit))))) (app 0 unit))))) (app 0 unit))))) (app 0 unit))))) (app 0 unit))))) (app 0 unit))))) (app 0 unit))))) (app 0 unit))))) (app 0 unit))))) (app 0 unit))))) (app 0 unit))))) (app 0 unit))))) (app 0 unit))))) (app 0 unit))))) (app 0 unit))))) (app 0 unit))))) (app 0 unit))))) (app 0 unit))))) (app 0 unit))))) (app 0 unit))))) (app 0 unit))))) (app 0 unit))))) (app 0 unit))))) (app 0 unit))))) (app 0 unit))))) (variable (types.pair (types.names 0) (types.list (types.abs 0 (types.pair (types.names 0) (types.list (types.abs 0 (types.pair (types.names 0) (types.list (types.abs 0 (types.pair (types.names 0) (types.list (types.abs 0 (types.pair (types.names 0) (types.list (types.abs 0 (types.pair (types.names 0) (types.list (types.abs 0 (types.pair (types.names 0) (types.list (types.abs 0 (types.pair (types.names 0) (types.list (types.abs 0 (types.pair (types.names 0) (types.list (types.abs 0 (types.pair (types.names 0) (types.list (types.abs 0 (types.pair (types.names 0) (types.list (types.abs 0 (types.pair (types.names 0) (types.list (types.abs 0 (types.pair (types.names 0) (types.list (types.abs 0 (types.pair (types.names 0) (types.list (types.abs 0 (types.pair (types.names 0) (types.list (types.abs 0 (types.pair (types.names 0) (types.list (types.abs 0 (types.pair (types.names 0) (types.list (types.abs 0 (types.pair (types.names 0) (types.list (types.abs 0 (types.pair (types.names 0) (types.list (types.abs 0 (types.pair (types.names 0) (types.list (types.abs 0 (types.pair (types.names 0) (types.list (types.abs 0 (types.pair (types.names 0) (types.list (types.abs 0 (types.pair (types.names 0) (types.list (types.abs 0 (types.pair (types.names 0) (types.list (types.abs 0 (types.pair (types.names 0) (types.list (types.abs 0 (types.pair (types.names 0) (types.list (types.abs 0 (types.pair (types.names 0) (types.list (types.abs 0 (types.pair (types.names 0) (types.list (types.abs 0 (types.pair (types.names 0) (types.list (types.abs 0 (types.pair (types.names 0) (types.list (types.abs 0 (types.pair (types.names 0) (types.list (types.abs 0 (types.pair (types.names 0) (types.list (types.abs 0 (types.pair (types.names 0) (types.list (types.abs 0 (types.pair (types.names 0) (types.list (types.abs 0 (types.pair (types.names 0) (types.list (types.abs 0 (types.pair (types.names 0) (types.list (types.abs 0 (types.pair (types.names 0) (types.list (types.abs 0 (types.pair (types.names 0) (types.list (types.abs 0 (types.pair (types.names 0) (types.list (types.abs 0 (types.pair (types.names 0) (types.list (types.abs 0 (types.pair (types.names 0) (types.list (types.abs 0 (types.pair (types.names 0) (types.list (types.abs 0 (types.pair (types.names 0) (types.list (types.abs 0 (types.pair (types.names 0) (types.list (types.abs 0 (types.pair (types.names 0) (types.list (types.abs 0 (types.pair (types.names 0) (types.list (types.abs 0 (types.pair (types.names 0) (types.list (types.abs 0 (types.pair (types.names 0) (types.list (types.abs 0 (types.pair (types.names 0) (types.list (types.abs 0 (types.pair (types.names 0) (types.list (types.abs 0 (types.pair (types.names 0) (types.list (types.abs 0 (types.pair (types.names 0) (types.list (types.abs 0 (types.pair (types.names 0) (types.list (types.abs 0 (types.pair (types.names 0) (types.list (types.abs 0 (types.pair (types.names 0) (types.list (types.abs 0 (types.pair (types.names 0) (types.list (types.abs 0 (types.pair (types.names 0) (types.list (types.abs 0 (types.pair (types.names 0) (types.list (types.abs 0 (types.pair (types.names 0) (types.list (types.abs 0 (types.pair (types.names 0) (types.list (types.abs 0 (types.pair (types.names 0) (types.list (types.abs 0 (types.pair (types.names 0) (types.list (types.abs 0 (types.pair (types.names 0) (types.list (types.abs 0 (types.pair (types.names 0) (types.list (types.abs 0 (types.pair (types.names 0) (types.list (types.abs 0 (types.pair (types.names 0) (types.list (types.abs 0 (types.pair (types.names 0) (types.list (types.abs 0 (types.pair (types.names 0) (types.list (types.abs 0 (types.pair (types.names 0) (types.list (types.abs 0 (types.pair (types.names 0) (types.list (types.abs 0 (types.pair (types.names 0) (types.list (types.abs 0 (types.pair (types.names 0) (types.list (types.abs 0 (types.pair (types.names 0) (types.list (types.abs 0 (types.pair (types.names 0) (types.list (types.abs 0 (types.pair (types.names 0) (types.list (types.abs 0 (types.pair (types.names 0) (types.list (types.abs 0 (types.pair (types.names 0) (types.list (types.abs 0 (types.pair (types.names 0) (types.list (types.abs 0 (types.pair (types.names 0) (types.list (types.abs 0 (types.pair (types.names 0) (types.list (types.abs 0 (types.pair (types.names 0) (types.list (types.abs 0 (types.pair (types.names 0) (types.list (types.abs 0 (types.pair (types.names 0) (types.list (types.abs 0 (types.pair (types.names 0) (types.list (types.abs 0 (types.names 0))))))))))))))))))))))))))))))))))))))))))))))))))))))))))))))))))))))))))))))))))))))))))))))))))))))))))))))))))))))))))))))))))))))))))))))))))))))))))))))))))))))))))))))))))))))))))))))))))))))))))))))))))))))))))))))))))))))))))))))))))))))))))))) (codes "X") ∷ named 0 (codes "a") ∷ named 0 (codes "b") ∷ named 0 (codes "c") ∷ []) ∷ []) (codes "id" ∷ codes "X" ∷ codes "a" ∷ codes "b" ∷ codes "c" ∷ [])) 0
    ≡ codes "X = (a,[b\\(a,[b\\(a,[b\\(a,[b\\(a,[b\\(a,[b\\(a,[b\\(a,[b\\(a,[b\\(a,[b\\(a,[b\\(a,[b\\(a,[b\\(a,[b\\(a,[b\\(a,[b\\(a,[b\\(a,[b\\(a,[b\\(a,[b\\(a,[b\\(a,[b\\(a,[b\\(a,[b\\(a,[b\\(a,[b\\(a,[b\\(a,[b\\(a,[b\\(a,[b\\(a,[b\\(a,[b\\(a,[b\\(a,[b\\(a,[b\\(a,[b\\(a,[b\\(a,[b\\(a,[b\\(a,[b\\(a,[b\\(a,[b\\(a,[b\\(a,[b\\(a,[b\\(a,[b\\(a,[b\\(a,[b\\(a,[b\\(a,[b\\(a,[b\\(a,[b\\(a,[b\\(a,[b\\(a,[b\\(a,[b\\(a,[b\\(a,[b\\(a,[b\\(a,[b\\(a,[b\\(a,[b\\(a,[b\\(a,[b\\(a,[b\\(a,[b\\(a,[b\\(a,[b\\(a,[b\\(a,[b\\(a,[b\\(a,[b\\(a,[b\\(a,[b\\(a,[b\\(a,[b\\(a,[b\\(a,[b\\(a,[b\\(a,[b\\(a,[b\\(a,[b\\(a,[b\\(a,[b\\c])])])])])])])])])])])])])])])])])])])])])])])])])])])])])])])])])])])])])])])])])])])])])])])])])])])])])])])])])])])])])])])])])])])])])])])])])])])])])])])])])])])])\n% query 1: 1 answers, 0 cut, 0 stuck\n"
unfolding swap_name name_eq name_before unify ending canonical digits
sampled_deep_00007 = refl

sampled_deep_00012 : program_report (programs (signature (codes "id" ∷ []) [] [] []) [] (query (goals.both (goals.equal (v 0) (abs (n 0 1) (abs (n 0 1) (abs (n 0 1) (abs (n 0 1) (abs (n 0 1) (abs (n 0 1) (abs (n 0 1) (abs (n 0 1) (abs (n 0 1) (abs (n 0 1) (abs (n 0 1) (abs (n 0 1) (abs (n 0 1) (abs (n 0 1) (abs (n 0 1) (abs (n 0 1) (abs (n 0 1) (abs (n 0 1) (abs (n 0 1) (abs (n 0 1) (abs (n 0 1) (abs (n 0 1) (abs (n 0 1) (abs (n 0 1) (abs (n 0 1) (abs (n 0 1) (abs (n 0 1) (abs (n 0 1) (abs (n 0 1) (abs (n 0 1) (abs (n 0 1) (abs (n 0 1) (abs (n 0 1) (abs (n 0 1) (abs (n 0 1) (abs (n 0 1) (abs (n 0 1) (abs (n 0 1) (abs (n 0 1) (abs (n 0 1) (abs (n 0 1) (abs (n 0 1) (abs (n 0 1) (abs (n 0 1) (abs (n 0 1) (abs (n 0 1) (abs (n 0 1) (abs (n 0 1) (abs (n 0 1) (abs (n 0 1) (abs (n 0 1) (abs (n 0 1) (abs (n 0 1) (abs (n 0 1) (abs (n 0 1) (abs (n 0 1) (abs (n 0 1) (abs (n 0 1) (abs (n 0 1) (abs (n 0 1) (abs (n 0 1) (abs (n 0 1) (abs (n 0 1) (abs (n 0 1) (abs (n 0 1) (abs (n 0 1) (abs (n 0 1) (abs (n 0 1) (abs (n 0 1) (abs (n 0 1) (abs (n 0 1) (abs (n 0 1) (abs (n 0 1) (abs (n 0 1) (abs (n 0 1) (abs (n 0 1) (abs (n 0 1) (abs (n 0 1) (abs (n 0 1) (abs (n 0 1) (abs (n 0 1) (abs (n 0 1) (abs (n 0 1) (abs (n 0 1) (abs (n 0 1) (abs (n 0 1) (abs (n 0 1) (abs (n 0 1) (abs (n 0 1) (abs (n 0 1) (abs (n 0 1) (abs (n 0 1) (abs (n 0 1) (abs (n 0 1) (abs (n 0 1) (abs (n 0 1) (abs (n 0 1) (abs (n 0 1) (abs (n 0 1) (abs (n 0 1) (abs (n 0 1) (abs (n 0 1) (abs (n 0 1) (abs (n 0 1) (abs (n 0 1) (abs (n 0 1) (abs (n 0 1) (abs (n 0 1) (abs (n 0 1) (abs (n 0 1) (abs (n 0 1) (abs (n 0 1) (abs (n 0 1) (abs (n 0 1) (abs (n 0 1) (abs (n 0 1) (abs (n 0 1) (abs (n 0 1) (abs (n 0 1) (abs (n 0 1) (abs (n 0 1) (abs (n 0 1) (abs (n 0 1) (abs (n 0 1) (abs (n 0 1) (abs (n 0 1) (abs (n 0 1) (abs (n 0 1) (abs (n 0 1) (abs (n 0 1) (abs (n 0 1) (abs (n 0 1) (abs (n 0 1) (abs (n 0 1) (abs (n 0 1) (abs (n 0 1) (abs (n 0 1) (abs (n 0 1) (abs (n 0 1) (abs (n 0 1) (abs (n 0 1) (abs (n 0 1) (abs (n 0 1) (abs (n 0 1) (abs (n 0 1) (abs (n 0 1) (abs (n 0 1) (abs (n 0 1) (abs (n 0 1) (abs (n 0 1) (abs (n 0 1) (abs (n 0 1) (abs (n 0 1) (abs (n 0 1) (abs (n 0 1) (abs (n 0 1) (abs (n 0 1) (abs (n 0 1) (abs (n 0 1) (abs (n 0 1) (abs (n 0 1) (abs (n 0 1) (abs (n 0 1) (abs (n 0 1) (abs (n 0 1) (abs (n 0 1) (abs (n 0 1) (abs (n 0 1) (abs (n 0 1) (abs (n 0 1) (abs (n 0 1) (abs (n 0 1) (abs (n 0 1) (abs (n 0 1) (abs (n 0 1) (abs (n 0 1) (abs (n 0 1) (abs (n 0 1) (abs (n 0 1) (abs (n 0 1) (abs (n 0 1) (abs (n 0 1) (abs (n 0 1) (abs (n 0 1) (abs (n 0 1) (abs (n 0 1) (abs (n 0 1) (abs (n 0 1) (abs (n 0 1) (abs (n 0 1) (abs (n 0 1) (abs (n 0 1) (abs (n 0 1) (abs (n 0 1) (abs (n 0 1) (abs (n 0 1) (abs (n 0 1) (abs (n 0 1) (abs (n 0 1) (abs (n 0 1) (abs (n 0 1) (abs (n 0 1) (abs (n 0 1) (abs (n 0 1) (abs (n 0 1) (abs (n 0 1) (abs (n 0 1) (abs (n 0 1) (abs (n 0 1) (abs (n 0 1) (abs (n 0 1) (abs (n 0 1) (abs (n 0 1) (abs (n 0 1) (abs (n 0 1) (abs (n 0 1) (abs (n 0 1) (abs (n 0 1) (abs (n 0 1) (abs (n 0 1) (abs (n 0 1) (abs (n 0 1) (abs (n 0 1) (abs (n 0 1) (abs (n 0 1) (abs (n 0 1) (abs (n 0 1) (abs (n 0 1) (abs (n 0 1) (abs (n 0 1) (abs (n 0 1) (abs (n 0 1) (abs (n 0 1) (abs (n 0 1) (abs (n 0 1) (abs (n 0 1) (abs (n 0 1) (abs (n 0 1) (abs (n 0 1) (abs (n 0 1) (abs (n 0 1) (abs (n 0 1) (abs (n 0 1) (abs (n 0 1) (abs (n 0 1) (abs (n 0 1) (abs (n 0 1) (abs (n 0 1) (abs (n 0 1) (abs (n 0 1) (abs (n 0 1) (abs (n 0 1) (abs (n 0 1) (abs (n 0 1) (abs (n 0 1) (name (n 0 1)))))))))))))))))))))))))))))))))))))))))))))))))))))))))))))))))))))))))))))))))))))))))))))))))))))))))))))))))))))))))))))))))))))))))))))))))))))))))))))))))))))))))))))))))))))))))))))))))))))))))))))))))))))))))))))))))))))))))))))))))))))))))))))))))) (goals.equal (v 2) (abs (n 0 1) (abs (n 0 1) (abs (n 0 1) (abs (n 0 1) (abs (n 0 1) (abs (n 0 1) (abs (n 0 1) (abs (n 0 1) (abs (n 0 1) (abs (n 0 1) (abs (n 0 1) (abs (n 0 1) (abs (n 0 1) (abs (n 0 1) (abs (n 0 1) (abs (n 0 1) (abs (n 0 1) (abs (n 0 1) (abs (n 0 1) (abs (n 0 1) (abs (n 0 1) (abs (n 0 1) (abs (n 0 1) (abs (n 0 1) (abs (n 0 1) (abs (n 0 1) (abs (n 0 1) (abs (n 0 1) (abs (n 0 1) (abs (n 0 1) (abs (n 0 1) (abs (n 0 1) (abs (n 0 1) (abs (n 0 1) (abs (n 0 1) (abs (n 0 1) (abs (n 0 1) (abs (n 0 1) (abs (n 0 1) (abs (n 0 1) (abs (n 0 1) (abs (n 0 1) (abs (n 0 1) (abs (n 0 1) (abs (n 0 1) (abs (n 0 1) (abs (n 0 1) (abs (n 0 1) (abs (n 0 1) (abs (n 0 1) (abs (n 0 1) (abs (n 0 1) (abs (n 0 1) (abs (n 0 1) (abs (n 0 1) (abs (n 0 1) (abs (n 0 1) (abs (n 0 1) (abs (n 0 1) (abs (n 0 1) (abs (n 0 1) (abs (n 0 1) (abs (n 0 1) (abs (n 0 1) (abs (n 0 1) (abs (n 0 1) (abs (n 0 1) (abs (n 0 1) (abs (n 0 1) (abs (n 0 1) (abs (n 0 1) (abs (n 0 1) (abs (n 0 1) (abs (n 0 1) (abs (n 0 1) (abs (n 0 1) (abs (n 0 1) (abs (n 0 1) (abs (n 0 1) (abs (n 0 1) (abs (n 0 1) (abs (n 0 1) (abs (n 0 1) (abs (n 0 1) (abs (n 0 1) (abs (n 0 1) (abs (n 0 1) (abs (n 0 1) (abs (n 0 1) (abs (n 0 1) (abs (n 0 1) (abs (n 0 1) (abs (n 0 1) (abs (n 0 1) (abs (n 0 1) (abs (n 0 1) (abs (n 0 1) (abs (n 0 1) (abs (n 0 1) (abs (n 0 1) (abs (n 0 1) (abs (n 0 1) (abs (n 0 1) (abs (n 0 1) (abs (n 0 1) (abs (n 0 1) (abs (n 0 1) (abs (n 0 1) (abs (n 0 1) (abs (n 0 1) (abs (n 0 1) (abs (n 0 1) (abs (n 0 1) (abs (n 0 1) (abs (n 0 1) (abs (n 0 1) (abs (n 0 1) (abs (n 0 1) (abs (n 0 1) (abs (n 0 1) (abs (n 0 1) (abs (n 0 1) (abs (n 0 1) (abs (n 0 1) (abs (n 0 1) (abs (n 0 1) (abs (n 0 1) (abs (n 0 1) (abs (n 0 1) (abs (n 0 1) (abs (n 0 1) (abs (n 0 1) (abs (n 0 1) (abs (n 0 1) (abs (n 0 1) (abs (n 0 1) (abs (n 0 1) (abs (n 0 1) (abs (n 0 1) (abs (n 0 1) (abs (n 0 1) (abs (n 0 1) (abs (n 0 1) (abs (n 0 1) (abs (n 0 1) (abs (n 0 1) (abs (n 0 1) (abs (n 0 1) (abs (n 0 1) (abs (n 0 1) (abs (n 0 1) (abs (n 0 1) (abs (n 0 1) (abs (n 0 1) (abs (n 0 1) (abs (n 0 1) (abs (n 0 1) (abs (n 0 1) (abs (n 0 1) (abs (n 0 1) (abs (n 0 1) (abs (n 0 1) (abs (n 0 1) (abs (n 0 1) (abs (n 0 1) (abs (n 0 1) (abs (n 0 1) (abs (n 0 1) (abs (n 0 1) (abs (n 0 1) (abs (n 0 1) (abs (n 0 1) (abs (n 0 1) (abs (n 0 1) (abs (n 0 1) (abs (n 0 1) (abs (n 0 1) (abs (n 0 1) (abs (n 0 1) (abs (n 0 1) (abs (n 0 1) (abs (n 0 1) (abs (n 0 1) (abs (n 0 1) (abs (n 0 1) (abs (n 0 1) (abs (n 0 1) (abs (n 0 1) (abs (n 0 1) (abs (n 0 1) (abs (n 0 1) (abs (n 0 1) (abs (n 0 1) (abs (n 0 1) (abs (n 0 1) (abs (n 0 1) (abs (n 0 1) (abs (n 0 1) (abs (n 0 1) (abs (n 0 1) (abs (n 0 1) (abs (n 0 1) (abs (n 0 1) (abs (n 0 1) (abs (n 0 1) (abs (n 0 1) (abs (n 0 1) (abs (n 0 1) (abs (n 0 1) (abs (n 0 1) (abs (n 0 1) (abs (n 0 1) (abs (n 0 1) (abs (n 0 1) (abs (n 0 1) (abs (n 0 1) (abs (n 0 1) (abs (n 0 1) (abs (n 0 1) (abs (n 0 1) (abs (n 0 1) (abs (n 0 1) (abs (n 0 1) (abs (n 0 1) (abs (n 0 1) (abs (n 0 1) (abs (n 0 1) (abs (n 0 1) (abs (n 0 1) (abs (n 0 1) (abs (n 0 1) (abs (n 0 1) (abs (n 0 1) (abs (n 0 1) (abs (n 0 1) (abs (n 0 1) (abs (n 0 1) (abs (n 0 1) (abs (n 0 1) (abs (n 0 1) (abs (n 0 1) (abs (n 0 1) (abs (n 0 1) (abs (n 0 1) (abs (n 0 1) (abs (n 0 1) (abs (n 0 1) (abs (n 0 1) (abs (n 0 1) (abs (n 0 1) (abs (n 0 1) (abs (n 0 1) (abs (n 0 1) (abs (n 0 1) (abs (n 0 1) (name (n 0 1))))))))))))))))))))))))))))))))))))))))))))))))))))))))))))))))))))))))))))))))))))))))))))))))))))))))))))))))))))))))))))))))))))))))))))))))))))))))))))))))))))))))))))))))))))))))))))))))))))))))))))))))))))))))))))))))))))))))))))))))))))))))))))))))))) (variable (types.abs 0 (types.abs 0 (types.abs 0 (types.abs 0 (types.abs 0 (types.abs 0 (types.abs 0 (types.abs 0 (types.abs 0 (types.abs 0 (types.abs 0 (types.abs 0 (types.abs 0 (types.abs 0 (types.abs 0 (types.abs 0 (types.abs 0 (types.abs 0 (types.abs 0 (types.abs 0 (types.abs 0 (types.abs 0 (types.abs 0 (types.abs 0 (types.abs 0 (types.abs 0 (types.abs 0 (types.abs 0 (types.abs 0 (types.abs 0 (types.abs 0 (types.abs 0 (types.abs 0 (types.abs 0 (types.abs 0 (types.abs 0 (types.abs 0 (types.abs 0 (types.abs 0 (types.abs 0 (types.abs 0 (types.abs 0 (types.abs 0 (types.abs 0 (types.abs 0 (types.abs 0 (types.abs 0 (types.abs 0 (types.abs 0 (types.abs 0 (types.abs 0 (types.abs 0 (types.abs 0 (types.abs 0 (types.abs 0 (types.abs 0 (types.abs 0 (types.abs 0 (types.abs 0 (types.abs 0 (types.abs 0 (types.abs 0 (types.abs 0 (types.abs 0 (types.abs 0 (types.abs 0 (types.abs 0 (types.abs 0 (types.abs 0 (types.abs 0 (types.abs 0 (types.abs 0 (types.abs 0 (types.abs 0 (types.abs 0 (types.abs 0 (types.abs 0 (types.abs 0 (types.abs 0 (types.abs 0 (types.abs 0 (types.abs 0 (types.abs 0 (types.abs 0 (types.abs 0 (types.abs 0 (types.abs 0 (types.abs 0 (types.abs 0 (types.abs 0 (types.abs 0 (types.abs 0 (types.abs 0 (types.abs 0 (types.abs 0 (types.abs 0 (types.abs 0 (types.abs 0 (types.abs 0 (types.abs 0 (types.abs 0 (types.abs 0 (types.abs 0 (types.abs 0 (types.abs 0 (types.abs 0 (types.abs 0 (types.abs 0 (types.abs 0 (types.abs 0 (types.abs 0 (types.abs 0 (types.abs 0 (types.abs 0 (types.abs 0 (types.abs 0 (types.abs 0 (types.abs 0 (types.abs 0 (types.abs 0 (types.abs 0 (types.abs 0 (types.abs 0 (types.abs 0 (types.abs 0 (types.abs 0 (types.abs 0 (types.abs 0 (types.abs 0 (types.abs 0 (types.abs 0 (types.abs 0 (types.abs 0 (types.abs 0 (types.abs 0 (types.abs 0 (types.abs 0 (types.abs 0 (types.abs 0 (types.abs 0 (types.abs 0 (types.abs 0 (types.abs 0 (types.abs 0 (types.abs 0 (types.abs 0 (types.abs 0 (types.abs 0 (types.abs 0 (types.abs 0 (types.abs 0 (types.abs 0 (types.abs 0 (types.abs 0 (types.abs 0 (types.abs 0 (types.abs 0 (types.abs 0 (types.abs 0 (types.abs 0 (types.abs 0 (types.abs 0 (types.abs 0 (types.abs 0 (types.abs 0 (types.abs 0 (types.abs 0 (types.abs 0 (types.abs 0 (types.abs 0 (types.abs 0 (types.abs 0 (types.abs 0 (types.abs 0 (types.abs 0 (types.abs 0 (types.abs 0 (types.abs 0 (types.abs 0 (types.abs 0 (types.abs 0 (types.abs 0 (types.abs 0 (types.abs 0 (types.abs 0 (types.abs 0 (types.abs 0 (types.abs 0 (types.abs 0 (types.abs 0 (types.abs 0 (types.abs 0 (types.abs 0 (types.abs 0 (types.abs 0 (types.abs 0 (types.abs 0 (types.abs 0 (types.abs 0 (types.abs 0 (types.abs 0 (types.abs 0 (types.abs 0 (types.abs 0 (types.abs 0 (types.abs 0 (types.abs 0 (types.abs 0 (types.abs 0 (types.abs 0 (types.abs 0 (types.abs 0 (types.abs 0 (types.abs 0 (types.abs 0 (types.abs 0 (types.abs 0 (types.abs 0 (types.abs 0 (types.abs 0 (types.abs 0 (types.abs 0 (types.abs 0 (types.abs 0 (types.abs 0 (types.abs 0 (types.abs 0 (types.abs 0 (types.abs 0 (types.abs 0 (types.abs 0 (types.abs 0 (types.abs 0 (types.abs 0 (types.abs 0 (types.abs 0 (types.abs 0 (types.abs 0 (types.abs 0 (types.abs 0 (types.abs 0 (types.abs 0 (types.abs 0 (types.abs 0 (types.abs 0 (types.abs 0 (types.abs 0 (types.abs 0 (types.abs 0 (types.abs 0 (types.abs 0 (types.abs 0 (types.abs 0 (types.abs 0 (types.abs 0 (types.names 0)))))))))))))))))))))))))))))))))))))))))))))))))))))))))))))))))))))))))))))))))))))))))))))))))))))))))))))))))))))))))))))))))))))))))))))))))))))))))))))))))))))))))))))))))))))))))))))))))))))))))))))))))))))))))))))))))))))))))))))))))))))))))))))))) (codes "X") ∷ named 0 (codes "a") ∷ variable (types.abs 0 (types.abs 0 (types.abs 0 (types.abs 0 (types.abs 0 (types.abs 0 (types.abs 0 (types.abs 0 (types.abs 0 (types.abs 0 (types.abs 0 (types.abs 0 (types.abs 0 (types.abs 0 (types.abs 0 (types.abs 0 (types.abs 0 (types.abs 0 (types.abs 0 (types.abs 0 (types.abs 0 (types.abs 0 (types.abs 0 (types.abs 0 (types.abs 0 (types.abs 0 (types.abs 0 (types.abs 0 (types.abs 0 (types.abs 0 (types.abs 0 (types.abs 0 (types.abs 0 (types.abs 0 (types.abs 0 (types.abs 0 (types.abs 0 (types.abs 0 (types.abs 0 (types.abs 0 (types.abs 0 (types.abs 0 (types.abs 0 (types.abs 0 (types.abs 0 (types.abs 0 (types.abs 0 (types.abs 0 (types.abs 0 (types.abs 0 (types.abs 0 (types.abs 0 (types.abs 0 (types.abs 0 (types.abs 0 (types.abs 0 (types.abs 0 (types.abs 0 (types.abs 0 (types.abs 0 (types.abs 0 (types.abs 0 (types.abs 0 (types.abs 0 (types.abs 0 (types.abs 0 (types.abs 0 (types.abs 0 (types.abs 0 (types.abs 0 (types.abs 0 (types.abs 0 (types.abs 0 (types.abs 0 (types.abs 0 (types.abs 0 (types.abs 0 (types.abs 0 (types.abs 0 (types.abs 0 (types.abs 0 (types.abs 0 (types.abs 0 (types.abs 0 (types.abs 0 (types.abs 0 (types.abs 0 (types.abs 0 (types.abs 0 (types.abs 0 (types.abs 0 (types.abs 0 (types.abs 0 (types.abs 0 (types.abs 0 (types.abs 0 (types.abs 0 (types.abs 0 (types.abs 0 (types.abs 0 (types.abs 0 (types.abs 0 (types.abs 0 (types.abs 0 (types.abs 0 (types.abs 0 (types.abs 0 (types.abs 0 (types.abs 0 (types.abs 0 (types.abs 0 (types.abs 0 (types.abs 0 (types.abs 0 (types.abs 0 (types.abs 0 (types.abs 0 (types.abs 0 (types.abs 0 (types.abs 0 (types.abs 0 (types.abs 0 (types.abs 0 (types.abs 0 (types.abs 0 (types.abs 0 (types.abs 0 (types.abs 0 (types.abs 0 (types.abs 0 (types.abs 0 (types.abs 0 (types.abs 0 (types.abs 0 (types.abs 0 (types.abs 0 (types.abs 0 (types.abs 0 (types.abs 0 (types.abs 0 (types.abs 0 (types.abs 0 (types.abs 0 (types.abs 0 (types.abs 0 (types.abs 0 (types.abs 0 (types.abs 0 (types.abs 0 (types.abs 0 (types.abs 0 (types.abs 0 (types.abs 0 (types.abs 0 (types.abs 0 (types.abs 0 (types.abs 0 (types.abs 0 (types.abs 0 (types.abs 0 (types.abs 0 (types.abs 0 (types.abs 0 (types.abs 0 (types.abs 0 (types.abs 0 (types.abs 0 (types.abs 0 (types.abs 0 (types.abs 0 (types.abs 0 (types.abs 0 (types.abs 0 (types.abs 0 (types.abs 0 (types.abs 0 (types.abs 0 (types.abs 0 (types.abs 0 (types.abs 0 (types.abs 0 (types.abs 0 (types.abs 0 (types.abs 0 (types.abs 0 (types.abs 0 (types.abs 0 (types.abs 0 (types.abs 0 (types.abs 0 (types.abs 0 (types.abs 0 (types.abs 0 (types.abs 0 (types.abs 0 (types.abs 0 (types.abs 0 (types.abs 0 (types.abs 0 (types.abs 0 (types.abs 0 (types.abs 0 (types.abs 0 (types.abs 0 (types.abs 0 (types.abs 0 (types.abs 0 (types.abs 0 (types.abs 0 (types.abs 0 (types.abs 0 (types.abs 0 (types.abs 0 (types.abs 0 (types.abs 0 (types.abs 0 (types.abs 0 (types.abs 0 (types.abs 0 (types.abs 0 (types.abs 0 (types.abs 0 (types.abs 0 (types.abs 0 (types.abs 0 (types.abs 0 (types.abs 0 (types.abs 0 (types.abs 0 (types.abs 0 (types.abs 0 (types.abs 0 (types.abs 0 (types.abs 0 (types.abs 0 (types.abs 0 (types.abs 0 (types.abs 0 (types.abs 0 (types.abs 0 (types.abs 0 (types.abs 0 (types.abs 0 (types.abs 0 (types.abs 0 (types.abs 0 (types.abs 0 (types.abs 0 (types.abs 0 (types.abs 0 (types.abs 0 (types.abs 0 (types.abs 0 (types.abs 0 (types.abs 0 (types.names 0)))))))))))))))))))))))))))))))))))))))))))))))))))))))))))))))))))))))))))))))))))))))))))))))))))))))))))))))))))))))))))))))))))))))))))))))))))))))))))))))))))))))))))))))))))))))))))))))))))))))))))))))))))))))))))))))))))))))))))))))))))))))))))))))) (codes "Y") ∷ []) ∷ []) (codes "id" ∷ codes "X" ∷ codes "a" ∷ codes "Y" ∷ [])) 1
    ≡ codes "X = a\\a\\a\\a\\a\\a\\a\\a\\a\\a\\a\\a\\a\\a\\a\\a\\a\\a\\a\\a\\a\\a\\a\\a\\a\\a\\a\\a\\a\\a\\a\\a\\a\\a\\a\\a\\a\\a\\a\\a\\a\\a\\a\\a\\a\\a\\a\\a\\a\\a\\a\\a\\a\\a\\a\\a\\a\\a\\a\\a\\a\\a\\a\\a\\a\\a\\a\\a\\a\\a\\a\\a\\a\\a\\a\\a\\a\\a\\a\\a\\a\\a\\a\\a\\a\\a\\a\\a\\a\\a\\a\\a\\a\\a\\a\\a\\a\\a\\a\\a\\a\\a\\a\\a\\a\\a\\a\\a\\a\\a\\a\\a\\a\\a\\a\\a\\a\\a\\a\\a\\a\\a\\a\\a\\a\\a\\a\\a\\a\\a\\a\\a\\a\\a\\a\\a\\a\\a\\a\\a\\a\\a\\a\\a\\a\\a\\a\\a\\a\\a\\a\\a\\a\\a\\a\\a\\a\\a\\a\\a\\a\\a\\a\\a\\a\\a\\a\\a\\a\\a\\a\\a\\a\\a\\a\\a\\a\\a\\a\\a\\a\\a\\a\\a\\a\\a\\a\\a\\a\\a\\a\\a\\a\\a\\a\\a\\a\\a\\a\\a\\a\\a\\a\\a\\a\\a\\a\\a\\a\\a\\a\\a\\a\\a\\a\\a\\a\\a\\a\\a\\a\\a\\a\\a\\a\\a\\a\\a\\a\\a\\a\\a\\a\\a\\a\\a\\a\\a\\a\\a\\a\\a\\a\\a\\a\\a\\a\\a\\a\\a\\a\\a\\a\\a\\a\\a, Y = a\\a\\a\\a\\a\\a\\a\\a\\a\\a\\a\\a\\a\\a\\a\\a\\a\\a\\a\\a\\a\\a\\a\\a\\a\\a\\a\\a\\a\\a\\a\\a\\a\\a\\a\\a\\a\\a\\a\\a\\a\\a\\a\\a\\a\\a\\a\\a\\a\\a\\a\\a\\a\\a\\a\\a\\a\\a\\a\\a\\a\\a\\a\\a\\a\\a\\a\\a\\a\\a\\a\\a\\a\\a\\a\\a\\a\\a\\a\\a\\a\\a\\a\\a\\a\\a\\a\\a\\a\\a\\a\\a\\a\\a\\a\\a\\a\\a\\a\\a\\a\\a\\a\\a\\a\\a\\a\\a\\a\\a\\a\\a\\a\\a\\a\\a\\a\\a\\a\\a\\a\\a\\a\\a\\a\\a\\a\\a\\a\\a\\a\\a\\a\\a\\a\\a\\a\\a\\a\\a\\a\\a\\a\\a\\a\\a\\a\\a\\a\\a\\a\\a\\a\\a\\a\\a\\a\\a\\a\\a\\a\\a\\a\\a\\a\\a\\a\\a\\a\\a\\a\\a\\a\\a\\a\\a\\a\\a\\a\\a\\a\\a\\a\\a\\a\\a\\a\\a\\a\\a\\a\\a\\a\\a\\a\\a\\a\\a\\a\\a\\a\\a\\a\\a\\a\\a\\a\\a\\a\\a\\a\\a\\a\\a\\a\\a\\a\\a\\a\\a\\a\\a\\a\\a\\a\\a\\a\\a\\a\\a\\a\\a\\a\\a\\a\\a\\a\\a\\a\\a\\a\\a\\a\\a\\a\\a\\a\\a\\a\\a\\a\\a\\a\\a\\a\\a\n% query 1: 1 answers, 0 cut, 0 stuck\n"
unfolding swap_name name_eq name_before unify ending canonical digits
sampled_deep_00012 = refl

sampled_deep_00014 : program_report (programs (signature (codes "id" ∷ []) [] [] []) [] (query (goals.equal (v 0) (app 1 (pair (abs (n 0 1) (name (n 0 2))) (app 1 (pair (abs (n 0 1) (name (n 0 2))) (app 1 (pair (abs (n 0 1) (name (n 0 2))) (app 1 (pair (abs (n 0 1) (name (n 0 2))) (app 1 (pair (abs (n 0 1) (name (n 0 2))) (app 1 (pair (abs (n 0 1) (name (n 0 2))) (app 1 (pair (abs (n 0 1) (name (n 0 2))) (app 1 (pair (abs (n 0 1) (name (n 0 2))) (app 1 (pair (abs (n 0 1) (name (n 0 2))) (app 1 (pair (abs (n 0 1) (name (n 0 2))) (app 1 (pair (abs (n 0 1) (name (n 0 2))) (app 1 (pair (abs (n 0 1) (name (n 0 2))) (app 1 (pair (abs (n 0 1) (name (n 0 2))) (app 1 (pair (abs (n 0 1) (name (n 0 2))) (app 1 (pair (abs (n 0 1) (name (n 0 2))) (app 1 (pair (abs (n 0 1) (name (n 0 2))) (app 1 (pair (abs (n 0 1) (name (n 0 2))) (app 1 (pair (abs (n 0 1) (name (n 0 2))) (app 1 (pair (abs (n 0 1) (name (n 0 2))) (app 1 (pair (abs (n 0 1) (name (n 0 2))) (app 1 (pair (abs (n 0 1) (name (n 0 2))) (app 1 (pair (abs (n 0 1) (name (n 0 2))) (app 1 (pair (abs (n 0 1) (name (n 0 2))) (app 1 (pair (abs (n 0 1) (name (n 0 2))) (app 1 (pair (abs (n 0 1) (name (n 0 2))) (app 1 (pair (abs (n 0 1) (name (n 0 2))) (app 1 (pair (abs (n 0 1) (name (n 0 2))) (app 1 (pair (abs (n 0 1) (name (n 0 2))) (app 1 (pair (abs (n 0 1) (name (n 0 2))) (app 1 (pair (abs (n 0 1) (name (n 0 2))) (app 1 (pair (abs (n 0 1) (name (n 0 2))) (app 1 (pair (abs (n 0 1) (name (n 0 2))) (app 1 (pair (abs (n 0 1) (name (n 0 2))) (app 1 (pair (abs (n 0 1) (name (n 0 2))) (app 1 (pair (abs (n 0 1) (name (n 0 2))) (app 1 (pair (abs (n 0 1) (name (n 0 2))) (app 1 (pair (abs (n 0 1) (name (n 0 2))) (app 1 (pair (abs (n 0 1) (name (n 0 2))) (app 1 (pair (abs (n 0 1) (name (n 0 2))) (app 1 (pair (abs (n 0 1) (name (n 0 2))) (app 1 (pair (abs (n 0 1) (name (n 0 2))) (app 1 (pair (abs (n 0 1) (name (n 0 2))) (app 1 (pair (abs (n 0 1) (name (n 0 2))) (app 1 (pair (abs (n 0 1) (name (n 0 2))) (app 1 (pair (abs (n 0 1) (name (n 0 2))) (app 1 (pair (abs (n 0 1) (name (n 0 2))) (app 1 (pair (abs (n 0 1) (name (n 0 2))) (app 1 (pair (abs (n 0 1) (name (n 0 2))) (app 1 (pair (abs (n 0 1) (name (n 0 2))) (app 1 (pair (abs (n 0 1) (name (n 0 2))) (app 1 (pair (abs (n 0 1) (name (n 0 2))) (app 1 (pair (abs (n 0 1) (name (n 0 2))) (app 1 (pair (abs (n 0 1) (name (n 0 2))) (app 1 (pair (abs (n 0 1) (name (n 0 2))) (app 1 (pair (abs (n 0 1) (name (n 0 2))) (app 1 (pair (abs (n 0 1) (name (n 0 2))) (app 1 (pair (abs (n 0 1) (name (n 0 2))) (app 1 (pair (abs (n 0 1) (name (n 0 2))) (app 1 (pair (abs (n 0 1) (name (n 0 2))) (app 1 (pair (abs (n 0 1) (name (n 0 2))) (app 1 (pair (abs (n 0 1) (name (n 0 2))) (app 1 (pair (abs (n 0 1) (name (n 0 2))) (app 1 (pair (abs (n 0 1) (name (n 0 2))) (app 1 (pair (abs (n 0 1) (name (n 0 2))) (app 1 (pair (abs (n 0 1) (name (n 0 2))) (app 1 (pair (abs (n 0 1) (name (n 0 2))) (app 1 (pair (abs (n 0 1) (name (n 0 2))) (app 1 (pair (abs (n 0 1) (name (n 0 2))) (app 1 (pair (abs (n 0 1) (name (n 0 2))) (app 1 (pair (abs (n 0 1) (name (n 0 2))) (app 1 (pair (abs (n 0 1) (name (n 0 2))) (app 1 (pair (abs (n 0 1) (name (n 0 2))) (app 1 (pair (abs (n 0 1) (name (n 0 2))) (app 1 (pair (abs (n 0 1) (name (n 0 2))) (app 1 (pair (abs (n 0 1) (name (n 0 2))) (app 1 (pair (abs (n 0 1) (name (n 0 2))) (app 1 (pair (abs (n 0 1) (name (n 0 2))) (app 1 (pair (abs (n 0 1) (name (n 0 2))) (app 1 (pair (abs (n 0 1) (name (n 0 2))) (app 1 (pair (abs (n 0 1) (name (n 0 2))) (app 1 (pair (abs (n 0 1) (name (n 0 2))) (app 1 (pair (abs (n 0 1) (name (n 0 2))) (app 1 (pair (abs (n 0 1) (name (n 0 2))) (app 1 (pair (abs (n 0 1) (name (n 0 2))) (app 1 (pair (abs (n 0 1) (name (n 0 2))) (app 1 (pair (abs (n 0 1) (name (n 0 2))) (app 1 (pair (abs (n 0 1) (name (n 0 2))) (app 1 (pair (abs (n 0 1) (name (n 0 2))) (app 1 (pair (abs (n 0 1) (name (n 0 2))) (app 1 (pair (abs (n 0 1) (name (n 0 2))) (app 1 (pair (abs (n 0 1) (name (n 0 2))) (app 1 (pair (abs (n 0 1) (name (n 0 2))) (app 1 (pair (abs (n 0 1) (name (n 0 2))) (app 1 (pair (abs (n 0 1) (name (n 0 2))) (app 1 (pair (abs (n 0 1) (name (n 0 2))) (app 1 (pair (abs (n 0 1) (name (n 0 2))) (app 1 (pair (abs (n 0 1) (name (n 0 2))) (app 1 (pair (abs (n 0 1) (name (n 0 2))) (app 1 (pair (abs (n 0 1) (name (n 0 2))) (app 1 (pair (abs (n 0 1) (name (n 0 2))) (app 1 (pair (abs (n 0 1) (name (n 0 2))) (app 1 (pair (abs (n 0 1) (name (n 0 2))) (app 1 (pair (abs (n 0 1) (name (n 0 2))) (app 1 (pair (abs (n 0 1) (name (n 0 2))) (app 1 (pair (abs (n 0 1) (name (n 0 2))) (app 1 (pair (abs (n 0 1) (name (n 0 2))) (app 1 (pair (abs (n 0 1) (name (n 0 2))) (app 1 (pair (abs (n 0 1) (name (n 0 2))) (app 1 (pair (abs (n 0 1) (name (n 0 2))) (app 1 (pair (abs (n 0 1) (name (n 0 2))) (app 1 (pair (abs (n 0 1) (name (n 0 2))) (app 1 (pair (abs (n 0 1) (name (n 0 2))) (app 1 (pair (abs (n 0 1) (name (n 0 2))) (app 1 (pair (abs (n 0 1) (name (n 0 2))) (app 1 (pair (abs (n 0 1) (name (n 0 2))) (app 1 (pair (abs (n 0 1) (name (n 0 2))) (app 1 (pair (abs (n 0 1) (name (n 0 2))) (app 1 (pair (abs (n 0 1) (name (n 0 2))) (app 1 (pair (abs (n 0 1) (name (n 0 2))) (app 1 (pair (abs (n 0 1) (name (n 0 2))) (app 1 (pair (abs (n 0 1) (name (n 0 2))) (app 1 (pair (abs (n 0 1) (name (n 0 2))) (app 1 (pair (abs (n 0 1) (name (n 0 2))) (app 1 (pair (abs (n 0 1) (name (n 0 2))) (app 1 (pair (abs (n 0 1) (name (n 0 2))) (app 1 (pair (abs (n 0 1) (name (n 0 2))) (app 1 (pair (abs (n 0 1) (name (n 0 2))) (app 1 (pair (abs (n 0 1) (name (n 0 2))) (app 1 (pair (abs (n 0 1) (name (n 0 2))) (app 1 (pair (abs (n 0 1) (name (n 0 2))) (app 1 (pair (abs (n 0 1) (name (n 0 2))) (app 1 (pair (abs (n 0 1) (name (n 0 2))) (app 1 (pair (abs (n 0 1) (name (n 0 2))) (app 1 (pair (abs (n 0 1) (name (n 0 2))) (app 1 (pair (abs (n 0 1) (name (n 0 2))) (app 1 (pair (abs (n 0 1) (name (n 0 2))) (app 1 (pair (abs (n 0 1) (name (n 0 2))) (app 1 (pair (abs (n 0 1) (name (n 0 2))) (app 1 (pair (abs (n 0 1) (name (n 0 2))) (app 1 (pair (abs (n 0 1) (name (n 0 2))) (app 1 (pair (abs (n 0 1) (name (n 0 2))) (app 1 (pair (abs (n 0 1) (name (n 0 2))) (app 1 (pair (abs (n 0 1) (name (n 0 2))) (app 1 (pair (abs (n 0 1) (name (n 0 2))) (app 1 (pair (abs (n 0 1) (name (n 0 2))) (app 1 (pair (abs (n 0 1) (name (n 0 2))) (app 1 (pair (abs (n 0 1) (name (n 0 2))) (app 1 (pair (abs (n 0 1) (name (n 0 2))) (app 1 (pair (abs (n 0 1) (name (n 0 2))) (app 1 (pair (abs (n 0 1) (name (n 0 2))) (app 1 (pair (abs (n 0 1) (name (n 0 2))) (app 1 (pair (abs (n 0 1) (name (n 0 2))) (app 1 (pair (abs (n 0 1) (name (n 0 2))) (app 1 (pair (abs (n 0 1) (name (n 0 2))) (app 1 (pair (abs (n 0 1) (name (n 0 2))) (app 1 (pair (abs (n 0 1) (name (n 0 2))) (app 1 (pair (abs (n 0 1) (name (n 0 2))) (app 1 (pair (abs (n 0 1) (name (n 0 2))) (app 1 (pair (abs (n 0 1) (name (n 0 2))) (app 1 (pair (abs (n 0 1) (name (n 0 2))) (app 1 (pair (abs (n 0 1) (name (n 0 2))) (app 1 (pair (abs (n 0 1) (name (n 0 2))) (app 1 (pair (abs (n 0 1) (name (n 0 2))) (app 1 (pair (abs (n 0 1) (name (n 0 2))) (app 1 (pair (abs (n 0 1) (name (n 0 2))) (app 1 (pair (abs (n 0 1) (name (n 0 2))) (app 1 (pair (abs (n 0 1) (name (n 0 2))) (app 1 (pair (abs (n 0 1) (name (n 0 2))) (app 1 (pair (abs (n 0 1) (name (n 0 2))) (app 1 (pair (abs (n 0 1) (name (n 0 2))) (app 1 (pair (abs (n 0 1) (name (n 0 2))) (app 1 (pair (abs (n 0 1) (name (n 0 2))) (app 1 (pair (abs (n 0 1) (name (n 0 2))) (app 1 (pair (abs (n 0 1) (name (n 0 2))) (app 1 (pair (abs (n 0 1) (name (n 0 2))) (app 1 (pair (abs (n 0 1) (name (n 0 2))) (app 1 (pair (abs (n 0 1) (name (n 0 2))) (app 1 (pair (abs (n 0 1) (name (n 0 2))) (app 1 (pair (abs (n 0 1) (name (n 0 2))) (app 1 (pair (abs (n 0 1) (name (n 0 2))) (app 1 (pair (abs (n 0 1) (name (n 0 2))) (app 1 (pair (abs (n 0 1) (name (n 0 2))) (app 1 (pair (abs (n 0 1) (name (n 0 2))) (app 1 (pair (abs (n 0 1) (name (n 0 2))) (app 1 (pair (abs (n 0 1) (name (n 0 2))) (app 1 (pair (abs (n 0 1) (name (n 0 2))) (app 1 (pair (abs (n 0 1) (name (n 0 2))) (app 1 (pair (abs (n 0 1) (name (n 0 2))) (app 1 (pair (abs (n 0 1) (name (n 0 2))) (app 1 (pair (abs (n 0 1) (name (n 0 2))) (app 1 (pair (abs (n 0 1) (name (n 0 2))) (app 1 (pair (abs (n 0 1) (name (n 0 2))) (app 1 (pair (abs (n 0 1) (name (n 0 2))) (app 1 (pair (abs (n 0 1) (name (n 0 2))) (app 1 (pair (abs (n 0 1) (name (n 0 2))) (app 1 (pair (abs (n 0 1) (name (n 0 2))) (app 1 (pair (abs (n 0 1) (name (n 0 2))) (app 1 (pair (abs (n 0 1) (name (n 0 2))) (app 1 (pair (abs (n 0 1) (name (n 0 2))) (app 1 (pair (abs (n 0 1) (name (n 0 2))) (app 1 (pair (abs (n 0 1) (name (n 0 2))) (app 1 (pair (abs (n 0 1) (name (n 0 2))) (app 1 (pair (abs (n 0 1) (name (n 0 2))) (app 1 (pair (abs (n 0 1) (name (n 0 2))) (app 1 (pair (abs (n 0 1) (name (n 0 2))) (app 1 (pair (abs (n 0 1) (name (n 0 2))) (app 1 (pair (abs (n 0 1) (name (n 0 2))) (app 1 (pair (abs (n 0 1) (name (n 0 2))) (app 1 (pair (abs (n 0 1) (name (n 0 2))) (app 1 (pair (abs (n 0 1) (name (n 0 2))) (app 1 (pair (abs (n 0 1) (name (n 0 2))) (app 1 (pair (abs (n 0 1) (name (n 0 2))) (app 1 (pair (abs (n 0 1) (name (n 0 2))) (app 1 (pair (abs (n 0 1) (name (n 0 2))) (app 1 (pair (abs (n 0 1) (name (n 0 2))) (app 1 (pair (abs (n 0 1) (name (n 0 2))) (app 1 (pair (abs (n 0 1) (name (n 0 2))) (app 1 (pair (abs (n 0 1) (name (n 0 2))) (app 1 (pair (abs (n 0 1) (name (n 0 2))) (app 1 (pair (abs (n 0 1) (name (n 0 2))) (app 1 (pair (abs (n 0 1) (name (n 0 2))) (app 1 (pair (abs (n 0 1) (name (n 0 2))) (app 1 (pair (abs (n 0 1) (name (n 0 2))) (app 1 (pair (abs (n 0 1) (name (n 0 2))) (app 1 (pair (abs (n 0 1) (name (n 0 2))) (app 1 (pair (abs (n 0 1) (name (n 0 2))) (app 1 (pair (abs (n 0 1) (name (n 0 2))) (app 1 (pair (abs (n 0 1) (name (n 0 2))) (app 1 (pair (abs (n 0 1) (name (n 0 2))) (app 1 (pair (abs (n 0 1) (name (n 0 2))) (app 1 (pair (abs (n 0 1) (name (n 0 2))) (app 1 (pair (abs (n 0 1) (name (n 0 2))) (app 1 (pair (abs (n 0 1) (name (n 0 2))) (app 1 (pair (abs (n 0 1) (name (n 0 2))) (app 1 (pair (abs (n 0 1) (name (n 0 2))) (app 1 (pair (abs (n 0 1) (name (n 0 2))) (app 1 (pair (abs (n 0 1) (name (n 0 2))) (app 1 (pair (abs (n 0 1) (name (n 0 2))) (app 1 (pair (abs (n 0 1) (name (n 0 2))) (app 1 (pair (abs (n 0 1) (name (n 0 2))) (app 1 (pair (abs (n 0 1) (name (n 0 2))) (app 1 (pair (abs (n 0 1) (name (n 0 2))) (app 1 (pair (abs (n 0 1) (name (n 0 2))) (app 1 (pair (abs (n 0 1) (name (n 0 2))) (app 1 (pair (abs (n 0 1) (name (n 0 2))) (app 1 (pair (abs (n 0 1) (name (n 0 2))) (app 1 (pair (abs (n 0 1) (name (n 0 2))) (app 1 (pair (abs (n 0 1) (name (n 0 2))) (app 1 (pair (abs (n 0 1) (name (n 0 2))) (app 1 (pair (abs (n 0 1) (name (n 0 2))) (app 1 (pair (abs (n 0 1) (name (n 0 2))) (app 1 (pair (abs (n 0 1) (name (n 0 2))) (app 1 (pair (abs (n 0 1) (name (n 0 2))) (app 1 (pair (abs (n 0 1) (name (n 0 2))) (app 1 (pair (abs (n 0 1) (name (n 0 2))) (app 1 (pair (abs (n 0 1) (name (n 0 2))) (app 1 (pair (abs (n 0 1) (name (n 0 2))) (app 0 unit)))))))))))))))))))))))))))))))))))))))))))))))))))))))))))))))))))))))))))))))))))))))))))))))))))))))))))))))))))))))))))))))))))))))))))))))))))))))))))))))))))))))))))))))))))))))))))))))))))))))))))))))))))))))))))))))))))))))))))))))))))))))))))))))))))))))))))))))))))))))))))))))))))))))))))))))))))))))))))))))))))))))))))))))))))))))))))))))))))))))))))))))))))))))))))))))))))))))))))))))))))))))))))))))))))))))))))))))))))))))))))))))))))))))))))))))))))))))))))))))))))))))))))))))))))))))))))))))))))) (variable (types.list (types.abs 0 (types.names 0))) (codes "X") ∷ named 0 (codes "a") ∷ named 0 (codes "b") ∷ []) ∷ []) (codes "id" ∷ codes "X" ∷ codes "a" ∷ codes "b" ∷ [])) 2
    ≡ codes "X = [a\\b,a\\b,a\\b,a\\b,a\\b,a\\b,a\\b,a\\b,a\\b,a\\b,a\\b,a\\b,a\\b,a\\b,a\\b,a\\b,a\\b,a\\b,a\\b,a\\b,a\\b,a\\b,a\\b,a\\b,a\\b,a\\b,a\\b,a\\b,a\\b,a\\b,a\\b,a\\b,a\\b,a\\b,a\\b,a\\b,a\\b,a\\b,a\\b,a\\b,a\\b,a\\b,a\\b,a\\b,a\\b,a\\b,a\\b,a\\b,a\\b,a\\b,a\\b,a\\b,a\\b,a\\b,a\\b,a\\b,a\\b,a\\b,a\\b,a\\b,a\\b,a\\b,a\\b,a\\b,a\\b,a\\b,a\\b,a\\b,a\\b,a\\b,a\\b,a\\b,a\\b,a\\b,a\\b,a\\b,a\\b,a\\b,a\\b,a\\b,a\\b,a\\b,a\\b,a\\b,a\\b,a\\b,a\\b,a\\b,a\\b,a\\b,a\\b,a\\b,a\\b,a\\b,a\\b,a\\b,a\\b,a\\b,a\\b,a\\b,a\\b,a\\b,a\\b,a\\b,a\\b,a\\b,a\\b,a\\b,a\\b,a\\b,a\\b,a\\b,a\\b,a\\b,a\\b,a\\b,a\\b,a\\b,a\\b,a\\b,a\\b,a\\b,a\\b,a\\b,a\\b,a\\b,a\\b,a\\b,a\\b,a\\b,a\\b,a\\b,a\\b,a\\b,a\\b,a\\b,a\\b,a\\b,a\\b,a\\b,a\\b,a\\b,a\\b,a\\b,a\\b,a\\b,a\\b,a\\b,a\\b,a\\b,a\\b,a\\b,a\\b,a\\b,a\\b,a\\b,a\\b,a\\b,a\\b,a\\b,a\\b,a\\b,a\\b,a\\b,a\\b,a\\b,a\\b,a\\b,a\\b,a\\b,a\\b,a\\b,a\\b,a\\b,a\\b,a\\b,a\\b,a\\b,a\\b,a\\b,a\\b,a\\b,a\\b,a\\b,a\\b,a\\b,a\\b,a\\b,a\\b,a\\b,a\\b,a\\b,a\\b,a\\b,a\\b,a\\b,a\\b,a\\b,a\\b,a\\b,a\\b,a\\b,a\\b,a\\b,a\\b,a\\b,a\\b,a\\b,a\\b,a\\b,a\\b,a\\b,a\\b,a\\b,a\\b,a\\b,a\\b,a\\b,a\\b,a\\b,a\\b,a\\b,a\\b,a\\b,a\\b,a\\b,a\\b,a\\b,a\\b,a\\b,a\\b,a\\b,a\\b,a\\b,a\\b,a\\b,a\\b,a\\b,a\\b,a\\b,a\\b,a\\b,a\\b,a\\b,a\\b,a\\b,a\\b,a\\b,a\\b,a\\b,a\\b,a\\b,a\\b,a\\b,a\\b,a\\b,a\\b]\n% query 1: 1 answers, 0 cut, 0 stuck\n"
unfolding swap_name name_eq name_before unify ending canonical digits
sampled_deep_00014 = refl

sampled_deep_00017 : program_report (programs (signature (codes "id" ∷ []) [] [] []) [] (query (goals.equal (v 0) (app 1 (pair (abs (n 0 1) (name (n 0 2))) (app 1 (pair (abs (n 0 1) (name (n 0 2))) (app 1 (pair (abs (n 0 1) (name (n 0 2))) (app 1 (pair (abs (n 0 1) (name (n 0 2))) (app 1 (pair (abs (n 0 1) (name (n 0 2))) (app 1 (pair (abs (n 0 1) (name (n 0 2))) (app 1 (pair (abs (n 0 1) (name (n 0 2))) (app 1 (pair (abs (n 0 1) (name (n 0 2))) (app 1 (pair (abs (n 0 1) (name (n 0 2))) (app 1 (pair (abs (n 0 1) (name (n 0 2))) (app 1 (pair (abs (n 0 1) (name (n 0 2))) (app 1 (pair (abs (n 0 1) (name (n 0 2))) (app 1 (pair (abs (n 0 1) (name (n 0 2))) (app 1 (pair (abs (n 0 1) (name (n 0 2))) (app 1 (pair (abs (n 0 1) (name (n 0 2))) (app 1 (pair (abs (n 0 1) (name (n 0 2))) (app 1 (pair (abs (n 0 1) (name (n 0 2))) (app 1 (pair (abs (n 0 1) (name (n 0 2))) (app 1 (pair (abs (n 0 1) (name (n 0 2))) (app 1 (pair (abs (n 0 1) (name (n 0 2))) (app 1 (pair (abs (n 0 1) (name (n 0 2))) (app 1 (pair (abs (n 0 1) (name (n 0 2))) (app 1 (pair (abs (n 0 1) (name (n 0 2))) (app 1 (pair (abs (n 0 1) (name (n 0 2))) (app 1 (pair (abs (n 0 1) (name (n 0 2))) (app 1 (pair (abs (n 0 1) (name (n 0 2))) (app 1 (pair (abs (n 0 1) (name (n 0 2))) (app 1 (pair (abs (n 0 1) (name (n 0 2))) (app 1 (pair (abs (n 0 1) (name (n 0 2))) (app 1 (pair (abs (n 0 1) (name (n 0 2))) (app 1 (pair (abs (n 0 1) (name (n 0 2))) (app 1 (pair (abs (n 0 1) (name (n 0 2))) (app 1 (pair (abs (n 0 1) (name (n 0 2))) (app 1 (pair (abs (n 0 1) (name (n 0 2))) (app 1 (pair (abs (n 0 1) (name (n 0 2))) (app 1 (pair (abs (n 0 1) (name (n 0 2))) (app 1 (pair (abs (n 0 1) (name (n 0 2))) (app 1 (pair (abs (n 0 1) (name (n 0 2))) (app 1 (pair (abs (n 0 1) (name (n 0 2))) (app 1 (pair (abs (n 0 1) (name (n 0 2))) (app 1 (pair (abs (n 0 1) (name (n 0 2))) (app 1 (pair (abs (n 0 1) (name (n 0 2))) (app 1 (pair (abs (n 0 1) (name (n 0 2))) (app 1 (pair (abs (n 0 1) (name (n 0 2))) (app 1 (pair (abs (n 0 1) (name (n 0 2))) (app 1 (pair (abs (n 0 1) (name (n 0 2))) (app 1 (pair (abs (n 0 1) (name (n 0 2))) (app 1 (pair (abs (n 0 1) (name (n 0 2))) (app 1 (pair (abs (n 0 1) (name (n 0 2))) (app 1 (pair (abs (n 0 1) (name (n 0 2))) (app 1 (pair (abs (n 0 1) (name (n 0 2))) (app 1 (pair (abs (n 0 1) (name (n 0 2))) (app 1 (pair (abs (n 0 1) (name (n 0 2))) (app 1 (pair (abs (n 0 1) (name (n 0 2))) (app 1 (pair (abs (n 0 1) (name (n 0 2))) (app 1 (pair (abs (n 0 1) (name (n 0 2))) (app 1 (pair (abs (n 0 1) (name (n 0 2))) (app 1 (pair (abs (n 0 1) (name (n 0 2))) (app 1 (pair (abs (n 0 1) (name (n 0 2))) (app 1 (pair (abs (n 0 1) (name (n 0 2))) (app 1 (pair (abs (n 0 1) (name (n 0 2))) (app 1 (pair (abs (n 0 1) (name (n 0 2))) (app 1 (pair (abs (n 0 1) (name (n 0 2))) (app 1 (pair (abs (n 0 1) (name (n 0 2))) (app 1 (pair (abs (n 0 1) (name (n 0 2))) (app 1 (pair (abs (n 0 1) (name (n 0 2))) (app 1 (pair (abs (n 0 1) (name (n 0 2))) (app 1 (pair (abs (n 0 1) (name (n 0 2))) (app 1 (pair (abs (n 0 1) (name (n 0 2))) (app 1 (pair (abs (n 0 1) (name (n 0 2))) (app 1 (pair (abs (n 0 1) (name (n 0 2))) (app 1 (pair (abs (n 0 1) (name (n 0 2))) (app 1 (pair (abs (n 0 1) (name (n 0 2))) (app 1 (pair (abs (n 0 1) (name (n 0 2))) (app 1 (pair (abs (n 0 1) (name (n 0 2))) (app 1 (pair (abs (n 0 1) (name (n 0 2))) (app 1 (pair (abs (n 0 1) (name (n 0 2))) (app 1 (pair (abs (n 0 1) (name (n 0 2))) (app 1 (pair (abs (n 0 1) (name (n 0 2))) (app 1 (pair (abs (n 0 1) (name (n 0 2))) (app 1 (pair (abs (n 0 1) (name (n 0 2))) (app 1 (pair (abs (n 0 1) (name (n 0 2))) (app 1 (pair (abs (n 0 1) (name (n 0 2))) (app 1 (pair (abs (n 0 1) (name (n 0 2))) (app 1 (pair (abs (n 0 1) (name (n 0 2))) (app 1 (pair (abs (n 0 1) (name (n 0 2))) (app 1 (pair (abs (n 0 1) (name (n 0 2))) (app 1 (pair (abs (n 0 1) (name (n 0 2))) (app 1 (pair (abs (n 0 1) (name (n 0 2))) (app 1 (pair (abs (n 0 1) (name (n 0 2))) (app 1 (pair (abs (n 0 1) (name (n 0 2))) (app 1 (pair (abs (n 0 1) (name (n 0 2))) (app 1 (pair (abs (n 0 1) (name (n 0 2))) (app 1 (pair (abs (n 0 1) (name (n 0 2))) (app 1 (pair (abs (n 0 1) (name (n 0 2))) (app 1 (pair (abs (n 0 1) (name (n 0 2))) (app 1 (pair (abs (n 0 1) (name (n 0 2))) (app 1 (pair (abs (n 0 1) (name (n 0 2))) (app 1 (pair (abs (n 0 1) (name (n 0 2))) (app 1 (pair (abs (n 0 1) (name (n 0 2))) (app 1 (pair (abs (n 0 1) (name (n 0 2))) (app 1 (pair (abs (n 0 1) (name (n 0 2))) (app 1 (pair (abs (n 0 1) (name (n 0 2))) (app 1 (pair (abs (n 0 1) (name (n 0 2))) (app 1 (pair (abs (n 0 1) (name (n 0 2))) (app 1 (pair (abs (n 0 1) (name (n 0 2))) (app 1 (pair (abs (n 0 1) (name (n 0 2))) (app 1 (pair (abs (n 0 1) (name (n 0 2))) (app 1 (pair (abs (n 0 1) (name (n 0 2))) (app 1 (pair (abs (n 0 1) (name (n 0 2))) (app 1 (pair (abs (n 0 1) (name (n 0 2))) (app 1 (pair (abs (n 0 1) (name (n 0 2))) (app 1 (pair (abs (n 0 1) (name (n 0 2))) (app 1 (pair (abs (n 0 1) (name (n 0 2))) (app 1 (pair (abs (n 0 1) (name (n 0 2))) (app 1 (pair (abs (n 0 1) (name (n 0 2))) (app 1 (pair (abs (n 0 1) (name (n 0 2))) (app 1 (pair (abs (n 0 1) (name (n 0 2))) (app 1 (pair (abs (n 0 1) (name (n 0 2))) (app 1 (pair (abs (n 0 1) (name (n 0 2))) (app 1 (pair (abs (n 0 1) (name (n 0 2))) (app 1 (pair (abs (n 0 1) (name (n 0 2))) (app 1 (pair (abs (n 0 1) (name (n 0 2))) (app 1 (pair (abs (n 0 1) (name (n 0 2))) (app 1 (pair (abs (n 0 1) (name (n 0 2))) (app 1 (pair (abs (n 0 1) (name (n 0 2))) (app 1 (pair (abs (n 0 1) (name (n 0 2))) (app 1 (pair (abs (n 0 1) (name (n 0 2))) (app 1 (pair (abs (n 0 1) (name (n 0 2))) (app 1 (pair (abs (n 0 1) (name (n 0 2))) (app 1 (pair (abs (n 0 1) (name (n 0 2))) (app 1 (pair (abs (n 0 1) (name (n 0 2))) (app 1 (pair (abs (n 0 1) (name (n 0 2))) (app 1 (pair (abs (n 0 1) (name (n 0 2))) (app 1 (pair (abs (n 0 1) (name (n 0 2))) (app 1 (pair (abs (n 0 1) (name (n 0 2))) (app 1 (pair (abs (n 0 1) (name (n 0 2))) (app 1 (pair (abs (n 0 1) (name (n 0 2))) (app 1 (pair (abs (n 0 1) (name (n 0 2))) (app 1 (pair (abs (n 0 1) (name (n 0 2))) (app 1 (pair (abs (n 0 1) (name (n 0 2))) (app 1 (pair (abs (n 0 1) (name (n 0 2))) (app 1 (pair (abs (n 0 1) (name (n 0 2))) (app 1 (pair (abs (n 0 1) (name (n 0 2))) (app 1 (pair (abs (n 0 1) (name (n 0 2))) (app 1 (pair (abs (n 0 1) (name (n 0 2))) (app 1 (pair (abs (n 0 1) (name (n 0 2))) (app 1 (pair (abs (n 0 1) (name (n 0 2))) (app 1 (pair (abs (n 0 1) (name (n 0 2))) (app 1 (pair (abs (n 0 1) (name (n 0 2))) (app 1 (pair (abs (n 0 1) (name (n 0 2))) (app 1 (pair (abs (n 0 1) (name (n 0 2))) (app 1 (pair (abs (n 0 1) (name (n 0 2))) (app 1 (pair (abs (n 0 1) (name (n 0 2))) (app 1 (pair (abs (n 0 1) (name (n 0 2))) (app 1 (pair (abs (n 0 1) (name (n 0 2))) (app 1 (pair (abs (n 0 1) (name (n 0 2))) (app 1 (pair (abs (n 0 1) (name (n 0 2))) (app 1 (pair (abs (n 0 1) (name (n 0 2))) (app 1 (pair (abs (n 0 1) (name (n 0 2))) (app 1 (pair (abs (n 0 1) (name (n 0 2))) (app 1 (pair (abs (n 0 1) (name (n 0 2))) (app 1 (pair (abs (n 0 1) (name (n 0 2))) (app 1 (pair (abs (n 0 1) (name (n 0 2))) (app 1 (pair (abs (n 0 1) (name (n 0 2))) (app 1 (pair (abs (n 0 1) (name (n 0 2))) (app 1 (pair (abs (n 0 1) (name (n 0 2))) (app 1 (pair (abs (n 0 1) (name (n 0 2))) (app 1 (pair (abs (n 0 1) (name (n 0 2))) (app 1 (pair (abs (n 0 1) (name (n 0 2))) (app 1 (pair (abs (n 0 1) (name (n 0 2))) (app 1 (pair (abs (n 0 1) (name (n 0 2))) (app 1 (pair (abs (n 0 1) (name (n 0 2))) (app 1 (pair (abs (n 0 1) (name (n 0 2))) (app 1 (pair (abs (n 0 1) (name (n 0 2))) (app 1 (pair (abs (n 0 1) (name (n 0 2))) (app 1 (pair (abs (n 0 1) (name (n 0 2))) (app 1 (pair (abs (n 0 1) (name (n 0 2))) (app 1 (pair (abs (n 0 1) (name (n 0 2))) (app 1 (pair (abs (n 0 1) (name (n 0 2))) (app 1 (pair (abs (n 0 1) (name (n 0 2))) (app 1 (pair (abs (n 0 1) (name (n 0 2))) (app 1 (pair (abs (n 0 1) (name (n 0 2))) (app 1 (pair (abs (n 0 1) (name (n 0 2))) (app 1 (pair (abs (n 0 1) (name (n 0 2))) (app 1 (pair (abs (n 0 1) (name (n 0 2))) (app 1 (pair (abs (n 0 1) (name (n 0 2))) (app 1 (pair (abs (n 0 1) (name (n 0 2))) (app 1 (pair (abs (n 0 1) (name (n 0 2))) (app 1 (pair (abs (n 0 1) (name (n 0 2))) (app 1 (pair (abs (n 0 1) (name (n 0 2))) (app 1 (pair (abs (n 0 1) (name (n 0 2))) (app 1 (pair (abs (n 0 1) (name (n 0 2))) (app 1 (pair (abs (n 0 1) (name (n 0 2))) (app 1 (pair (abs (n 0 1) (name (n 0 2))) (app 1 (pair (abs (n 0 1) (name (n 0 2))) (app 1 (pair (abs (n 0 1) (name (n 0 2))) (app 1 (pair (abs (n 0 1) (name (n 0 2))) (app 1 (pair (abs (n 0 1) (name (n 0 2))) (app 1 (pair (abs (n 0 1) (name (n 0 2))) (app 1 (pair (abs (n 0 1) (name (n 0 2))) (app 1 (pair (abs (n 0 1) (name (n 0 2))) (app 1 (pair (abs (n 0 1) (name (n 0 2))) (app 1 (pair (abs (n 0 1) (name (n 0 2))) (app 1 (pair (abs (n 0 1) (name (n 0 2))) (app 1 (pair (abs (n 0 1) (name (n 0 2))) (app 1 (pair (abs (n 0 1) (name (n 0 2))) (app 1 (pair (abs (n 0 1) (name (n 0 2))) (app 1 (pair (abs (n 0 1) (name (n 0 2))) (app 1 (pair (abs (n 0 1) (name (n 0 2))) (app 1 (pair (abs (n 0 1) (name (n 0 2))) (app 1 (pair (abs (n 0 1) (name (n 0 2))) (app 1 (pair (abs (n 0 1) (name (n 0 2))) (app 1 (pair (abs (n 0 1) (name (n 0 2))) (app 1 (pair (abs (n 0 1) (name (n 0 2))) (app 1 (pair (abs (n 0 1) (name (n 0 2))) (app 1 (pair (abs (n 0 1) (name (n 0 2))) (app 1 (pair (abs (n 0 1) (name (n 0 2))) (app 1 (pair (abs (n 0 1) (name (n 0 2))) (app 1 (pair (abs (n 0 1) (name (n 0 2))) (app 1 (pair (abs (n 0 1) (name (n 0 2))) (app 1 (pair (abs (n 0 1) (name (n 0 2))) (app 1 (pair (abs (n 0 1) (name (n 0 2))) (app 1 (pair (abs (n 0 1) (name (n 0 2))) (app 1 (pair (abs (n 0 1) (name (n 0 2))) (app 1 (pair (abs (n 0 1) (name (n 0 2))) (app 1 (pair (abs (n 0 1) (name (n 0 2))) (app 1 (pair (abs (n 0 1) (name (n 0 2))) (app 1 (pair (abs (n 0 1) (name (n 0 2))) (app 1 (pair (abs (n 0 1) (name (n 0 2))) (app 1 (pair (abs (n 0 1) (name (n 0 2))) (app 1 (pair (abs (n 0 1) (name (n 0 2))) (app 1 (pair (abs (n 0 1) (name (n 0 2))) (app 1 (pair (abs (n 0 1) (name (n 0 2))) (app 1 (pair (abs (n 0 1) (name (n 0 2))) (app 1 (pair (abs (n 0 1) (name (n 0 2))) (app 1 (pair (abs (n 0 1) (name (n 0 2))) (app 1 (pair (abs (n 0 1) (name (n 0 2))) (app 1 (pair (abs (n 0 1) (name (n 0 2))) (app 1 (pair (abs (n 0 1) (name (n 0 2))) (app 1 (pair (abs (n 0 1) (name (n 0 2))) (app 1 (pair (abs (n 0 1) (name (n 0 2))) (app 1 (pair (abs (n 0 1) (name (n 0 2))) (app 1 (pair (abs (n 0 1) (name (n 0 2))) (app 1 (pair (abs (n 0 1) (name (n 0 2))) (app 1 (pair (abs (n 0 1) (name (n 0 2))) (app 1 (pair (abs (n 0 1) (name (n 0 2))) (app 1 (pair (abs (n 0 1) (name (n 0 2))) (app 1 (pair (abs (n 0 1) (name (n 0 2))) (app 1 (pair (abs (n 0 1) (name (n 0 2))) (app 1 (pair (abs (n 0 1) (name (n 0 2))) (app 1 (pair (abs (n 0 1) (name (n 0 2))) (app 1 (pair (abs (n 0 1) (name (n 0 2))) (app 1 (pair (abs (n 0 1) (name (n 0 2))) (app 1 (pair (abs (n 0 1) (name (n 0 2))) (app 1 (pair (abs (n 0 1) (name (n 0 2))) (app 1 (pair (abs (n 0 1) (name (n 0 2))) (app 0 unit)))))))))))))))))))))))))))))))))))))))))))))))))))))))))))))))))))))))))))))))))))))))))))))))))))))))))))))))))))))))))))))))))))))))))))))))))))))))))))))))))))))))))))))))))))))))))))))))))))))))))))))))))))))))))))))))))))))))))))))))))))))))))))))))))))))))))))))))))))))))))))))))))))))))))))))))))))))))))))))))))))))))))))))))))))))))))))))))))))))))))))))))))))))))))))))))))))))))))))))))))))))))))))))))))))))))))))))))))))))))))))))))))))))))))))))))))))))))))))))))))))))))))))))))))))))))))))))))))))) (variable (types.list (types.abs 0 (types.names 0))) (codes "X") ∷ named 0 (codes "a") ∷ named 0 (codes "b") ∷ []) ∷ []) (codes "id" ∷ codes "X" ∷ codes "a" ∷ codes "b" ∷ [])) 3
    ≡ codes "X = [a\\b,a\\b,a\\b,a\\b,a\\b,a\\b,a\\b,a\\b,a\\b,a\\b,a\\b,a\\b,a\\b,a\\b,a\\b,a\\b,a\\b,a\\b,a\\b,a\\b,a\\b,a\\b,a\\b,a\\b,a\\b,a\\b,a\\b,a\\b,a\\b,a\\b,a\\b,a\\b,a\\b,a\\b,a\\b,a\\b,a\\b,a\\b,a\\b,a\\b,a\\b,a\\b,a\\b,a\\b,a\\b,a\\b,a\\b,a\\b,a\\b,a\\b,a\\b,a\\b,a\\b,a\\b,a\\b,a\\b,a\\b,a\\b,a\\b,a\\b,a\\b,a\\b,a\\b,a\\b,a\\b,a\\b,a\\b,a\\b,a\\b,a\\b,a\\b,a\\b,a\\b,a\\b,a\\b,a\\b,a\\b,a\\b,a\\b,a\\b,a\\b,a\\b,a\\b,a\\b,a\\b,a\\b,a\\b,a\\b,a\\b,a\\b,a\\b,a\\b,a\\b,a\\b,a\\b,a\\b,a\\b,a\\b,a\\b,a\\b,a\\b,a\\b,a\\b,a\\b,a\\b,a\\b,a\\b,a\\b,a\\b,a\\b,a\\b,a\\b,a\\b,a\\b,a\\b,a\\b,a\\b,a\\b,a\\b,a\\b,a\\b,a\\b,a\\b,a\\b,a\\b,a\\b,a\\b,a\\b,a\\b,a\\b,a\\b,a\\b,a\\b,a\\b,a\\b,a\\b,a\\b,a\\b,a\\b,a\\b,a\\b,a\\b,a\\b,a\\b,a\\b,a\\b,a\\b,a\\b,a\\b,a\\b,a\\b,a\\b,a\\b,a\\b,a\\b,a\\b,a\\b,a\\b,a\\b,a\\b,a\\b,a\\b,a\\b,a\\b,a\\b,a\\b,a\\b,a\\b,a\\b,a\\b,a\\b,a\\b,a\\b,a\\b,a\\b,a\\b,a\\b,a\\b,a\\b,a\\b,a\\b,a\\b,a\\b,a\\b,a\\b,a\\b,a\\b,a\\b,a\\b,a\\b,a\\b,a\\b,a\\b,a\\b,a\\b,a\\b,a\\b,a\\b,a\\b,a\\b,a\\b,a\\b,a\\b,a\\b,a\\b,a\\b,a\\b,a\\b,a\\b,a\\b,a\\b,a\\b,a\\b,a\\b,a\\b,a\\b,a\\b,a\\b,a\\b,a\\b,a\\b,a\\b,a\\b,a\\b,a\\b,a\\b,a\\b,a\\b,a\\b,a\\b,a\\b,a\\b,a\\b,a\\b,a\\b,a\\b,a\\b,a\\b,a\\b,a\\b,a\\b,a\\b,a\\b,a\\b,a\\b,a\\b,a\\b,a\\b,a\\b,a\\b,a\\b,a\\b,a\\b,a\\b,a\\b,a\\b,a\\b]\n% query 1: 1 answers, 0 cut, 0 stuck\n"
unfolding swap_name name_eq name_before unify ending canonical digits
sampled_deep_00017 = refl

sampled_deep_00023 : program_report (programs (signature (codes "id" ∷ []) [] [] []) [] (query (goals.equal (v 0) (app 1 (pair (abs (n 0 1) (name (n 0 2))) (app 1 (pair (abs (n 0 1) (name (n 0 2))) (app 1 (pair (abs (n 0 1) (name (n 0 2))) (app 1 (pair (abs (n 0 1) (name (n 0 2))) (app 1 (pair (abs (n 0 1) (name (n 0 2))) (app 1 (pair (abs (n 0 1) (name (n 0 2))) (app 1 (pair (abs (n 0 1) (name (n 0 2))) (app 1 (pair (abs (n 0 1) (name (n 0 2))) (app 1 (pair (abs (n 0 1) (name (n 0 2))) (app 1 (pair (abs (n 0 1) (name (n 0 2))) (app 1 (pair (abs (n 0 1) (name (n 0 2))) (app 1 (pair (abs (n 0 1) (name (n 0 2))) (app 1 (pair (abs (n 0 1) (name (n 0 2))) (app 1 (pair (abs (n 0 1) (name (n 0 2))) (app 1 (pair (abs (n 0 1) (name (n 0 2))) (app 1 (pair (abs (n 0 1) (name (n 0 2))) (app 1 (pair (abs (n 0 1) (name (n 0 2))) (app 1 (pair (abs (n 0 1) (name (n 0 2))) (app 1 (pair (abs (n 0 1) (name (n 0 2))) (app 1 (pair (abs (n 0 1) (name (n 0 2))) (app 1 (pair (abs (n 0 1) (name (n 0 2))) (app 1 (pair (abs (n 0 1) (name (n 0 2))) (app 1 (pair (abs (n 0 1) (name (n 0 2))) (app 1 (pair (abs (n 0 1) (name (n 0 2))) (app 1 (pair (abs (n 0 1) (name (n 0 2))) (app 1 (pair (abs (n 0 1) (name (n 0 2))) (app 1 (pair (abs (n 0 1) (name (n 0 2))) (app 1 (pair (abs (n 0 1) (name (n 0 2))) (app 1 (pair (abs (n 0 1) (name (n 0 2))) (app 1 (pair (abs (n 0 1) (name (n 0 2))) (app 1 (pair (abs (n 0 1) (name (n 0 2))) (app 1 (pair (abs (n 0 1) (name (n 0 2))) (app 1 (pair (abs (n 0 1) (name (n 0 2))) (app 1 (pair (abs (n 0 1) (name (n 0 2))) (app 1 (pair (abs (n 0 1) (name (n 0 2))) (app 1 (pair (abs (n 0 1) (name (n 0 2))) (app 1 (pair (abs (n 0 1) (name (n 0 2))) (app 1 (pair (abs (n 0 1) (name (n 0 2))) (app 1 (pair (abs (n 0 1) (name (n 0 2))) (app 1 (pair (abs (n 0 1) (name (n 0 2))) (app 1 (pair (abs (n 0 1) (name (n 0 2))) (app 1 (pair (abs (n 0 1) (name (n 0 2))) (app 1 (pair (abs (n 0 1) (name (n 0 2))) (app 1 (pair (abs (n 0 1) (name (n 0 2))) (app 1 (pair (abs (n 0 1) (name (n 0 2))) (app 1 (pair (abs (n 0 1) (name (n 0 2))) (app 1 (pair (abs (n 0 1) (name (n 0 2))) (app 1 (pair (abs (n 0 1) (name (n 0 2))) (app 1 (pair (abs (n 0 1) (name (n 0 2))) (app 1 (pair (abs (n 0 1) (name (n 0 2))) (app 1 (pair (abs (n 0 1) (name (n 0 2))) (app 1 (pair (abs (n 0 1) (name (n 0 2))) (app 1 (pair (abs (n 0 1) (name (n 0 2))) (app 1 (pair (abs (n 0 1) (name (n 0 2))) (app 1 (pair (abs (n 0 1) (name (n 0 2))) (app 1 (pair (abs (n 0 1) (name (n 0 2))) (app 1 (pair (abs (n 0 1) (name (n 0 2))) (app 1 (pair (abs (n 0 1) (name (n 0 2))) (app 1 (pair (abs (n 0 1) (name (n 0 2))) (app 1 (pair (abs (n 0 1) (name (n 0 2))) (app 1 (pair (abs (n 0 1) (name (n 0 2))) (app 1 (pair (abs (n 0 1) (name (n 0 2))) (app 1 (pair (abs (n 0 1) (name (n 0 2))) (app 1 (pair (abs (n 0 1) (name (n 0 2))) (app 1 (pair (abs (n 0 1) (name (n 0 2))) (app 1 (pair (abs (n 0 1) (name (n 0 2))) (app 1 (pair (abs (n 0 1) (name (n 0 2))) (app 1 (pair (abs (n 0 1) (name (n 0 2))) (app 1 (pair (abs (n 0 1) (name (n 0 2))) (app 1 (pair (abs (n 0 1) (name (n 0 2))) (app 1 (pair (abs (n 0 1) (name (n 0 2))) (app 1 (pair (abs (n 0 1) (name (n 0 2))) (app 1 (pair (abs (n 0 1) (name (n 0 2))) (app 1 (pair (abs (n 0 1) (name (n 0 2))) (app 1 (pair (abs (n 0 1) (name (n 0 2))) (app 1 (pair (abs (n 0 1) (name (n 0 2))) (app 1 (pair (abs (n 0 1) (name (n 0 2))) (app 1 (pair (abs (n 0 1) (name (n 0 2))) (app 1 (pair (abs (n 0 1) (name (n 0 2))) (app 1 (pair (abs (n 0 1) (name (n 0 2))) (app 1 (pair (abs (n 0 1) (name (n 0 2))) (app 1 (pair (abs (n 0 1) (name (n 0 2))) (app 1 (pair (abs (n 0 1) (name (n 0 2))) (app 1 (pair (abs (n 0 1) (name (n 0 2))) (app 1 (pair (abs (n 0 1) (name (n 0 2))) (app 1 (pair (abs (n 0 1) (name (n 0 2))) (app 1 (pair (abs (n 0 1) (name (n 0 2))) (app 1 (pair (abs (n 0 1) (name (n 0 2))) (app 1 (pair (abs (n 0 1) (name (n 0 2))) (app 1 (pair (abs (n 0 1) (name (n 0 2))) (app 1 (pair (abs (n 0 1) (name (n 0 2))) (app 1 (pair (abs (n 0 1) (name (n 0 2))) (app 1 (pair (abs (n 0 1) (name (n 0 2))) (app 1 (pair (abs (n 0 1) (name (n 0 2))) (app 1 (pair (abs (n 0 1) (name (n 0 2))) (app 1 (pair (abs (n 0 1) (name (n 0 2))) (app 1 (pair (abs (n 0 1) (name (n 0 2))) (app 1 (pair (abs (n 0 1) (name (n 0 2))) (app 1 (pair (abs (n 0 1) (name (n 0 2))) (app 1 (pair (abs (n 0 1) (name (n 0 2))) (app 1 (pair (abs (n 0 1) (name (n 0 2))) (app 1 (pair (abs (n 0 1) (name (n 0 2))) (app 1 (pair (abs (n 0 1) (name (n 0 2))) (app 1 (pair (abs (n 0 1) (name (n 0 2))) (app 1 (pair (abs (n 0 1) (name (n 0 2))) (app 1 (pair (abs (n 0 1) (name (n 0 2))) (app 1 (pair (abs (n 0 1) (name (n 0 2))) (app 1 (pair (abs (n 0 1) (name (n 0 2))) (app 1 (pair (abs (n 0 1) (name (n 0 2))) (app 1 (pair (abs (n 0 1) (name (n 0 2))) (app 1 (pair (abs (n 0 1) (name (n 0 2))) (app 1 (pair (abs (n 0 1) (name (n 0 2))) (app 1 (pair (abs (n 0 1) (name (n 0 2))) (app 1 (pair (abs (n 0 1) (name (n 0 2))) (app 1 (pair (abs (n 0 1) (name (n 0 2))) (app 1 (pair (abs (n 0 1) (name (n 0 2))) (app 1 (pair (abs (n 0 1) (name (n 0 2))) (app 1 (pair (abs (n 0 1) (name (n 0 2))) (app 1 (pair (abs (n 0 1) (name (n 0 2))) (app 1 (pair (abs (n 0 1) (name (n 0 2))) (app 1 (pair (abs (n 0 1) (name (n 0 2))) (app 1 (pair (abs (n 0 1) (name (n 0 2))) (app 1 (pair (abs (n 0 1) (name (n 0 2))) (app 1 (pair (abs (n 0 1) (name (n 0 2))) (app 1 (pair (abs (n 0 1) (name (n 0 2))) (app 1 (pair (abs (n 0 1) (name (n 0 2))) (app 1 (pair (abs (n 0 1) (name (n 0 2))) (app 1 (pair (abs (n 0 1) (name (n 0 2))) (app 1 (pair (abs (n 0 1) (name (n 0 2))) (app 1 (pair (abs (n 0 1) (name (n 0 2))) (app 1 (pair (abs (n 0 1) (name (n 0 2))) (app 1 (pair (abs (n 0 1) (name (n 0 2))) (app 1 (pair (abs (n 0 1) (name (n 0 2))) (app 1 (pair (abs (n 0 1) (name (n 0 2))) (app 1 (pair (abs (n 0 1) (name (n 0 2))) (app 1 (pair (abs (n 0 1) (name (n 0 2))) (app 1 (pair (abs (n 0 1) (name (n 0 2))) (app 1 (pair (abs (n 0 1) (name (n 0 2))) (app 1 (pair (abs (n 0 1) (name (n 0 2))) (app 1 (pair (abs (n 0 1) (name (n 0 2))) (app 1 (pair (abs (n 0 1) (name (n 0 2))) (app 1 (pair (abs (n 0 1) (name (n 0 2))) (app 1 (pair (abs (n 0 1) (name (n 0 2))) (app 1 (pair (abs (n 0 1) (name (n 0 2))) (app 1 (pair (abs (n 0 1) (name (n 0 2))) (app 1 (pair (abs (n 0 1) (name (n 0 2))) (app 1 (pair (abs (n 0 1) (name (n 0 2))) (app 1 (pair (abs (n 0 1) (name (n 0 2))) (app 1 (pair (abs (n 0 1) (name (n 0 2))) (app 1 (pair (abs (n 0 1) (name (n 0 2))) (app 1 (pair (abs (n 0 1) (name (n 0 2))) (app 1 (pair (abs (n 0 1) (name (n 0 2))) (app 1 (pair (abs (n 0 1) (name (n 0 2))) (app 1 (pair (abs (n 0 1) (name (n 0 2))) (app 1 (pair (abs (n 0 1) (name (n 0 2))) (app 1 (pair (abs (n 0 1) (name (n 0 2))) (app 1 (pair (abs (n 0 1) (name (n 0 2))) (app 1 (pair (abs (n 0 1) (name (n 0 2))) (app 1 (pair (abs (n 0 1) (name (n 0 2))) (app 1 (pair (abs (n 0 1) (name (n 0 2))) (app 1 (pair (abs (n 0 1) (name (n 0 2))) (app 1 (pair (abs (n 0 1) (name (n 0 2))) (app 1 (pair (abs (n 0 1) (name (n 0 2))) (app 1 (pair (abs (n 0 1) (name (n 0 2))) (app 1 (pair (abs (n 0 1) (name (n 0 2))) (app 1 (pair (abs (n 0 1) (name (n 0 2))) (app 1 (pair (abs (n 0 1) (name (n 0 2))) (app 1 (pair (abs (n 0 1) (name (n 0 2))) (app 1 (pair (abs (n 0 1) (name (n 0 2))) (app 1 (pair (abs (n 0 1) (name (n 0 2))) (app 1 (pair (abs (n 0 1) (name (n 0 2))) (app 1 (pair (abs (n 0 1) (name (n 0 2))) (app 1 (pair (abs (n 0 1) (name (n 0 2))) (app 1 (pair (abs (n 0 1) (name (n 0 2))) (app 1 (pair (abs (n 0 1) (name (n 0 2))) (app 1 (pair (abs (n 0 1) (name (n 0 2))) (app 1 (pair (abs (n 0 1) (name (n 0 2))) (app 1 (pair (abs (n 0 1) (name (n 0 2))) (app 1 (pair (abs (n 0 1) (name (n 0 2))) (app 1 (pair (abs (n 0 1) (name (n 0 2))) (app 1 (pair (abs (n 0 1) (name (n 0 2))) (app 1 (pair (abs (n 0 1) (name (n 0 2))) (app 1 (pair (abs (n 0 1) (name (n 0 2))) (app 1 (pair (abs (n 0 1) (name (n 0 2))) (app 1 (pair (abs (n 0 1) (name (n 0 2))) (app 1 (pair (abs (n 0 1) (name (n 0 2))) (app 1 (pair (abs (n 0 1) (name (n 0 2))) (app 1 (pair (abs (n 0 1) (name (n 0 2))) (app 1 (pair (abs (n 0 1) (name (n 0 2))) (app 1 (pair (abs (n 0 1) (name (n 0 2))) (app 1 (pair (abs (n 0 1) (name (n 0 2))) (app 1 (pair (abs (n 0 1) (name (n 0 2))) (app 1 (pair (abs (n 0 1) (name (n 0 2))) (app 1 (pair (abs (n 0 1) (name (n 0 2))) (app 1 (pair (abs (n 0 1) (name (n 0 2))) (app 1 (pair (abs (n 0 1) (name (n 0 2))) (app 1 (pair (abs (n 0 1) (name (n 0 2))) (app 1 (pair (abs (n 0 1) (name (n 0 2))) (app 1 (pair (abs (n 0 1) (name (n 0 2))) (app 1 (pair (abs (n 0 1) (name (n 0 2))) (app 1 (pair (abs (n 0 1) (name (n 0 2))) (app 1 (pair (abs (n 0 1) (name (n 0 2))) (app 1 (pair (abs (n 0 1) (name (n 0 2))) (app 1 (pair (abs (n 0 1) (name (n 0 2))) (app 1 (pair (abs (n 0 1) (name (n 0 2))) (app 1 (pair (abs (n 0 1) (name (n 0 2))) (app 1 (pair (abs (n 0 1) (name (n 0 2))) (app 1 (pair (abs (n 0 1) (name (n 0 2))) (app 1 (pair (abs (n 0 1) (name (n 0 2))) (app 1 (pair (abs (n 0 1) (name (n 0 2))) (app 1 (pair (abs (n 0 1) (name (n 0 2))) (app 1 (pair (abs (n 0 1) (name (n 0 2))) (app 1 (pair (abs (n 0 1) (name (n 0 2))) (app 1 (pair (abs (n 0 1) (name (n 0 2))) (app 1 (pair (abs (n 0 1) (name (n 0 2))) (app 1 (pair (abs (n 0 1) (name (n 0 2))) (app 1 (pair (abs (n 0 1) (name (n 0 2))) (app 1 (pair (abs (n 0 1) (name (n 0 2))) (app 1 (pair (abs (n 0 1) (name (n 0 2))) (app 1 (pair (abs (n 0 1) (name (n 0 2))) (app 1 (pair (abs (n 0 1) (name (n 0 2))) (app 1 (pair (abs (n 0 1) (name (n 0 2))) (app 1 (pair (abs (n 0 1) (name (n 0 2))) (app 1 (pair (abs (n 0 1) (name (n 0 2))) (app 1 (pair (abs (n 0 1) (name (n 0 2))) (app 1 (pair (abs (n 0 1) (name (n 0 2))) (app 1 (pair (abs (n 0 1) (name (n 0 2))) (app 1 (pair (abs (n 0 1) (name (n 0 2))) (app 1 (pair (abs (n 0 1) (name (n 0 2))) (app 1 (pair (abs (n 0 1) (name (n 0 2))) (app 1 (pair (abs (n 0 1) (name (n 0 2))) (app 1 (pair (abs (n 0 1) (name (n 0 2))) (app 1 (pair (abs (n 0 1) (name (n 0 2))) (app 1 (pair (abs (n 0 1) (name (n 0 2))) (app 1 (pair (abs (n 0 1) (name (n 0 2))) (app 1 (pair (abs (n 0 1) (name (n 0 2))) (app 1 (pair (abs (n 0 1) (name (n 0 2))) (app 1 (pair (abs (n 0 1) (name (n 0 2))) (app 1 (pair (abs (n 0 1) (name (n 0 2))) (app 1 (pair (abs (n 0 1) (name (n 0 2))) (app 1 (pair (abs (n 0 1) (name (n 0 2))) (app 1 (pair (abs (n 0 1) (name (n 0 2))) (app 1 (pair (abs (n 0 1) (name (n 0 2))) (app 1 (pair (abs (n 0 1) (name (n 0 2))) (app 1 (pair (abs (n 0 1) (name (n 0 2))) (app 1 (pair (abs (n 0 1) (name (n 0 2))) (app 1 (pair (abs (n 0 1) (name (n 0 2))) (app 1 (pair (abs (n 0 1) (name (n 0 2))) (app 1 (pair (abs (n 0 1) (name (n 0 2))) (app 1 (pair (abs (n 0 1) (name (n 0 2))) (app 1 (pair (abs (n 0 1) (name (n 0 2))) (app 1 (pair (abs (n 0 1) (name (n 0 2))) (app 1 (pair (abs (n 0 1) (name (n 0 2))) (app 1 (pair (abs (n 0 1) (name (n 0 2))) (app 1 (pair (abs (n 0 1) (name (n 0 2))) (app 0 unit)))))))))))))))))))))))))))))))))))))))))))))))))))))))))))))))))))))))))))))))))))))))))))))))))))))))))))))))))))))))))))))))))))))))))))))))))))))))))))))))))))))))))))))))))))))))))))))))))))))))))))))))))))))))))))))))))))))))))))))))))))))))))))))))))))))))))))))))))))))))))))))))))))))))))))))))))))))))))))))))))))))))))))))))))))))))))))))))))))))))))))))))))))))))))))))))))))))))))))))))))))))))))))))))))))))))))))))))))))))))))))))))))))))))))))))))))))))))))))))))))))))))))))))))))))))))))))))))) (variable (types.list (types.abs 0 (types.names 0))) (codes "X") ∷ named 0 (codes "a") ∷ named 0 (codes "b") ∷ []) ∷ []) (codes "id" ∷ codes "X" ∷ codes "a" ∷ codes "b" ∷ [])) 2
    ≡ codes "X = [a\\b,a\\b,a\\b,a\\b,a\\b,a\\b,a\\b,a\\b,a\\b,a\\b,a\\b,a\\b,a\\b,a\\b,a\\b,a\\b,a\\b,a\\b,a\\b,a\\b,a\\b,a\\b,a\\b,a\\b,a\\b,a\\b,a\\b,a\\b,a\\b,a\\b,a\\b,a\\b,a\\b,a\\b,a\\b,a\\b,a\\b,a\\b,a\\b,a\\b,a\\b,a\\b,a\\b,a\\b,a\\b,a\\b,a\\b,a\\b,a\\b,a\\b,a\\b,a\\b,a\\b,a\\b,a\\b,a\\b,a\\b,a\\b,a\\b,a\\b,a\\b,a\\b,a\\b,a\\b,a\\b,a\\b,a\\b,a\\b,a\\b,a\\b,a\\b,a\\b,a\\b,a\\b,a\\b,a\\b,a\\b,a\\b,a\\b,a\\b,a\\b,a\\b,a\\b,a\\b,a\\b,a\\b,a\\b,a\\b,a\\b,a\\b,a\\b,a\\b,a\\b,a\\b,a\\b,a\\b,a\\b,a\\b,a\\b,a\\b,a\\b,a\\b,a\\b,a\\b,a\\b,a\\b,a\\b,a\\b,a\\b,a\\b,a\\b,a\\b,a\\b,a\\b,a\\b,a\\b,a\\b,a\\b,a\\b,a\\b,a\\b,a\\b,a\\b,a\\b,a\\b,a\\b,a\\b,a\\b,a\\b,a\\b,a\\b,a\\b,a\\b,a\\b,a\\b,a\\b,a\\b,a\\b,a\\b,a\\b,a\\b,a\\b,a\\b,a\\b,a\\b,a\\b,a\\b,a\\b,a\\b,a\\b,a\\b,a\\b,a\\b,a\\b,a\\b,a\\b,a\\b,a\\b,a\\b,a\\b,a\\b,a\\b,a\\b,a\\b,a\\b,a\\b,a\\b,a\\b,a\\b,a\\b,a\\b,a\\b,a\\b,a\\b,a\\b,a\\b,a\\b,a\\b,a\\b,a\\b,a\\b,a\\b,a\\b,a\\b,a\\b,a\\b,a\\b,a\\b,a\\b,a\\b,a\\b,a\\b,a\\b,a\\b,a\\b,a\\b,a\\b,a\\b,a\\b,a\\b,a\\b,a\\b,a\\b,a\\b,a\\b,a\\b,a\\b,a\\b,a\\b,a\\b,a\\b,a\\b,a\\b,a\\b,a\\b,a\\b,a\\b,a\\b,a\\b,a\\b,a\\b,a\\b,a\\b,a\\b,a\\b,a\\b,a\\b,a\\b,a\\b,a\\b,a\\b,a\\b,a\\b,a\\b,a\\b,a\\b,a\\b,a\\b,a\\b,a\\b,a\\b,a\\b,a\\b,a\\b,a\\b,a\\b,a\\b,a\\b,a\\b,a\\b,a\\b,a\\b,a\\b,a\\b,a\\b]\n% query 1: 1 answers, 0 cut, 0 stuck\n"
unfolding swap_name name_eq name_before unify ending canonical digits
sampled_deep_00023 = refl

sampled_deep_00026 : program_report (programs (signature (codes "id" ∷ []) [] [] []) [] (query (goals.equal (v 0) (pair (name (n 0 1)) (app 1 (pair (abs (n 0 2) (pair (name (n 0 1)) (app 1 (pair (abs (n 0 2) (pair (name (n 0 1)) (app 1 (pair (abs (n 0 2) (pair (name (n 0 1)) (app 1 (pair (abs (n 0 2) (pair (name (n 0 1)) (app 1 (pair (abs (n 0 2) (pair (name (n 0 1)) (app 1 (pair (abs (n 0 2) (pair (name (n 0 1)) (app 1 (pair (abs (n 0 2) (pair (name (n 0 1)) (app 1 (pair (abs (n 0 2) (pair (name (n 0 1)) (app 1 (pair (abs (n 0 2) (pair (name (n 0 1)) (app 1 (pair (abs (n 0 2) (pair (name (n 0 1)) (app 1 (pair (abs (n 0 2) (pair (name (n 0 1)) (app 1 (pair (abs (n 0 2) (pair (name (n 0 1)) (app 1 (pair (abs (n 0 2) (pair (name (n 0 1)) (app 1 (pair (abs (n 0 2) (pair (name (n 0 1)) (app 1 (pair (abs (n 0 2) (pair (name (n 0 1)) (app 1 (pair (abs (n 0 2) (pair (name (n 0 1)) (app 1 (pair (abs (n 0 2) (pair (name (n 0 1)) (app 1 (pair (abs (n 0 2) (pair (name (n 0 1)) (app 1 (pair (abs (n 0 2) (pair (name (n 0 1)) (app 1 (pair (abs (n 0 2) (pair (name (n 0 1)) (app 1 (pair (abs (n 0 2) (pair (name (n 0 1)) (app 1 (pair (abs (n 0 2) (pair (name (n 0 1)) (app 1 (pair (abs (n 0 2) (pair (name (n 0 1)) (app 1 (pair (abs (n 0 2) (pair (name (n 0 1)) (app 1 (pair (abs (n 0 2) (pair (name (n 0 1)) (app 1 (pair (abs (n 0 2) (pair (name (n 0 1)) (app 1 (pair (abs (n 0 2) (pair (name (n 0 1)) (app 1 (pair (abs (n 0 2) (pair (name (n 0 1)) (app 1 (pair (abs (n 0 2) (pair (name (n 0 1)) (app 1 (pair (abs (n 0 2) (pair (name (n 0 1)) (app 1 (pair (abs (n 0 2) (pair (name (n 0 1)) (app 1 (pair (abs (n 0 2) (pair (name (n 0 1)) (app 1 (pair (abs (n 0 2) (pair (name (n 0 1)) (app 1 (pair (abs (n 0 2) (pair (name (n 0 1)) (app 1 (pair (abs (n 0 2) (pair (name (n 0 1)) (app 1 (pair (abs (n 0 2) (pair (name (n 0 1)) (app 1 (pair (abs (n 0 2) (pair (name (n 0 1)) (app 1 (pair (abs (n 0 2) (pair (name (n 0 1)) (app 1 (pair (abs (n 0 2) (pair (name (n 0 1)) (app 1 (pair (abs (n 0 2) (pair (name (n 0 1)) (app 1 (pair (abs (n 0 2) (pair (name (n 0 1)) (app 1 (pair (abs (n 0 2) (pair (name (n 0 1)) (app 1 (pair (abs (n 0 2) (pair (name (n 0 1)) (app 1 (pair (abs (n 0 2) (pair (name (n 0 1)) (app 1 (pair (abs (n 0 2) (pair (name (n 0 1)) (app 1 (pair (abs (n 0 2) (pair (name (n 0 1)) (app 1 (pair (abs (n 0 2) (pair (name (n 0 1)) (app 1 (pair (abs (n 0 2) (pair (name (n 0 1)) (app 1 (pair (abs (n 0 2) (pair (name (n 0 1)) (app 1 (pair (abs (n 0 2) (pair (name (n 0 1)) (app 1 (pair (abs (n 0 2) (pair (name (n 0 1)) (app 1 (pair (abs (n 0 2) (pair (name (n 0 1)) (app 1 (pair (abs (n 0 2) (pair (name (n 0 1)) (app 1 (pair (abs (n 0 2) (pair (name (n 0 1)) (app 1 (pair (abs (n 0 2) (pair (name (n 0 1)) (app 1 (pair (abs (n 0 2) (pair (name (n 0 1)) (app 1 (pair (abs (n 0 2) (pair (name (n 0 1)) (app 1 (pair (abs (n 0 2) (pair (name (n 0 1)) (app 1 (pair (abs (n 0 2) (pair (name (n 0 1)) (app 1 (pair (abs (n 0 2) (pair (name (n 0 1)) (app 1 (pair (abs (n 0 2) (pair (name (n 0 1)) (app 1 (pair (abs (n 0 2) (pair (name (n 0 1)) (app 1 (pair (abs (n 0 2) (pair (name (n 0 1)) (app 1 (pair (abs (n 0 2) (pair (name (n 0 1)) (app 1 (pair (abs (n 0 2) (pair (name (n 0 1)) (app 1 (pair (abs (n 0 2) (pair (name (n 0 1)) (app 1 (pair (abs (n 0 2) (pair (name (n 0 1)) (app 1 (pair (abs (n 0 2) (pair (name (n 0 1)) (app 1 (pair (abs (n 0 2) (pair (name (n 0 1)) (app 1 (pair (abs (n 0 2) (pair (name (n 0 1)) (app 1 (pair (abs (n 0 2) (pair (name (n 0 1)) (app 1 (pair (abs (n 0 2) (pair (name (n 0 1)) (app 1 (pair (abs (n 0 2) (pair (name (n 0 1)) (app 1 (pair (abs (n 0 2) (pair (name (n 0 1)) (app 1 (pair (abs (n 0 2) (pair (name (n 0 1)) (app 1 (pair (abs (n 0 2) (pair (name (n 0 1)) (app 1 (pair (abs (n 0 2) (pair (name (n 0 1)) (app 1 (pair (abs (n 0 2) (pair (name (n 0 1)) (app 1 (pair (abs (n 0 2) (pair (name (n 0 1)) (app 1 (pair (abs (n 0 2) (pair (name (n 0 1)) (app 1 (pair (abs (n 0 2) (pair (name (n 0 1)) (app 1 (pair (abs (n 0 2) (pair (name (n 0 1)) (app 1 (pair (abs (n 0 2) (pair (name (n 0 1)) (app 1 (pair (abs (n 0 2) (pair (name (n 0 1)) (app 1 (pair (abs (n 0 2) (name (n 0 3))) (app 0 unit))))) (app 0 unit))))) (app 0 unit))))) (app 0 unit))))) (app 0 unit))))) (app 0 unit))))) (app 0 unit))))) (app 0 unit))))) (app 0 unit))))) (app 0 unit))))) (app 0 unit))))) (app 0 unit))))) (app 0 unit))))) (app 0 unit))))) (app 0 unit))))) (app 0 unit))))) (app 0 unit))))) (app 0 unit))))) (app 0 unit))))) (app 0 unit))))) (app 0 unit))))) (app 0 unit))))) (app 0 unit))))) (app 0 unit))))) (app 0 unit))))) (app 0 unit))))) (app 0 unit))))) (app 0 unit))))) (app 0 unit))))) (app 0 unit))))) (app 0 unit))))) (app 0 unit))))) (app 0 unit))))) (app 0 unit))))) (app 0 unit))))) (app 0 unit))))) (app 0 unit))))) (app 0 unit))))) (app 0 unit))))) (app 0 unit))))) (app 0 unit))))) (app 0 unit))))) (app 0 unit))))) (app 0 unit))))) (app 0 unit))))) (app 0 unit))))) (app 0 unit))))) (app 0 unit))))) (app 0 unit))))) (app 0 unit))))) (app 0 unit))))) (app 0 unit))))) (app 0 unit))))) (app 0 unit))))) (app 0 unit))))) (app 0 unit))))) (app 0 unit))))) (app 0 unit))))) (app 0 unit))))) (app 0 unit))))) (app 0 unit))))) (app 0 unit))))) (app 0 unit))))) (app 0 unit))))) (app 0 unit))))) (app 0 unit))))) (app 0 unit))))) (app 0 unit))))) (app 0 unit))))) (app 0 unit))))) (app 0 unit))))) (app 0 unit))))) (app 0 unit))))) (app 0 unit))))) (app 0 unit))))) (app 0 unit))))) (app 0 unit))))) (app 0 unit))))) (app 0 unit))))) (app 0 unit))))) (app 0 unit))))) (app 0 unit))))) (app 0 unit))))) (app 0 unit))))) (app 0 unit))))) (variable (types.pair (types.names 0) (types.list (types.abs 0 (types.pair (types.names 0) (types.list (types.abs 0 (types.pair (types.names 0) (types.list (types.abs 0 (types.pair (types.names 0) (types.list (types.abs 0 (types.pair (types.names 0) (types.list (types.abs 0 (types.pair (types.names 0) (types.list (types.abs 0 (types.pair (types.names 0) (types.list (types.abs 0 (types.pair (types.names 0) (types.list (types.abs 0 (types.pair (types.names 0) (types.list (types.abs 0 (types.pair (types.names 0) (types.list (types.abs 0 (types.pair (types.names 0) (types.list (types.abs 0 (types.pair (types.names 0) (types.list (types.abs 0 (types.pair (types.names 0) (types.list (types.abs 0 (types.pair (types.names 0) (types.list (types.abs 0 (types.pair (types.names 0) (types.list (types.abs 0 (types.pair (types.names 0) (types.list (types.abs 0 (types.pair (types.names 0) (types.list (types.abs 0 (types.pair (types.names 0) (types.list (types.abs 0 (types.pair (types.names 0) (types.list (types.abs 0 (types.pair (types.names 0) (types.list (types.abs 0 (types.pair (types.names 0) (types.list (types.abs 0 (types.pair (types.names 0) (types.list (types.abs 0 (types.pair (types.names 0) (types.list (types.abs 0 (types.pair (types.names 0) (types.list (types.abs 0 (types.pair (types.names 0) (types.list (types.abs 0 (types.pair (types.names 0) (types.list (types.abs 0 (types.pair (types.names 0) (types.list (types.abs 0 (types.pair (types.names 0) (types.list (types.abs 0 (types.pair (types.names 0) (types.list (types.abs 0 (types.pair (types.names 0) (types.list (types.abs 0 (types.pair (types.names 0) (types.list (types.abs 0 (types.pair (types.names 0) (types.list (types.abs 0 (types.pair (types.names 0) (types.list (types.abs 0 (types.pair (types.names 0) (types.list (types.abs 0 (types.pair (types.names 0) (types.list (types.abs 0 (types.pair (types.names 0) (types.list (types.abs 0 (types.pair (types.names 0) (types.list (types.abs 0 (types.pair (types.names 0) (types.list (types.abs 0 (types.pair (types.names 0) (types.list (types.abs 0 (types.pair (types.names 0) (types.list (types.abs 0 (types.pair (types.names 0) (types.list (types.abs 0 (types.pair (types.names 0) (types.list (types.abs 0 (types.pair (types.names 0) (types.list (types.abs 0 (types.pair (types.names 0) (types.list (types.abs 0 (types.pair (types.names 0) (types.list (types.abs 0 (types.pair (types.names 0) (types.list (types.abs 0 (types.pair (types.names 0) (types.list (types.abs 0 (types.pair (types.names 0) (types.list (types.abs 0 (types.pair (types.names 0) (types.list (types.abs 0 (types.pair (types.names 0) (types.list (types.abs 0 (types.pair (types.names 0) (types.list (types.abs 0 (types.pair (types.names 0) (types.list (types.abs 0 (types.pair (types.names 0) (types.list (types.abs 0 (types.pair (types.names 0) (types.list (types.abs 0 (types.pair (types.names 0) (types.list (types.abs 0 (types.pair (types.names 0) (types.list (types.abs 0 (types.pair (types.names 0) (types.list (types.abs 0 (types.pair (types.names 0) (types.list (types.abs 0 (types.pair (types.names 0) (types.list (types.abs 0 (types.pair (types.names 0) (types.list (types.abs 0 (types.pair (types.names 0) (types.list (types.abs 0 (types.pair (types.names 0) (types.list (types.abs 0 (types.pair (types.names 0) (types.list (types.abs 0 (types.pair (types.names 0) (types.list (types.abs 0 (types.pair (types.names 0) (types.list (types.abs 0 (types.pair (types.names 0) (types.list (types.abs 0 (types.pair (types.names 0) (types.list (types.abs 0 (types.pair (types.names 0) (types.list (types.abs 0 (types.pair (types.names 0) (types.list (types.abs 0 (types.pair (types.names 0) (types.list (types.abs 0 (types.pair (types.names 0) (types.list (types.abs 0 (types.pair (types.names 0) (types.list (types.abs 0 (types.pair (types.names 0) (types.list (types.abs 0 (types.pair (types.names 0) (types.list (types.abs 0 (types.pair (types.names 0) (types.list (types.abs 0 (types.pair (types.names 0) (types.list (types.abs 0 (types.pair (types.names 0) (types.list (types.abs 0 (types.pair (types.names 0) (types.list (types.abs 0 (types.pair (types.names 0) (types.list (types.abs 0 (types.pair (types.names 0) (types.list (types.abs 0 (types.pair (types.names 0) (types.list (types.abs 0 (types.pair (types.names 0) (types.list (types.abs 0 (types.pair (types.names 0) (types.list (types.abs 0 (types.pair (types.names 0) (types.list (types.abs 0 (types.pair (types.names 0) (types.list (types.abs 0 (types.names 0)))))))))))))))))))))))))))))))))))))))))))))))))))))))))))))))))))))))))))))))))))))))))))))))))))))))))))))))))))))))))))))))))))))))))))))))))))))))))))))))))))))))))))))))))))))))))))))))))))))))))))))))))))))))))))))))))))))))))))))))))))))))))))))))) (codes "X") ∷ named 0 (codes "a") ∷ named 0 (codes "b") ∷ named 0 (codes "c") ∷ []) ∷ []) (codes "id" ∷ codes "X" ∷ codes "a" ∷ codes "b" ∷ codes "c" ∷ [])) 0
    ≡ codes "X = (a,[b\\(a,[b\\(a,[b\\(a,[b\\(a,[b\\(a,[b\\(a,[b\\(a,[b\\(a,[b\\(a,[b\\(a,[b\\(a,[b\\(a,[b\\(a,[b\\(a,[b\\(a,[b\\(a,[b\\(a,[b\\(a,[b\\(a,[b\\(a,[b\\(a,[b\\(a,[b\\(a,[b\\(a,[b\\(a,[b\\(a,[b\\(a,[b\\(a,[b\\(a,[b\\(a,[b\\(a,[b\\(a,[b\\(a,[b\\(a,[b\\(a,[b\\(a,[b\\(a,[b\\(a,[b\\(a,[b\\(a,[b\\(a,[b\\(a,[b\\(a,[b\\(a,[b\\(a,[b\\(a,[b\\(a,[b\\(a,[b\\(a,[b\\(a,[b\\(a,[b\\(a,[b\\(a,[b\\(a,[b\\(a,[b\\(a,[b\\(a,[b\\(a,[b\\(a,[b\\(a,[b\\(a,[b\\(a,[b\\(a,[b\\(a,[b\\(a,[b\\(a,[b\\(a,[b\\(a,[b\\(a,[b\\(a,[b\\(a,[b\\(a,[b\\(a,[b\\(a,[b\\(a,[b\\(a,[b\\(a,[b\\(a,[b\\(a,[b\\(a,[b\\(a,[b\\(a,[b\\(a,[b\\(a,[b\\c])])])])])])])])])])])])])])])])])])])])])])])])])])])])])])])])])])])])])])])])])])])])])])])])])])])])])])])])])])])])])])])])])])])])])])])])])])])])])])])])])])])])])\n% query 1: 1 answers, 0 cut, 0 stuck\n"
unfolding swap_name name_eq name_before unify ending canonical digits
sampled_deep_00026 = refl

sampled_deep_00030 : program_report (programs (signature (codes "id" ∷ []) [] [] []) [] (query (goals.equal (v 0) (pair (name (n 0 1)) (app 1 (pair (abs (n 0 2) (pair (name (n 0 1)) (app 1 (pair (abs (n 0 2) (pair (name (n 0 1)) (app 1 (pair (abs (n 0 2) (pair (name (n 0 1)) (app 1 (pair (abs (n 0 2) (pair (name (n 0 1)) (app 1 (pair (abs (n 0 2) (pair (name (n 0 1)) (app 1 (pair (abs (n 0 2) (pair (name (n 0 1)) (app 1 (pair (abs (n 0 2) (pair (name (n 0 1)) (app 1 (pair (abs (n 0 2) (pair (name (n 0 1)) (app 1 (pair (abs (n 0 2) (pair (name (n 0 1)) (app 1 (pair (abs (n 0 2) (pair (name (n 0 1)) (app 1 (pair (abs (n 0 2) (pair (name (n 0 1)) (app 1 (pair (abs (n 0 2) (pair (name (n 0 1)) (app 1 (pair (abs (n 0 2) (pair (name (n 0 1)) (app 1 (pair (abs (n 0 2) (pair (name (n 0 1)) (app 1 (pair (abs (n 0 2) (pair (name (n 0 1)) (app 1 (pair (abs (n 0 2) (pair (name (n 0 1)) (app 1 (pair (abs (n 0 2) (pair (name (n 0 1)) (app 1 (pair (abs (n 0 2) (pair (name (n 0 1)) (app 1 (pair (abs (n 0 2) (pair (name (n 0 1)) (app 1 (pair (abs (n 0 2) (pair (name (n 0 1)) (app 1 (pair (abs (n 0 2) (pair (name (n 0 1)) (app 1 (pair (abs (n 0 2) (pair (name (n 0 1)) (app 1 (pair (abs (n 0 2) (pair (name (n 0 1)) (app 1 (pair (abs (n 0 2) (pair (name (n 0 1)) (app 1 (pair (abs (n 0 2) (pair (name (n 0 1)) (app 1 (pair (abs (n 0 2) (pair (name (n 0 1)) (app 1 (pair (abs (n 0 2) (pair (name (n 0 1)) (app 1 (pair (abs (n 0 2) (pair (name (n 0 1)) (app 1 (pair (abs (n 0 2) (pair (name (n 0 1)) (app 1 (pair (abs (n 0 2) (pair (name (n 0 1)) (app 1 (pair (abs (n 0 2) (pair (name (n 0 1)) (app 1 (pair (abs (n 0 2) (pair (name (n 0 1)) (app 1 (pair (abs (n 0 2) (pair (name (n 0 1)) (app 1 (pair (abs (n 0 2) (pair (name (n 0 1)) (app 1 (pair (abs (n 0 2) (pair (name (n 0 1)) (app 1 (pair (abs (n 0 2) (pair (name (n 0 1)) (app 1 (pair (abs (n 0 2) (pair (name (n 0 1)) (app 1 (pair (abs (n 0 2) (pair (name (n 0 1)) (app 1 (pair (abs (n 0 2) (pair (name (n 0 1)) (app 1 (pair (abs (n 0 2) (pair (name (n 0 1)) (app 1 (pair (abs (n 0 2) (pair (name (n 0 1)) (app 1 (pair (abs (n 0 2) (pair (name (n 0 1)) (app 1 (pair (abs (n 0 2) (pair (name (n 0 1)) (app 1 (pair (abs (n 0 2) (pair (name (n 0 1)) (app 1 (pair (abs (n 0 2) (pair (name (n 0 1)) (app 1 (pair (abs (n 0 2) (pair (name (n 0 1)) (app 1 (pair (abs (n 0 2) (pair (name (n 0 1)) (app 1 (pair (abs (n 0 2) (pair (name (n 0 1)) (app 1 (pair (abs (n 0 2) (pair (name (n 0 1)) (app 1 (pair (abs (n 0 2) (pair (name (n 0 1)) (app 1 (pair (abs (n 0 2) (pair (name (n 0 1)) (app 1 (pair (abs (n 0 2) (pair (name (n 0 1)) (app 1 (pair (abs (n 0 2) (pair (name (n 0 1)) (app 1 (pair (abs (n 0 2) (pair (name (n 0 1)) (app 1 (pair (abs (n 0 2) (pair (name (n 0 1)) (app 1 (pair (abs (n 0 2) (pair (name (n 0 1)) (app 1 (pair (abs (n 0 2) (pair (name (n 0 1)) (app 1 (pair (abs (n 0 2) (pair (name (n 0 1)) (app 1 (pair (abs (n 0 2) (pair (name (n 0 1)) (app 1 (pair (abs (n 0 2) (pair (name (n 0 1)) (app 1 (pair (abs (n 0 2) (pair (name (n 0 1)) (app 1 (pair (abs (n 0 2) (pair (name (n 0 1)) (app 1 (pair (abs (n 0 2) (pair (name (n 0 1)) (app 1 (pair (abs (n 0 2) (pair (name (n 0 1)) (app 1 (pair (abs (n 0 2) (pair (name (n 0 1)) (app 1 (pair (abs (n 0 2) (pair (name (n 0 1)) (app 1 (pair (abs (n 0 2) (pair (name (n 0 1)) (app 1 (pair (abs (n 0 2) (pair (name (n 0 1)) (app 1 (pair (abs (n 0 2) (pair (name (n 0 1)) (app 1 (pair (abs (n 0 2) (pair (name (n 0 1)) (app 1 (pair (abs (n 0 2) (pair (name (n 0 1)) (app 1 (pair (abs (n 0 2) (pair (name (n 0 1)) (app 1 (pair (abs (n 0 2) (pair (name (n 0 1)) (app 1 (pair (abs (n 0 2) (pair (name (n 0 1)) (app 1 (pair (abs (n 0 2) (pair (name (n 0 1)) (app 1 (pair (abs (n 0 2) (pair (name (n 0 1)) (app 1 (pair (abs (n 0 2) (pair (name (n 0 1)) (app 1 (pair (abs (n 0 2) (pair (name (n 0 1)) (app 1 (pair (abs (n 0 2) (pair (name (n 0 1)) (app 1 (pair (abs (n 0 2) (pair (name (n 0 1)) (app 1 (pair (abs (n 0 2) (pair (name (n 0 1)) (app 1 (pair (abs (n 0 2) (pair (name (n 0 1)) (app 1 (pair (abs (n 0 2) (pair (name (n 0 1)) (app 1 (pair (abs (n 0 2) (pair (name (n 0 1)) (app 1 (pair (abs (n 0 2) (name (n 0 3))) (app 0 unit))))) (app 0 unit))))) (app 0 unit))))) (app 0 unit))))) (app 0 unit))))) (app 0 unit))))) (app 0 unit))))) (app 0 unit))))) (app 0 unit))))) (app 0 unit))))) (app 0 unit))))) (app 0 unit))))) (app 0 unit))))) (app 0 unit))))) (app 0 unit))))) (app 0 unit))))) (app 0 unit))))) (app 0 unit))))) (app 0 unit))))) (app 0 unit))))) (app 0 unit))))) (app 0 unit))))) (app 0 unit))))) (app 0 unit))))) (app 0 unit))))) (app 0 unit))))) (app 0 unit))))) (app 0 unit))))) (app 0 unit))))) (app 0 unit))))) (app 0 unit))))) (app 0 unit))))) (app 0 unit))))) (app 0 unit))))) (app 0 unit))))) (app 0 unit))))) (app 0 unit))))) (app 0 unit))))) (app 0 unit))))) (app 0 unit))))) (app 0 unit))))) (app 0 unit))))) (app 0 unit))))) (app 0 unit))))) (app 0 unit))))) (app 0 unit))))) (app 0 unit))))) (app 0 unit))))) (app 0 unit))))) (app 0 unit))))) (app 0 unit))))) (app 0 unit))))) (app 0 unit))))) (app 0 unit))))) (app 0 unit))))) (app 0 unit))))) (app 0 unit))))) (app 0 unit))))) (app 0 unit))))) (app 0 unit))))) (app 0 unit))))) (app 0 unit))))) (app 0 unit))))) (app 0 unit))))) (app 0 unit))))) (app 0 unit))))) (app 0 unit))))) (app 0 unit))))) (app 0 unit))))) (app 0 unit))))) (app 0 unit))))) (app 0 unit))))) (app 0 unit))))) (app 0 unit))))) (app 0 unit))))) (app 0 unit))))) (app 0 unit))))) (app 0 unit))))) (app 0 unit))))) (app 0 unit))))) (app 0 unit))))) (app 0 unit))))) (app 0 unit))))) (app 0 unit))))) (app 0 unit))))) (variable (types.pair (types.names 0) (types.list (types.abs 0 (types.pair (types.names 0) (types.list (types.abs 0 (types.pair (types.names 0) (types.list (types.abs 0 (types.pair (types.names 0) (types.list (types.abs 0 (types.pair (types.names 0) (types.list (types.abs 0 (types.pair (types.names 0) (types.list (types.abs 0 (types.pair (types.names 0) (types.list (types.abs 0 (types.pair (types.names 0) (types.list (types.abs 0 (types.pair (types.names 0) (types.list (types.abs 0 (types.pair (types.names 0) (types.list (types.abs 0 (types.pair (types.names 0) (types.list (types.abs 0 (types.pair (types.names 0) (types.list (types.abs 0 (types.pair (types.names 0) (types.list (types.abs 0 (types.pair (types.names 0) (types.list (types.abs 0 (types.pair (types.names 0) (types.list (types.abs 0 (types.pair (types.names 0) (types.list (types.abs 0 (types.pair (types.names 0) (types.list (types.abs 0 (types.pair (types.names 0) (types.list (types.abs 0 (types.pair (types.names 0) (types.list (types.abs 0 (types.pair (types.names 0) (types.list (types.abs 0 (types.pair (types.names 0) (types.list (types.abs 0 (types.pair (types.names 0) (types.list (types.abs 0 (types.pair (types.names 0) (types.list (types.abs 0 (types.pair (types.names 0) (types.list (types.abs 0 (types.pair (types.names 0) (types.list (types.abs 0 (types.pair (types.names 0) (types.list (types.abs 0 (types.pair (types.names 0) (types.list (types.abs 0 (types.pair (types.names 0) (types.list (types.abs 0 (types.pair (types.names 0) (types.list (types.abs 0 (types.pair (types.names 0) (types.list (types.abs 0 (types.pair (types.names 0) (types.list (types.abs 0 (types.pair (types.names 0) (types.list (types.abs 0 (types.pair (types.names 0) (types.list (types.abs 0 (types.pair (types.names 0) (types.list (types.abs 0 (types.pair (types.names 0) (types.list (types.abs 0 (types.pair (types.names 0) (types.list (types.abs 0 (types.pair (types.names 0) (types.list (types.abs 0 (types.pair (types.names 0) (types.list (types.abs 0 (types.pair (types.names 0) (types.list (types.abs 0 (types.pair (types.names 0) (types.list (types.abs 0 (types.pair (types.names 0) (types.list (types.abs 0 (types.pair (types.names 0) (types.list (types.abs 0 (types.pair (types.names 0) (types.list (types.abs 0 (types.pair (types.names 0) (types.list (types.abs 0 (types.pair (types.names 0) (types.list (types.abs 0 (types.pair (types.names 0) (types.list (types.abs 0 (types.pair (types.names 0) (types.list (types.abs 0 (types.pair (types.names 0) (types.list (types.abs 0 (types.pair (types.names 0) (types.list (types.abs 0 (types.pair (types.names 0) (types.list (types.abs 0 (types.pair (types.names 0) (types.list (types.abs 0 (types.pair (types.names 0) (types.list (types.abs 0 (types.pair (types.names 0) (types.list (types.abs 0 (types.pair (types.names 0) (types.list (types.abs 0 (types.pair (types.names 0) (types.list (types.abs 0 (types.pair (types.names 0) (types.list (types.abs 0 (types.pair (types.names 0) (types.list (types.abs 0 (types.pair (types.names 0) (types.list (types.abs 0 (types.pair (types.names 0) (types.list (types.abs 0 (types.pair (types.names 0) (types.list (types.abs 0 (types.pair (types.names 0) (types.list (types.abs 0 (types.pair (types.names 0) (types.list (types.abs 0 (types.pair (types.names 0) (types.list (types.abs 0 (types.pair (types.names 0) (types.list (types.abs 0 (types.pair (types.names 0) (types.list (types.abs 0 (types.pair (types.names 0) (types.list (types.abs 0 (types.pair (types.names 0) (types.list (types.abs 0 (types.pair (types.names 0) (types.list (types.abs 0 (types.pair (types.names 0) (types.list (types.abs 0 (types.pair (types.names 0) (types.list (types.abs 0 (types.pair (types.names 0) (types.list (types.abs 0 (types.pair (types.names 0) (types.list (types.abs 0 (types.pair (types.names 0) (types.list (types.abs 0 (types.pair (types.names 0) (types.list (types.abs 0 (types.pair (types.names 0) (types.list (types.abs 0 (types.pair (types.names 0) (types.list (types.abs 0 (types.pair (types.names 0) (types.list (types.abs 0 (types.pair (types.names 0) (types.list (types.abs 0 (types.pair (types.names 0) (types.list (types.abs 0 (types.pair (types.names 0) (types.list (types.abs 0 (types.pair (types.names 0) (types.list (types.abs 0 (types.pair (types.names 0) (types.list (types.abs 0 (types.pair (types.names 0) (types.list (types.abs 0 (types.pair (types.names 0) (types.list (types.abs 0 (types.pair (types.names 0) (types.list (types.abs 0 (types.names 0)))))))))))))))))))))))))))))))))))))))))))))))))))))))))))))))))))))))))))))))))))))))))))))))))))))))))))))))))))))))))))))))))))))))))))))))))))))))))))))))))))))))))))))))))))))))))))))))))))))))))))))))))))))))))))))))))))))))))))))))))))))))))))))))) (codes "X") ∷ named 0 (codes "a") ∷ named 0 (codes "b") ∷ named 0 (codes "c") ∷ []) ∷ []) (codes "id" ∷ codes "X" ∷ codes "a" ∷ codes "b" ∷ codes "c" ∷ [])) 4
    ≡ codes "X = (a,[b\\(a,[b\\(a,[b\\(a,[b\\(a,[b\\(a,[b\\(a,[b\\(a,[b\\(a,[b\\(a,[b\\(a,[b\\(a,[b\\(a,[b\\(a,[b\\(a,[b\\(a,[b\\(a,[b\\(a,[b\\(a,[b\\(a,[b\\(a,[b\\(a,[b\\(a,[b\\(a,[b\\(a,[b\\(a,[b\\(a,[b\\(a,[b\\(a,[b\\(a,[b\\(a,[b\\(a,[b\\(a,[b\\(a,[b\\(a,[b\\(a,[b\\(a,[b\\(a,[b\\(a,[b\\(a,[b\\(a,[b\\(a,[b\\(a,[b\\(a,[b\\(a,[b\\(a,[b\\(a,[b\\(a,[b\\(a,[b\\(a,[b\\(a,[b\\(a,[b\\(a,[b\\(a,[b\\(a,[b\\(a,[b\\(a,[b\\(a,[b\\(a,[b\\(a,[b\\(a,[b\\(a,[b\\(a,[b\\(a,[b\\(a,[b\\(a,[b\\(a,[b\\(a,[b\\(a,[b\\(a,[b\\(a,[b\\(a,[b\\(a,[b\\(a,[b\\(a,[b\\(a,[b\\(a,[b\\(a,[b\\(a,[b\\(a,[b\\(a,[b\\(a,[b\\(a,[b\\(a,[b\\(a,[b\\c])])])])])])])])])])])])])])])])])])])])])])])])])])])])])])])])])])])])])])])])])])])])])])])])])])])])])])])])])])])])])])])])])])])])])])])])])])])])])])])])])])])])])\n% query 1: 1 answers, 0 cut, 0 stuck\n"
unfolding swap_name name_eq name_before unify ending canonical digits
sampled_deep_00030 = refl

sampled_deep_00033 : program_report (programs (signature (codes "id" ∷ []) [] [] []) [] (query (goals.equal (v 0) (app 1 (pair (abs (n 0 1) (name (n 0 2))) (app 1 (pair (abs (n 0 1) (name (n 0 2))) (app 1 (pair (abs (n 0 1) (name (n 0 2))) (app 1 (pair (abs (n 0 1) (name (n 0 2))) (app 1 (pair (abs (n 0 1) (name (n 0 2))) (app 1 (pair (abs (n 0 1) (name (n 0 2))) (app 1 (pair (abs (n 0 1) (name (n 0 2))) (app 1 (pair (abs (n 0 1) (name (n 0 2))) (app 1 (pair (abs (n 0 1) (name (n 0 2))) (app 1 (pair (abs (n 0 1) (name (n 0 2))) (app 1 (pair (abs (n 0 1) (name (n 0 2))) (app 1 (pair (abs (n 0 1) (name (n 0 2))) (app 1 (pair (abs (n 0 1) (name (n 0 2))) (app 1 (pair (abs (n 0 1) (name (n 0 2))) (app 1 (pair (abs (n 0 1) (name (n 0 2))) (app 1 (pair (abs (n 0 1) (name (n 0 2))) (app 1 (pair (abs (n 0 1) (name (n 0 2))) (app 1 (pair (abs (n 0 1) (name (n 0 2))) (app 1 (pair (abs (n 0 1) (name (n 0 2))) (app 1 (pair (abs (n 0 1) (name (n 0 2))) (app 1 (pair (abs (n 0 1) (name (n 0 2))) (app 1 (pair (abs (n 0 1) (name (n 0 2))) (app 1 (pair (abs (n 0 1) (name (n 0 2))) (app 1 (pair (abs (n 0 1) (name (n 0 2))) (app 1 (pair (abs (n 0 1) (name (n 0 2))) (app 1 (pair (abs (n 0 1) (name (n 0 2))) (app 1 (pair (abs (n 0 1) (name (n 0 2))) (app 1 (pair (abs (n 0 1) (name (n 0 2))) (app 1 (pair (abs (n 0 1) (name (n 0 2))) (app 1 (pair (abs (n 0 1) (name (n 0 2))) (app 1 (pair (abs (n 0 1) (name (n 0 2))) (app 1 (pair (abs (n 0 1) (name (n 0 2))) (app 1 (pair (abs (n 0 1) (name (n 0 2))) (app 1 (pair (abs (n 0 1) (name (n 0 2))) (app 1 (pair (abs (n 0 1) (name (n 0 2))) (app 1 (pair (abs (n 0 1) (name (n 0 2))) (app 1 (pair (abs (n 0 1) (name (n 0 2))) (app 1 (pair (abs (n 0 1) (name (n 0 2))) (app 1 (pair (abs (n 0 1) (name (n 0 2))) (app 1 (pair (abs (n 0 1) (name (n 0 2))) (app 1 (pair (abs (n 0 1) (name (n 0 2))) (app 1 (pair (abs (n 0 1) (name (n 0 2))) (app 1 (pair (abs (n 0 1) (name (n 0 2))) (app 1 (pair (abs (n 0 1) (name (n 0 2))) (app 1 (pair (abs (n 0 1) (name (n 0 2))) (app 1 (pair (abs (n 0 1) (name (n 0 2))) (app 1 (pair (abs (n 0 1) (name (n 0 2))) (app 1 (pair (abs (n 0 1) (name (n 0 2))) (app 1 (pair (abs (n 0 1) (name (n 0 2))) (app 1 (pair (abs (n 0 1) (name (n 0 2))) (app 1 (pair (abs (n 0 1) (name (n 0 2))) (app 1 (pair (abs (n 0 1) (name (n 0 2))) (app 1 (pair (abs (n 0 1) (name (n 0 2))) (app 1 (pair (abs (n 0 1) (name (n 0 2))) (app 1 (pair (abs (n 0 1) (name (n 0 2))) (app 1 (pair (abs (n 0 1) (name (n 0 2))) (app 1 (pair (abs (n 0 1) (name (n 0 2))) (app 1 (pair (abs (n 0 1) (name (n 0 2))) (app 1 (pair (abs (n 0 1) (name (n 0 2))) (app 1 (pair (abs (n 0 1) (name (n 0 2))) (app 1 (pair (abs (n 0 1) (name (n 0 2))) (app 1 (pair (abs (n 0 1) (name (n 0 2))) (app 1 (pair (abs (n 0 1) (name (n 0 2))) (app 1 (pair (abs (n 0 1) (name (n 0 2))) (app 1 (pair (abs (n 0 1) (name (n 0 2))) (app 1 (pair (abs (n 0 1) (name (n 0 2))) (app 1 (pair (abs (n 0 1) (name (n 0 2))) (app 1 (pair (abs (n 0 1) (name (n 0 2))) (app 1 (pair (abs (n 0 1) (name (n 0 2))) (app 1 (pair (abs (n 0 1) (name (n 0 2))) (app 1 (pair (abs (n 0 1) (name (n 0 2))) (app 1 (pair (abs (n 0 1) (name (n 0 2))) (app 1 (pair (abs (n 0 1) (name (n 0 2))) (app 1 (pair (abs (n 0 1) (name (n 0 2))) (app 1 (pair (abs (n 0 1) (name (n 0 2))) (app 1 (pair (abs (n 0 1) (name (n 0 2))) (app 1 (pair (abs (n 0 1) (name (n 0 2))) (app 1 (pair (abs (n 0 1) (name (n 0 2))) (app 1 (pair (abs (n 0 1) (name (n 0 2))) (app 1 (pair (abs (n 0 1) (name (n 0 2))) (app 1 (pair (abs (n 0 1) (name (n 0 2))) (app 1 (pair (abs (n 0 1) (name (n 0 2))) (app 1 (pair (abs (n 0 1) (name (n 0 2))) (app 1 (pair (abs (n 0 1) (name (n 0 2))) (app 1 (pair (abs (n 0 1) (name (n 0 2))) (app 1 (pair (abs (n 0 1) (name (n 0 2))) (app 1 (pair (abs (n 0 1) (name (n 0 2))) (app 1 (pair (abs (n 0 1) (name (n 0 2))) (app 1 (pair (abs (n 0 1) (name (n 0 2))) (app 1 (pair (abs (n 0 1) (name (n 0 2))) (app 1 (pair (abs (n 0 1) (name (n 0 2))) (app 1 (pair (abs (n 0 1) (name (n 0 2))) (app 1 (pair (abs (n 0 1) (name (n 0 2))) (app 1 (pair (abs (n 0 1) (name (n 0 2))) (app 1 (pair (abs (n 0 1) (name (n 0 2))) (app 1 (pair (abs (n 0 1) (name (n 0 2))) (app 1 (pair (abs (n 0 1) (name (n 0 2))) (app 1 (pair (abs (n 0 1) (name (n 0 2))) (app 1 (pair (abs (n 0 1) (name (n 0 2))) (app 1 (pair (abs (n 0 1) (name (n 0 2))) (app 1 (pair (abs (n 0 1) (name (n 0 2))) (app 1 (pair (abs (n 0 1) (name (n 0 2))) (app 1 (pair (abs (n 0 1) (name (n 0 2))) (app 1 (pair (abs (n 0 1) (name (n 0 2))) (app 1 (pair (abs (n 0 1) (name (n 0 2))) (app 1 (pair (abs (n 0 1) (name (n 0 2))) (app 1 (pair (abs (n 0 1) (name (n 0 2))) (app 1 (pair (abs (n 0 1) (name (n 0 2))) (app 1 (pair (abs (n 0 1) (name (n 0 2))) (app 1 (pair (abs (n 0 1) (name (n 0 2))) (app 1 (pair (abs (n 0 1) (name (n 0 2))) (app 1 (pair (abs (n 0 1) (name (n 0 2))) (app 1 (pair (abs (n 0 1) (name (n 0 2))) (app 1 (pair (abs (n 0 1) (name (n 0 2))) (app 1 (pair (abs (n 0 1) (name (n 0 2))) (app 1 (pair (abs (n 0 1) (name (n 0 2))) (app 1 (pair (abs (n 0 1) (name (n 0 2))) (app 1 (pair (abs (n 0 1) (name (n 0 2))) (app 1 (pair (abs (n 0 1) (name (n 0 2))) (app 1 (pair (abs (n 0 1) (name (n 0 2))) (app 1 (pair (abs (n 0 1) (name (n 0 2))) (app 1 (pair (abs (n 0 1) (name (n 0 2))) (app 1 (pair (abs (n 0 1) (name (n 0 2))) (app 1 (pair (abs (n 0 1) (name (n 0 2))) (app 1 (pair (abs (n 0 1) (name (n 0 2))) (app 1 (pair (abs (n 0 1) (name (n 0 2))) (app 1 (pair (abs (n 0 1) (name (n 0 2))) (app 1 (pair (abs (n 0 1) (name (n 0 2))) (app 1 (pair (abs (n 0 1) (name (n 0 2))) (app 1 (pair (abs (n 0 1) (name (n 0 2))) (app 1 (pair (abs (n 0 1) (name (n 0 2))) (app 1 (pair (abs (n 0 1) (name (n 0 2))) (app 1 (pair (abs (n 0 1) (name (n 0 2))) (app 1 (pair (abs (n 0 1) (name (n 0 2))) (app 1 (pair (abs (n 0 1) (name (n 0 2))) (app 1 (pair (abs (n 0 1) (name (n 0 2))) (app 1 (pair (abs (n 0 1) (name (n 0 2))) (app 1 (pair (abs (n 0 1) (name (n 0 2))) (app 1 (pair (abs (n 0 1) (name (n 0 2))) (app 1 (pair (abs (n 0 1) (name (n 0 2))) (app 1 (pair (abs (n 0 1) (name (n 0 2))) (app 1 (pair (abs (n 0 1) (name (n 0 2))) (app 1 (pair (abs (n 0 1) (name (n 0 2))) (app 1 (pair (abs (n 0 1) (name (n 0 2))) (app 1 (pair (abs (n 0 1) (name (n 0 2))) (app 1 (pair (abs (n 0 1) (name (n 0 2))) (app 1 (pair (abs (n 0 1) (name (n 0 2))) (app 1 (pair (abs (n 0 1) (name (n 0 2))) (app 1 (pair (abs (n 0 1) (name (n 0 2))) (app 1 (pair (abs (n 0 1) (name (n 0 2))) (app 1 (pair (abs (n 0 1) (name (n 0 2))) (app 1 (pair (abs (n 0 1) (name (n 0 2))) (app 1 (pair (abs (n 0 1) (name (n 0 2))) (app 1 (pair (abs (n 0 1) (name (n 0 2))) (app 1 (pair (abs (n 0 1) (name (n 0 2))) (app 1 (pair (abs (n 0 1) (name (n 0 2))) (app 1 (pair (abs (n 0 1) (name (n 0 2))) (app 1 (pair (abs (n 0 1) (name (n 0 2))) (app 1 (pair (abs (n 0 1) (name (n 0 2))) (app 1 (pair (abs (n 0 1) (name (n 0 2))) (app 1 (pair (abs (n 0 1) (name (n 0 2))) (app 1 (pair (abs (n 0 1) (name (n 0 2))) (app 1 (pair (abs (n 0 1) (name (n 0 2))) (app 1 (pair (abs (n 0 1) (name (n 0 2))) (app 1 (pair (abs (n 0 1) (name (n 0 2))) (app 1 (pair (abs (n 0 1) (name (n 0 2))) (app 1 (pair (abs (n 0 1) (name (n 0 2))) (app 1 (pair (abs (n 0 1) (name (n 0 2))) (app 1 (pair (abs (n 0 1) (name (n 0 2))) (app 1 (pair (abs (n 0 1) (name (n 0 2))) (app 1 (pair (abs (n 0 1) (name (n 0 2))) (app 1 (pair (abs (n 0 1) (name (n 0 2))) (app 1 (pair (abs (n 0 1) (name (n 0 2))) (app 1 (pair (abs (n 0 1) (name (n 0 2))) (app 1 (pair (abs (n 0 1) (name (n 0 2))) (app 1 (pair (abs (n 0 1) (name (n 0 2))) (app 1 (pair (abs (n 0 1) (name (n 0 2))) (app 1 (pair (abs (n 0 1) (name (n 0 2))) (app 1 (pair (abs (n 0 1) (name (n 0 2))) (app 1 (pair (abs (n 0 1) (name (n 0 2))) (app 1 (pair (abs (n 0 1) (name (n 0 2))) (app 1 (pair (abs (n 0 1) (name (n 0 2))) (app 1 (pair (abs (n 0 1) (name (n 0 2))) (app 1 (pair (abs (n 0 1) (name (n 0 2))) (app 1 (pair (abs (n 0 1) (name (n 0 2))) (app 1 (pair (abs (n 0 1) (name (n 0 2))) (app 1 (pair (abs (n 0 1) (name (n 0 2))) (app 1 (pair (abs (n 0 1) (name (n 0 2))) (app 1 (pair (abs (n 0 1) (name (n 0 2))) (app 1 (pair (abs (n 0 1) (name (n 0 2))) (app 1 (pair (abs (n 0 1) (name (n 0 2))) (app 1 (pair (abs (n 0 1) (name (n 0 2))) (app 1 (pair (abs (n 0 1) (name (n 0 2))) (app 1 (pair (abs (n 0 1) (name (n 0 2))) (app 1 (pair (abs (n 0 1) (name (n 0 2))) (app 1 (pair (abs (n 0 1) (name (n 0 2))) (app 1 (pair (abs (n 0 1) (name (n 0 2))) (app 1 (pair (abs (n 0 1) (name (n 0 2))) (app 1 (pair (abs (n 0 1) (name (n 0 2))) (app 1 (pair (abs (n 0 1) (name (n 0 2))) (app 1 (pair (abs (n 0 1) (name (n 0 2))) (app 1 (pair (abs (n 0 1) (name (n 0 2))) (app 1 (pair (abs (n 0 1) (name (n 0 2))) (app 1 (pair (abs (n 0 1) (name (n 0 2))) (app 1 (pair (abs (n 0 1) (name (n 0 2))) (app 1 (pair (abs (n 0 1) (name (n 0 2))) (app 1 (pair (abs (n 0 1) (name (n 0 2))) (app 1 (pair (abs (n 0 1) (name (n 0 2))) (app 1 (pair (abs (n 0 1) (name (n 0 2))) (app 1 (pair (abs (n 0 1) (name (n 0 2))) (app 1 (pair (abs (n 0 1) (name (n 0 2))) (app 1 (pair (abs (n 0 1) (name (n 0 2))) (app 1 (pair (abs (n 0 1) (name (n 0 2))) (app 1 (pair (abs (n 0 1) (name (n 0 2))) (app 1 (pair (abs (n 0 1) (name (n 0 2))) (app 1 (pair (abs (n 0 1) (name (n 0 2))) (app 1 (pair (abs (n 0 1) (name (n 0 2))) (app 1 (pair (abs (n 0 1) (name (n 0 2))) (app 1 (pair (abs (n 0 1) (name (n 0 2))) (app 1 (pair (abs (n 0 1) (name (n 0 2))) (app 1 (pair (abs (n 0 1) (name (n 0 2))) (app 1 (pair (abs (n 0 1) (name (n 0 2))) (app 1 (pair (abs (n 0 1) (name (n 0 2))) (app 1 (pair (abs (n 0 1) (name (n 0 2))) (app 1 (pair (abs (n 0 1) (name (n 0 2))) (app 1 (pair (abs (n 0 1) (name (n 0 2))) (app 1 (pair (abs (n 0 1) (name (n 0 2))) (app 1 (pair (abs (n 0 1) (name (n 0 2))) (app 1 (pair (abs (n 0 1) (name (n 0 2))) (app 1 (pair (abs (n 0 1) (name (n 0 2))) (app 1 (pair (abs (n 0 1) (name (n 0 2))) (app 1 (pair (abs (n 0 1) (name (n 0 2))) (app 1 (pair (abs (n 0 1) (name (n 0 2))) (app 1 (pair (abs (n 0 1) (name (n 0 2))) (app 1 (pair (abs (n 0 1) (name (n 0 2))) (app 1 (pair (abs (n 0 1) (name (n 0 2))) (app 1 (pair (abs (n 0 1) (name (n 0 2))) (app 1 (pair (abs (n 0 1) (name (n 0 2))) (app 1 (pair (abs (n 0 1) (name (n 0 2))) (app 1 (pair (abs (n 0 1) (name (n 0 2))) (app 1 (pair (abs (n 0 1) (name (n 0 2))) (app 1 (pair (abs (n 0 1) (name (n 0 2))) (app 1 (pair (abs (n 0 1) (name (n 0 2))) (app 1 (pair (abs (n 0 1) (name (n 0 2))) (app 1 (pair (abs (n 0 1) (name (n 0 2))) (app 1 (pair (abs (n 0 1) (name (n 0 2))) (app 1 (pair (abs (n 0 1) (name (n 0 2))) (app 1 (pair (abs (n 0 1) (name (n 0 2))) (app 1 (pair (abs (n 0 1) (name (n 0 2))) (app 1 (pair (abs (n 0 1) (name (n 0 2))) (app 1 (pair (abs (n 0 1) (name (n 0 2))) (app 1 (pair (abs (n 0 1) (name (n 0 2))) (app 1 (pair (abs (n 0 1) (name (n 0 2))) (app 1 (pair (abs (n 0 1) (name (n 0 2))) (app 1 (pair (abs (n 0 1) (name (n 0 2))) (app 1 (pair (abs (n 0 1) (name (n 0 2))) (app 1 (pair (abs (n 0 1) (name (n 0 2))) (app 1 (pair (abs (n 0 1) (name (n 0 2))) (app 1 (pair (abs (n 0 1) (name (n 0 2))) (app 1 (pair (abs (n 0 1) (name (n 0 2))) (app 1 (pair (abs (n 0 1) (name (n 0 2))) (app 1 (pair (abs (n 0 1) (name (n 0 2))) (app 1 (pair (abs (n 0 1) (name (n 0 2))) (app 1 (pair (abs (n 0 1) (name (n 0 2))) (app 1 (pair (abs (n 0 1) (name (n 0 2))) (app 1 (pair (abs (n 0 1) (name (n 0 2))) (app 1 (pair (abs (n 0 1) (name (n 0 2))) (app 1 (pair (abs (n 0 1) (name (n 0 2))) (app 1 (pair (abs (n 0 1) (name (n 0 2))) (app 1 (pair (abs (n 0 1) (name (n 0 2))) (app 1 (pair (abs (n 0 1) (name (n 0 2))) (app 1 (pair (abs (n 0 1) (name (n 0 2))) (app 1 (pair (abs (n 0 1) (name (n 0 2))) (app 1 (pair (abs (n 0 1) (name (n 0 2))) (app 1 (pair (abs (n 0 1) (name (n 0 2))) (app 1 (pair (abs (n 0 1) (name (n 0 2))) (app 1 (pair (abs (n 0 1) (name (n 0 2))) (app 1 (pair (abs (n 0 1) (name (n 0 2))) (app 1 (pair (abs (n 0 1) (name (n 0 2))) (app 1 (pair (abs (n 0 1) (name (n 0 2))) (app 1 (pair (abs (n 0 1) (name (n 0 2))) (app 1 (pair (abs (n 0 1) (name (n 0 2))) (app 1 (pair (abs (n 0 1) (name (n 0 2))) (app 1 (pair (abs (n 0 1) (name (n 0 2))) (app 1 (pair (abs (n 0 1) (name (n 0 2))) (app 1 (pair (abs (n 0 1) (name (n 0 2))) (app 1 (pair (abs (n 0 1) (name (n 0 2))) (app 1 (pair (abs (n 0 1) (name (n 0 2))) (app 1 (pair (abs (n 0 1) (name (n 0 2))) (app 1 (pair (abs (n 0 1) (name (n 0 2))) (app 1 (pair (abs (n 0 1) (name (n 0 2))) (app 1 (pair (abs (n 0 1) (name (n 0 2))) (app 1 (pair (abs (n 0 1) (name (n 0 2))) (app 1 (pair (abs (n 0 1) (name (n 0 2))) (app 1 (pair (abs (n 0 1) (name (n 0 2))) (app 1 (pair (abs (n 0 1) (name (n 0 2))) (app 1 (pair (abs (n 0 1) (name (n 0 2))) (app 1 (pair (abs (n 0 1) (name (n 0 2))) (app 1 (pair (abs (n 0 1) (name (n 0 2))) (app 1 (pair (abs (n 0 1) (name (n 0 2))) (app 0 unit)))))))))))))))))))))))))))))))))))))))))))))))))))))))))))))))))))))))))))))))))))))))))))))))))))))))))))))))))))))))))))))))))))))))))))))))))))))))))))))))))))))))))))))))))))))))))))))))))))))))))))))))))))))))))))))))))))))))))))))))))))))))))))))))))))))))))))))))))))))))))))))))))))))))))))))))))))))))))))))))))))))))))))))))))))))))))))))))))))))))))))))))))))))))))))))))))))))))))))))))))))))))))))))))))))))))))))))))))))))))))))))))))))))))))))))))))))))))))))))))))))))))))))))))))))))))))))))))))))))))))))))))))))))))))))))))))))))))))))))))))))))))))))))))))))))))))))))))))))))))))) (variable (types.list (types.abs 0 (types.names 0))) (codes "X") ∷ named 0 (codes "a") ∷ named 0 (codes "b") ∷ []) ∷ []) (codes "id" ∷ codes "X" ∷ codes "a" ∷ codes "b" ∷ [])) 0
    ≡ codes "X = [a\\b,a\\b,a\\b,a\\b,a\\b,a\\b,a\\b,a\\b,a\\b,a\\b,a\\b,a\\b,a\\b,a\\b,a\\b,a\\b,a\\b,a\\b,a\\b,a\\b,a\\b,a\\b,a\\b,a\\b,a\\b,a\\b,a\\b,a\\b,a\\b,a\\b,a\\b,a\\b,a\\b,a\\b,a\\b,a\\b,a\\b,a\\b,a\\b,a\\b,a\\b,a\\b,a\\b,a\\b,a\\b,a\\b,a\\b,a\\b,a\\b,a\\b,a\\b,a\\b,a\\b,a\\b,a\\b,a\\b,a\\b,a\\b,a\\b,a\\b,a\\b,a\\b,a\\b,a\\b,a\\b,a\\b,a\\b,a\\b,a\\b,a\\b,a\\b,a\\b,a\\b,a\\b,a\\b,a\\b,a\\b,a\\b,a\\b,a\\b,a\\b,a\\b,a\\b,a\\b,a\\b,a\\b,a\\b,a\\b,a\\b,a\\b,a\\b,a\\b,a\\b,a\\b,a\\b,a\\b,a\\b,a\\b,a\\b,a\\b,a\\b,a\\b,a\\b,a\\b,a\\b,a\\b,a\\b,a\\b,a\\b,a\\b,a\\b,a\\b,a\\b,a\\b,a\\b,a\\b,a\\b,a\\b,a\\b,a\\b,a\\b,a\\b,a\\b,a\\b,a\\b,a\\b,a\\b,a\\b,a\\b,a\\b,a\\b,a\\b,a\\b,a\\b,a\\b,a\\b,a\\b,a\\b,a\\b,a\\b,a\\b,a\\b,a\\b,a\\b,a\\b,a\\b,a\\b,a\\b,a\\b,a\\b,a\\b,a\\b,a\\b,a\\b,a\\b,a\\b,a\\b,a\\b,a\\b,a\\b,a\\b,a\\b,a\\b,a\\b,a\\b,a\\b,a\\b,a\\b,a\\b,a\\b,a\\b,a\\b,a\\b,a\\b,a\\b,a\\b,a\\b,a\\b,a\\b,a\\b,a\\b,a\\b,a\\b,a\\b,a\\b,a\\b,a\\b,a\\b,a\\b,a\\b,a\\b,a\\b,a\\b,a\\b,a\\b,a\\b,a\\b,a\\b,a\\b,a\\b,a\\b,a\\b,a\\b,a\\b,a\\b,a\\b,a\\b,a\\b,a\\b,a\\b,a\\b,a\\b,a\\b,a\\b,a\\b,a\\b,a\\b,a\\b,a\\b,a\\b,a\\b,a\\b,a\\b,a\\b,a\\b,a\\b,a\\b,a\\b,a\\b,a\\b,a\\b,a\\b,a\\b,a\\b,a\\b,a\\b,a\\b,a\\b,a\\b,a\\b,a\\b,a\\b,a\\b,a\\b,a\\b,a\\b,a\\b,a\\b,a\\b,a\\b,a\\b,a\\b,a\\b,a\\b,a\\b,a\\b,a\\b,a\\b,a\\b,a\\b,a\\b,a\\b,a\\b,a\\b,a\\b,a\\b,a\\b,a\\b,a\\b,a\\b,a\\b,a\\b,a\\b,a\\b,a\\b,a\\b,a\\b,a\\b,a\\b,a\\b,a\\b,a\\b,a\\b,a\\b,a\\b,a\\b,a\\b,a\\b,a\\b,a\\b,a\\b,a\\b,a\\b,a\\b,a\\b,a\\b,a\\b,a\\b,a\\b,a\\b]\n% query 1: 1 answers, 0 cut, 0 stuck\n"
unfolding swap_name name_eq name_before unify ending canonical digits
sampled_deep_00033 = refl

sampled_deep_00038 : program_report (programs (signature (codes "id" ∷ []) [] [] []) [] (query (goals.equal (v 0) (app 1 (pair (abs (n 0 1) (name (n 0 2))) (app 1 (pair (abs (n 0 1) (name (n 0 2))) (app 1 (pair (abs (n 0 1) (name (n 0 2))) (app 1 (pair (abs (n 0 1) (name (n 0 2))) (app 1 (pair (abs (n 0 1) (name (n 0 2))) (app 1 (pair (abs (n 0 1) (name (n 0 2))) (app 1 (pair (abs (n 0 1) (name (n 0 2))) (app 1 (pair (abs (n 0 1) (name (n 0 2))) (app 1 (pair (abs (n 0 1) (name (n 0 2))) (app 1 (pair (abs (n 0 1) (name (n 0 2))) (app 1 (pair (abs (n 0 1) (name (n 0 2))) (app 1 (pair (abs (n 0 1) (name (n 0 2))) (app 1 (pair (abs (n 0 1) (name (n 0 2))) (app 1 (pair (abs (n 0 1) (name (n 0 2))) (app 1 (pair (abs (n 0 1) (name (n 0 2))) (app 1 (pair (abs (n 0 1) (name (n 0 2))) (app 1 (pair (abs (n 0 1) (name (n 0 2))) (app 1 (pair (abs (n 0 1) (name (n 0 2))) (app 1 (pair (abs (n 0 1) (name (n 0 2))) (app 1 (pair (abs (n 0 1) (name (n 0 2))) (app 1 (pair (abs (n 0 1) (name (n 0 2))) (app 1 (pair (abs (n 0 1) (name (n 0 2))) (app 1 (pair (abs (n 0 1) (name (n 0 2))) (app 1 (pair (abs (n 0 1) (name (n 0 2))) (app 1 (pair (abs (n 0 1) (name (n 0 2))) (app 1 (pair (abs (n 0 1) (name (n 0 2))) (app 1 (pair (abs (n 0 1) (name (n 0 2))) (app 1 (pair (abs (n 0 1) (name (n 0 2))) (app 1 (pair (abs (n 0 1) (name (n 0 2))) (app 1 (pair (abs (n 0 1) (name (n 0 2))) (app 1 (pair (abs (n 0 1) (name (n 0 2))) (app 1 (pair (abs (n 0 1) (name (n 0 2))) (app 1 (pair (abs (n 0 1) (name (n 0 2))) (app 1 (pair (abs (n 0 1) (name (n 0 2))) (app 1 (pair (abs (n 0 1) (name (n 0 2))) (app 1 (pair (abs (n 0 1) (name (n 0 2))) (app 1 (pair (abs (n 0 1) (name (n 0 2))) (app 1 (pair (abs (n 0 1) (name (n 0 2))) (app 1 (pair (abs (n 0 1) (name (n 0 2))) (app 1 (pair (abs (n 0 1) (name (n 0 2))) (app 1 (pair (abs (n 0 1) (name (n 0 2))) (app 1 (pair (abs (n 0 1) (name (n 0 2))) (app 1 (pair (abs (n 0 1) (name (n 0 2))) (app 1 (pair (abs (n 0 1) (name (n 0 2))) (app 1 (pair (abs (n 0 1) (name (n 0 2))) (app 1 (pair (abs (n 0 1) (name (n 0 2))) (app 1 (pair (abs (n 0 1) (name (n 0 2))) (app 1 (pair (abs (n 0 1) (name (n 0 2))) (app 1 (pair (abs (n 0 1) (name (n 0 2))) (app 1 (pair (abs (n 0 1) (name (n 0 2))) (app 1 (pair (abs (n 0 1) (name (n 0 2))) (app 1 (pair (abs (n 0 1) (name (n 0 2))) (app 1 (pair (abs (n 0 1) (name (n 0 2))) (app 1 (pair (abs (n 0 1) (name (n 0 2))) (app 1 (pair (abs (n 0 1) (name (n 0 2))) (app 1 (pair (abs (n 0 1) (name (n 0 2))) (app 1 (pair (abs (n 0 1) (name (n 0 2))) (app 1 (pair (abs (n 0 1) (name (n 0 2))) (app 1 (pair (abs (n 0 1) (name (n 0 2))) (app 1 (pair (abs (n 0 1) (name (n 0 2))) (app 1 (pair (abs (n 0 1) (name (n 0 2))) (app 1 (pair (abs (n 0 1) (name (n 0 2))) (app 1 (pair (abs (n 0 1) (name (n 0 2))) (app 1 (pair (abs (n 0 1) (name (n 0 2))) (app 1 (pair (abs (n 0 1) (name (n 0 2))) (app 1 (pair (abs (n 0 1) (name (n 0 2))) (app 1 (pair (abs (n 0 1) (name (n 0 2))) (app 1 (pair (abs (n 0 1) (name (n 0 2))) (app 1 (pair (abs (n 0 1) (name (n 0 2))) (app 1 (pair (abs (n 0 1) (name (n 0 2))) (app 1 (pair (abs (n 0 1) (name (n 0 2))) (app 1 (pair (abs (n 0 1) (name (n 0 2))) (app 1 (pair (abs (n 0 1) (name (n 0 2))) (app 1 (pair (abs (n 0 1) (name (n 0 2))) (app 1 (pair (abs (n 0 1) (name (n 0 2))) (app 1 (pair (abs (n 0 1) (name (n 0 2))) (app 1 (pair (abs (n 0 1) (name (n 0 2))) (app 1 (pair (abs (n 0 1) (name (n 0 2))) (app 1 (pair (abs (n 0 1) (name (n 0 2))) (app 1 (pair (abs (n 0 1) (name (n 0 2))) (app 1 (pair (abs (n 0 1) (name (n 0 2))) (app 1 (pair (abs (n 0 1) (name (n 0 2))) (app 1 (pair (abs (n 0 1) (name (n 0 2))) (app 1 (pair (abs (n 0 1) (name (n 0 2))) (app 1 (pair (abs (n 0 1) (name (n 0 2))) (app 1 (pair (abs (n 0 1) (name (n 0 2))) (app 1 (pair (abs (n 0 1) (name (n 0 2))) (app 1 (pair (abs (n 0 1) (name (n 0 2))) (app 1 (pair (abs (n 0 1) (name (n 0 2))) (app 1 (pair (abs (n 0 1) (name (n 0 2))) (app 1 (pair (abs (n 0 1) (name (n 0 2))) (app 1 (pair (abs (n 0 1) (name (n 0 2))) (app 1 (pair (abs (n 0 1) (name (n 0 2))) (app 1 (pair (abs (n 0 1) (name (n 0 2))) (app 1 (pair (abs (n 0 1) (name (n 0 2))) (app 1 (pair (abs (n 0 1) (name (n 0 2))) (app 1 (pair (abs (n 0 1) (name (n 0 2))) (app 1 (pair (abs (n 0 1) (name (n 0 2))) (app 1 (pair (abs (n 0 1) (name (n 0 2))) (app 1 (pair (abs (n 0 1) (name (n 0 2))) (app 1 (pair (abs (n 0 1) (name (n 0 2))) (app 1 (pair (abs (n 0 1) (name (n 0 2))) (app 1 (pair (abs (n 0 1) (name (n 0 2))) (app 1 (pair (abs (n 0 1) (name (n 0 2))) (app 1 (pair (abs (n 0 1) (name (n 0 2))) (app 1 (pair (abs (n 0 1) (name (n 0 2))) (app 1 (pair (abs (n 0 1) (name (n 0 2))) (app 1 (pair (abs (n 0 1) (name (n 0 2))) (app 1 (pair (abs (n 0 1) (name (n 0 2))) (app 1 (pair (abs (n 0 1) (name (n 0 2))) (app 1 (pair (abs (n 0 1) (name (n 0 2))) (app 1 (pair (abs (n 0 1) (name (n 0 2))) (app 1 (pair (abs (n 0 1) (name (n 0 2))) (app 1 (pair (abs (n 0 1) (name (n 0 2))) (app 1 (pair (abs (n 0 1) (name (n 0 2))) (app 1 (pair (abs (n 0 1) (name (n 0 2))) (app 1 (pair (abs (n 0 1) (name (n 0 2))) (app 1 (pair (abs (n 0 1) (name (n 0 2))) (app 1 (pair (abs (n 0 1) (name (n 0 2))) (app 1 (pair (abs (n 0 1) (name (n 0 2))) (app 1 (pair (abs (n 0 1) (name (n 0 2))) (app 1 (pair (abs (n 0 1) (name (n 0 2))) (app 1 (pair (abs (n 0 1) (name (n 0 2))) (app 1 (pair (abs (n 0 1) (name (n 0 2))) (app 1 (pair (abs (n 0 1) (name (n 0 2))) (app 1 (pair (abs (n 0 1) (name (n 0 2))) (app 1 (pair (abs (n 0 1) (name (n 0 2))) (app 1 (pair (abs (n 0 1) (name (n 0 2))) (app 1 (pair (abs (n 0 1) (name (n 0 2))) (app 1 (pair (abs (n 0 1) (name (n 0 2))) (app 1 (pair (abs (n 0 1) (name (n 0 2))) (app 1 (pair (abs (n 0 1) (name (n 0 2))) (app 1 (pair (abs (n 0 1) (name (n 0 2))) (app 1 (pair (abs (n 0 1) (name (n 0 2))) (app 1 (pair (abs (n 0 1) (name (n 0 2))) (app 1 (pair (abs (n 0 1) (name (n 0 2))) (app 1 (pair (abs (n 0 1) (name (n 0 2))) (app 1 (pair (abs (n 0 1) (name (n 0 2))) (app 1 (pair (abs (n 0 1) (name (n 0 2))) (app 1 (pair (abs (n 0 1) (name (n 0 2))) (app 1 (pair (abs (n 0 1) (name (n 0 2))) (app 1 (pair (abs (n 0 1) (name (n 0 2))) (app 1 (pair (abs (n 0 1) (name (n 0 2))) (app 1 (pair (abs (n 0 1) (name (n 0 2))) (app 1 (pair (abs (n 0 1) (name (n 0 2))) (app 1 (pair (abs (n 0 1) (name (n 0 2))) (app 1 (pair (abs (n 0 1) (name (n 0 2))) (app 1 (pair (abs (n 0 1) (name (n 0 2))) (app 1 (pair (abs (n 0 1) (name (n 0 2))) (app 1 (pair (abs (n 0 1) (name (n 0 2))) (app 1 (pair (abs (n 0 1) (name (n 0 2))) (app 1 (pair (abs (n 0 1) (name (n 0 2))) (app 1 (pair (abs (n 0 1) (name (n 0 2))) (app 1 (pair (abs (n 0 1) (name (n 0 2))) (app 1 (pair (abs (n 0 1) (name (n 0 2))) (app 1 (pair (abs (n 0 1) (name (n 0 2))) (app 1 (pair (abs (n 0 1) (name (n 0 2))) (app 1 (pair (abs (n 0 1) (name (n 0 2))) (app 1 (pair (abs (n 0 1) (name (n 0 2))) (app 1 (pair (abs (n 0 1) (name (n 0 2))) (app 1 (pair (abs (n 0 1) (name (n 0 2))) (app 1 (pair (abs (n 0 1) (name (n 0 2))) (app 1 (pair (abs (n 0 1) (name (n 0 2))) (app 1 (pair (abs (n 0 1) (name (n 0 2))) (app 1 (pair (abs (n 0 1) (name (n 0 2))) (app 1 (pair (abs (n 0 1) (name (n 0 2))) (app 1 (pair (abs (n 0 1) (name (n 0 2))) (app 1 (pair (abs (n 0 1) (name (n 0 2))) (app 1 (pair (abs (n 0 1) (name (n 0 2))) (app 1 (pair (abs (n 0 1) (name (n 0 2))) (app 1 (pair (abs (n 0 1) (name (n 0 2))) (app 1 (pair (abs (n 0 1) (name (n 0 2))) (app 1 (pair (abs (n 0 1) (name (n 0 2))) (app 1 (pair (abs (n 0 1) (name (n 0 2))) (app 1 (pair (abs (n 0 1) (name (n 0 2))) (app 1 (pair (abs (n 0 1) (name (n 0 2))) (app 1 (pair (abs (n 0 1) (name (n 0 2))) (app 1 (pair (abs (n 0 1) (name (n 0 2))) (app 1 (pair (abs (n 0 1) (name (n 0 2))) (app 1 (pair (abs (n 0 1) (name (n 0 2))) (app 1 (pair (abs (n 0 1) (name (n 0 2))) (app 1 (pair (abs (n 0 1) (name (n 0 2))) (app 1 (pair (abs (n 0 1) (name (n 0 2))) (app 1 (pair (abs (n 0 1) (name (n 0 2))) (app 1 (pair (abs (n 0 1) (name (n 0 2))) (app 1 (pair (abs (n 0 1) (name (n 0 2))) (app 1 (pair (abs (n 0 1) (name (n 0 2))) (app 1 (pair (abs (n 0 1) (name (n 0 2))) (app 1 (pair (abs (n 0 1) (name (n 0 2))) (app 1 (pair (abs (n 0 1) (name (n 0 2))) (app 1 (pair (abs (n 0 1) (name (n 0 2))) (app 1 (pair (abs (n 0 1) (name (n 0 2))) (app 1 (pair (abs (n 0 1) (name (n 0 2))) (app 1 (pair (abs (n 0 1) (name (n 0 2))) (app 1 (pair (abs (n 0 1) (name (n 0 2))) (app 1 (pair (abs (n 0 1) (name (n 0 2))) (app 1 (pair (abs (n 0 1) (name (n 0 2))) (app 1 (pair (abs (n 0 1) (name (n 0 2))) (app 1 (pair (abs (n 0 1) (name (n 0 2))) (app 1 (pair (abs (n 0 1) (name (n 0 2))) (app 1 (pair (abs (n 0 1) (name (n 0 2))) (app 1 (pair (abs (n 0 1) (name (n 0 2))) (app 1 (pair (abs (n 0 1) (name (n 0 2))) (app 1 (pair (abs (n 0 1) (name (n 0 2))) (app 1 (pair (abs (n 0 1) (name (n 0 2))) (app 1 (pair (abs (n 0 1) (name (n 0 2))) (app 1 (pair (abs (n 0 1) (name (n 0 2))) (app 1 (pair (abs (n 0 1) (name (n 0 2))) (app 1 (pair (abs (n 0 1) (name (n 0 2))) (app 1 (pair (abs (n 0 1) (name (n 0 2))) (app 1 (pair (abs (n 0 1) (name (n 0 2))) (app 1 (pair (abs (n 0 1) (name (n 0 2))) (app 1 (pair (abs (n 0 1) (name (n 0 2))) (app 1 (pair (abs (n 0 1) (name (n 0 2))) (app 1 (pair (abs (n 0 1) (name (n 0 2))) (app 1 (pair (abs (n 0 1) (name (n 0 2))) (app 1 (pair (abs (n 0 1) (name (n 0 2))) (app 1 (pair (abs (n 0 1) (name (n 0 2))) (app 1 (pair (abs (n 0 1) (name (n 0 2))) (app 1 (pair (abs (n 0 1) (name (n 0 2))) (app 1 (pair (abs (n 0 1) (name (n 0 2))) (app 1 (pair (abs (n 0 1) (name (n 0 2))) (app 1 (pair (abs (n 0 1) (name (n 0 2))) (app 1 (pair (abs (n 0 1) (name (n 0 2))) (app 1 (pair (abs (n 0 1) (name (n 0 2))) (app 1 (pair (abs (n 0 1) (name (n 0 2))) (app 1 (pair (abs (n 0 1) (name (n 0 2))) (app 1 (pair (abs (n 0 1) (name (n 0 2))) (app 1 (pair (abs (n 0 1) (name (n 0 2))) (app 1 (pair (abs (n 0 1) (name (n 0 2))) (app 1 (pair (abs (n 0 1) (name (n 0 2))) (app 1 (pair (abs (n 0 1) (name (n 0 2))) (app 1 (pair (abs (n 0 1) (name (n 0 2))) (app 1 (pair (abs (n 0 1) (name (n 0 2))) (app 1 (pair (abs (n 0 1) (name (n 0 2))) (app 1 (pair (abs (n 0 1) (name (n 0 2))) (app 1 (pair (abs (n 0 1) (name (n 0 2))) (app 1 (pair (abs (n 0 1) (name (n 0 2))) (app 1 (pair (abs (n 0 1) (name (n 0 2))) (app 1 (pair (abs (n 0 1) (name (n 0 2))) (app 1 (pair (abs (n 0 1) (name (n 0 2))) (app 1 (pair (abs (n 0 1) (name (n 0 2))) (app 1 (pair (abs (n 0 1) (name (n 0 2))) (app 1 (pair (abs (n 0 1) (name (n 0 2))) (app 1 (pair (abs (n 0 1) (name (n 0 2))) (app 1 (pair (abs (n 0 1) (name (n 0 2))) (app 1 (pair (abs (n 0 1) (name (n 0 2))) (app 1 (pair (abs (n 0 1) (name (n 0 2))) (app 1 (pair (abs (n 0 1) (name (n 0 2))) (app 1 (pair (abs (n 0 1) (name (n 0 2))) (app 1 (pair (abs (n 0 1) (name (n 0 2))) (app 1 (pair (abs (n 0 1) (name (n 0 2))) (app 1 (pair (abs (n 0 1) (name (n 0 2))) (app 1 (pair (abs (n 0 1) (name (n 0 2))) (app 1 (pair (abs (n 0 1) (name (n 0 2))) (app 1 (pair (abs (n 0 1) (name (n 0 2))) (app 1 (pair (abs (n 0 1) (name (n 0 2))) (app 1 (pair (abs (n 0 1) (name (n 0 2))) (app 1 (pair (abs (n 0 1) (name (n 0 2))) (app 1 (pair (abs (n 0 1) (name (n 0 2))) (app 1 (pair (abs (n 0 1) (name (n 0 2))) (app 1 (pair (abs (n 0 1) (name (n 0 2))) (app 1 (pair (abs (n 0 1) (name (n 0 2))) (app 1 (pair (abs (n 0 1) (name (n 0 2))) (app 1 (pair (abs (n 0 1) (name (n 0 2))) (app 1 (pair (abs (n 0 1) (name (n 0 2))) (app 1 (pair (abs (n 0 1) (name (n 0 2))) (app 1 (pair (abs (n 0 1) (name (n 0 2))) (app 1 (pair (abs (n 0 1) (name (n 0 2))) (app 1 (pair (abs (n 0 1) (name (n 0 2))) (app 1 (pair (abs (n 0 1) (name (n 0 2))) (app 1 (pair (abs (n 0 1) (name (n 0 2))) (app 1 (pair (abs (n 0 1) (name (n 0 2))) (app 1 (pair (abs (n 0 1) (name (n 0 2))) (app 1 (pair (abs (n 0 1) (name (n 0 2))) (app 1 (pair (abs (n 0 1) (name (n 0 2))) (app 1 (pair (abs (n 0 1) (name (n 0 2))) (app 1 (pair (abs (n 0 1) (name (n 0 2))) (app 1 (pair (abs (n 0 1) (name (n 0 2))) (app 1 (pair (abs (n 0 1) (name (n 0 2))) (app 1 (pair (abs (n 0 1) (name (n 0 2))) (app 1 (pair (abs (n 0 1) (name (n 0 2))) (app 1 (pair (abs (n 0 1) (name (n 0 2))) (app 1 (pair (abs (n 0 1) (name (n 0 2))) (app 1 (pair (abs (n 0 1) (name (n 0 2))) (app 1 (pair (abs (n 0 1) (name (n 0 2))) (app 1 (pair (abs (n 0 1) (name (n 0 2))) (app 1 (pair (abs (n 0 1) (name (n 0 2))) (app 1 (pair (abs (n 0 1) (name (n 0 2))) (app 1 (pair (abs (n 0 1) (name (n 0 2))) (app 1 (pair (abs (n 0 1) (name (n 0 2))) (app 1 (pair (abs (n 0 1) (name (n 0 2))) (app 1 (pair (abs (n 0 1) (name (n 0 2))) (app 1 (pair (abs (n 0 1) (name (n 0 2))) (app 1 (pair (abs (n 0 1) (name (n 0 2))) (app 1 (pair (abs (n 0 1) (name (n 0 2))) (app 1 (pair (abs (n 0 1) (name (n 0 2))) (app 1 (pair (abs (n 0 1) (name (n 0 2))) (app 1 (pair (abs (n 0 1) (name (n 0 2))) (app 1 (pair (abs (n 0 1) (name (n 0 2))) (app 0 unit)))))))))))))))))))))))))))))))))))))))))))))))))))))))))))))))))))))))))))))))))))))))))))))))))))))))))))))))))))))))))))))))))))))))))))))))))))))))))))))))))))))))))))))))))))))))))))))))))))))))))))))))))))))))))))))))))))))))))))))))))))))))))))))))))))))))))))))))))))))))))))))))))))))))))))))))))))))))))))))))))))))))))))))))))))))))))))))))))))))))))))))))))))))))))))))))))))))))))))))))))))))))))))))))))))))))))))))))))))))))))))))))))))))))))))))))))))))))))))))))))))))))))))))))))))))))))))))))))))))))))))))))))))))))))))))))))))))))))))))))))))))))))))))))))))))))))))))))))))))))))) (variable (types.list (types.abs 0 (types.names 0))) (codes "X") ∷ named 0 (codes "a") ∷ named 0 (codes "b") ∷ []) ∷ []) (codes "id" ∷ codes "X" ∷ codes "a" ∷ codes "b" ∷ [])) 2
    ≡ codes "X = [a\\b,a\\b,a\\b,a\\b,a\\b,a\\b,a\\b,a\\b,a\\b,a\\b,a\\b,a\\b,a\\b,a\\b,a\\b,a\\b,a\\b,a\\b,a\\b,a\\b,a\\b,a\\b,a\\b,a\\b,a\\b,a\\b,a\\b,a\\b,a\\b,a\\b,a\\b,a\\b,a\\b,a\\b,a\\b,a\\b,a\\b,a\\b,a\\b,a\\b,a\\b,a\\b,a\\b,a\\b,a\\b,a\\b,a\\b,a\\b,a\\b,a\\b,a\\b,a\\b,a\\b,a\\b,a\\b,a\\b,a\\b,a\\b,a\\b,a\\b,a\\b,a\\b,a\\b,a\\b,a\\b,a\\b,a\\b,a\\b,a\\b,a\\b,a\\b,a\\b,a\\b,a\\b,a\\b,a\\b,a\\b,a\\b,a\\b,a\\b,a\\b,a\\b,a\\b,a\\b,a\\b,a\\b,a\\b,a\\b,a\\b,a\\b,a\\b,a\\b,a\\b,a\\b,a\\b,a\\b,a\\b,a\\b,a\\b,a\\b,a\\b,a\\b,a\\b,a\\b,a\\b,a\\b,a\\b,a\\b,a\\b,a\\b,a\\b,a\\b,a\\b,a\\b,a\\b,a\\b,a\\b,a\\b,a\\b,a\\b,a\\b,a\\b,a\\b,a\\b,a\\b,a\\b,a\\b,a\\b,a\\b,a\\b,a\\b,a\\b,a\\b,a\\b,a\\b,a\\b,a\\b,a\\b,a\\b,a\\b,a\\b,a\\b,a\\b,a\\b,a\\b,a\\b,a\\b,a\\b,a\\b,a\\b,a\\b,a\\b,a\\b,a\\b,a\\b,a\\b,a\\b,a\\b,a\\b,a\\b,a\\b,a\\b,a\\b,a\\b,a\\b,a\\b,a\\b,a\\b,a\\b,a\\b,a\\b,a\\b,a\\b,a\\b,a\\b,a\\b,a\\b,a\\b,a\\b,a\\b,a\\b,a\\b,a\\b,a\\b,a\\b,a\\b,a\\b,a\\b,a\\b,a\\b,a\\b,a\\b,a\\b,a\\b,a\\b,a\\b,a\\b,a\\b,a\\b,a\\b,a\\b,a\\b,a\\b,a\\b,a\\b,a\\b,a\\b,a\\b,a\\b,a\\b,a\\b,a\\b,a\\b,a\\b,a\\b,a\\b,a\\b,a\\b,a\\b,a\\b,a\\b,a\\b,a\\b,a\\b,a\\b,a\\b,a\\b,a\\b,a\\b,a\\b,a\\b,a\\b,a\\b,a\\b,a\\b,a\\b,a\\b,a\\b,a\\b,a\\b,a\\b,a\\b,a\\b,a\\b,a\\b,a\\b,a\\b,a\\b,a\\b,a\\b,a\\b,a\\b,a\\b,a\\b,a\\b,a\\b,a\\b,a\\b,a\\b,a\\b,a\\b,a\\b,a\\b,a\\b,a\\b,a\\b,a\\b,a\\b,a\\b,a\\b,a\\b,a\\b,a\\b,a\\b,a\\b,a\\b,a\\b,a\\b,a\\b,a\\b,a\\b,a\\b,a\\b,a\\b,a\\b,a\\b,a\\b,a\\b,a\\b,a\\b,a\\b,a\\b,a\\b,a\\b,a\\b,a\\b,a\\b,a\\b,a\\b,a\\b]\n% query 1: 1 answers, 0 cut, 0 stuck\n"
unfolding swap_name name_eq name_before unify ending canonical digits
sampled_deep_00038 = refl

sampled_names_00001 : program_report (programs (signature (codes "id" ∷ codes "nm" ∷ []) (codes "exp" ∷ []) (constructor (codes "h") [] 0 ∷ []) (((types.names 1) ∷ []) ∷ ((types.names 0) ∷ []) ∷ [])) ([] ∷ [] ∷ []) (query (goals.atom 1 ((name (n 0 0)) ∷ [])) (named 0 (codes "a") ∷ []) ∷ []) (codes "id" ∷ codes "nm" ∷ codes "exp" ∷ codes "h" ∷ codes "p0" ∷ codes "p1" ∷ codes "a" ∷ [])) 2
    ≡ codes "% query 1: 0 answers, 0 cut, 0 stuck\n"
unfolding swap_name name_eq name_before unify ending canonical digits
sampled_names_00001 = refl

sampled_names_00004 : program_report (programs (signature (codes "id" ∷ codes "nm" ∷ []) (codes "exp" ∷ codes "ty" ∷ []) (constructor (codes "var") ((types.names 0) ∷ []) 0 ∷ constructor (codes "lam") ((types.abs 0 (types.base 0)) ∷ []) 0 ∷ constructor (codes "con") ((types.names 1) ∷ []) 0 ∷ constructor (codes "mu") ((types.abs 1 (types.base 0)) ∷ []) 0 ∷ constructor (codes "o") [] 1 ∷ []) (((types.base 1) ∷ []) ∷ [])) ((clause 0 ((v 0) ∷ []) (goals.atom 0 ((v 0) ∷ [])) (variable (types.base 1) (codes "X") ∷ []) ∷ clause 0 ((app 6 unit) ∷ []) (goals.atom 0 ((v 0) ∷ [])) (variable (types.base 1) (codes "X") ∷ []) ∷ clause 0 ((v 0) ∷ []) goals.succeed (variable (types.base 1) (codes "X") ∷ []) ∷ []) ∷ []) (query (goals.both (goals.atom 0 ((v 0) ∷ [])) (goals.equal (app 2 (name (n 0 1))) (app 2 (name (n 0 2))))) (variable (types.base 1) (codes "X") ∷ named 0 (codes "b") ∷ named 0 (codes "a") ∷ []) ∷ []) (codes "id" ∷ codes "nm" ∷ codes "exp" ∷ codes "ty" ∷ codes "var" ∷ codes "lam" ∷ codes "con" ∷ codes "mu" ∷ codes "o" ∷ codes "p0" ∷ codes "X" ∷ codes "b" ∷ codes "a" ∷ [])) 4
    ≡ codes "% cut 16\n% query 1: 0 answers, 16 cut, 0 stuck\n"
unfolding swap_name name_eq name_before unify ending canonical digits
sampled_names_00004 = refl

sampled_names_00005 : program_report (programs (signature (codes "id" ∷ []) (codes "exp" ∷ codes "ty" ∷ []) (constructor (codes "f") [] 0 ∷ constructor (codes "g") ((types.base 0) ∷ (types.list (types.base 1)) ∷ (types.pair (types.list (types.base 1)) types.unit) ∷ []) 0 ∷ constructor (codes "h") [] 1 ∷ constructor (codes "s") ((types.base 1) ∷ []) 1 ∷ []) (((types.names 0) ∷ []) ∷ [])) ((clause 0 ((v 0) ∷ []) (goals.both (goals.fresh (name (n 0 1)) (v 0)) (goals.both (goals.fresh (name (n 0 2)) (v 0)) (goals.atom 0 ((name (n 0 2)) ∷ [])))) (variable (types.names 0) (codes "X") ∷ named 0 (codes "a") ∷ named 0 (codes "b") ∷ []) ∷ clause 0 ((v 0) ∷ []) (goals.both (goals.atom 0 ((v 1) ∷ [])) (goals.new (n 0 2) (goals.both (goals.equal (app 4 unit) (app 4 unit)) (goals.atom 0 ((v 1) ∷ []))))) (variable (types.names 0) (codes "X") ∷ variable (types.names 0) (codes "Y") ∷ brought_name 0 (codes "b") ∷ []) ∷ []) ∷ []) (query (goals.both (goals.equal (app 4 unit) (v 0)) (goals.atom 0 ((name (n 0 1)) ∷ []))) (variable (types.base 1) (codes "_") ∷ named 0 (codes "n1") ∷ []) ∷ []) (codes "id" ∷ codes "exp" ∷ codes "ty" ∷ codes "f" ∷ codes "g" ∷ codes "h" ∷ codes "s" ∷ codes "p0" ∷ codes "X" ∷ codes "a" ∷ codes "b" ∷ codes "Y" ∷ codes "_" ∷ codes "n1" ∷ [])) 0
    ≡ codes "% cut 1\n% query 1: 0 answers, 1 cut, 0 stuck\n"
unfolding swap_name name_eq name_before unify ending canonical digits
sampled_names_00005 = refl

sampled_names_00006 : program_report (programs (signature (codes "id" ∷ codes "nm" ∷ []) (codes "exp" ∷ codes "ty" ∷ []) (constructor (codes "var") ((types.names 0) ∷ []) 0 ∷ constructor (codes "app") ((types.base 0) ∷ (types.base 0) ∷ []) 0 ∷ constructor (codes "lam") ((types.abs 0 (types.base 0)) ∷ []) 0 ∷ constructor (codes "con") ((types.names 1) ∷ []) 0 ∷ constructor (codes "mu") ((types.abs 1 (types.base 0)) ∷ []) 0 ∷ constructor (codes "o") [] 1 ∷ constructor (codes "arr") ((types.base 1) ∷ (types.base 1) ∷ []) 1 ∷ []) (((types.names 0) ∷ (types.names 1) ∷ []) ∷ [])) ((clause 0 ((v 0) ∷ (v 1) ∷ []) goals.succeed (variable (types.names 0) (codes "X") ∷ variable (types.names 1) (codes "Y") ∷ []) ∷ clause 0 ((v 0) ∷ (v 1) ∷ []) (goals.both (goals.fresh (name (n 0 2)) (v 0)) (goals.both (goals.fresh (name (n 0 2)) (v 1)) (goals.both (goals.atom 0 ((name (n 0 2)) ∷ (v 1) ∷ [])) (goals.atom 0 ((v 0) ∷ (v 1) ∷ []))))) (variable (types.names 0) (codes "X") ∷ variable (types.names 1) (codes "Y") ∷ named 0 (codes "b") ∷ []) ∷ []) ∷ []) (query (goals.fresh (name (n 1 0)) (app 5 (name (n 1 0)))) (named 1 (codes "m") ∷ []) ∷ []) (codes "id" ∷ codes "nm" ∷ codes "exp" ∷ codes "ty" ∷ codes "var" ∷ codes "app" ∷ codes "lam" ∷ codes "con" ∷ codes "mu" ∷ codes "o" ∷ codes "arr" ∷ codes "p0" ∷ codes "m" ∷ codes "X" ∷ codes "Y" ∷ codes "b" ∷ [])) 2
    ≡ codes "% query 1: 0 answers, 0 cut, 0 stuck\n"
unfolding swap_name name_eq name_before unify ending canonical digits
sampled_names_00006 = refl

sampled_names_00007 : program_report (programs (signature (codes "id" ∷ codes "nm" ∷ codes "tv" ∷ []) (codes "exp" ∷ codes "ty" ∷ []) (constructor (codes "var") ((types.names 0) ∷ []) 0 ∷ constructor (codes "app") ((types.base 0) ∷ (types.base 0) ∷ []) 0 ∷ constructor (codes "lam") ((types.abs 0 (types.base 0)) ∷ []) 0 ∷ constructor (codes "o") [] 1 ∷ constructor (codes "arr") ((types.base 1) ∷ (types.base 1) ∷ []) 1 ∷ []) (((types.pair (types.base 0) (types.list (types.base 1))) ∷ (types.abs 1 (types.base 0)) ∷ []) ∷ ((types.names 1) ∷ []) ∷ [])) ((clause 0 ((v 0) ∷ (abs (n 1 1) (app 4 (v 2))) ∷ []) goals.succeed (variable (types.pair (types.base 0) (types.list (types.base 1))) (codes "X") ∷ named 1 (codes "n2") ∷ variable (types.abs 0 (types.base 0)) (codes "Y") ∷ []) ∷ []) ∷ (clause 1 ((v 0) ∷ []) goals.succeed (variable (types.names 1) (codes "X") ∷ []) ∷ []) ∷ []) (query (goals.both (goals.atom 1 ((name (n 1 0)) ∷ [])) (goals.equal (app 5 unit) (app 5 unit))) (named 1 (codes "k") ∷ []) ∷ []) (codes "id" ∷ codes "nm" ∷ codes "tv" ∷ codes "exp" ∷ codes "ty" ∷ codes "var" ∷ codes "app" ∷ codes "lam" ∷ codes "o" ∷ codes "arr" ∷ codes "p0" ∷ codes "p1" ∷ codes "X" ∷ codes "n2" ∷ codes "Y" ∷ codes "k" ∷ [])) 0
    ≡ codes "% cut 1\n% query 1: 0 answers, 1 cut, 0 stuck\n"
unfolding swap_name name_eq name_before unify ending canonical digits
sampled_names_00007 = refl

sampled_names_00008 : program_report (programs (signature (codes "id" ∷ codes "nm" ∷ []) (codes "exp" ∷ codes "ty" ∷ []) (constructor (codes "g") [] 0 ∷ constructor (codes "f") ((types.base 1) ∷ []) 0 ∷ constructor (codes "h") ((types.base 1) ∷ (types.base 0) ∷ (types.list (types.abs 0 (types.base 0))) ∷ []) 0 ∷ constructor (codes "s") [] 1 ∷ constructor (codes "z") ((types.names 0) ∷ []) 1 ∷ constructor (codes "q") ((types.base 0) ∷ (types.abs 0 (types.names 1)) ∷ []) 1 ∷ []) (((types.pair (types.pair (types.base 0) (types.base 0)) (types.names 0)) ∷ (types.base 0) ∷ []) ∷ (types.unit ∷ (types.abs 0 (types.abs 1 (types.base 1))) ∷ []) ∷ ((types.base 1) ∷ (types.names 1) ∷ []) ∷ [])) ((clause 0 ((pair (pair (v 0) (v 0)) (v 1)) ∷ (v 2) ∷ []) goals.succeed (variable (types.base 0) (codes "X") ∷ variable (types.names 0) (codes "Y") ∷ variable (types.base 0) (codes "_1") ∷ []) ∷ clause 0 ((v 0) ∷ (app 3 (app 6 (v 1))) ∷ []) goals.succeed (variable (types.pair (types.pair (types.base 0) (types.base 0)) (types.names 0)) (codes "X") ∷ variable (types.names 0) (codes "Y") ∷ []) ∷ []) ∷ (clause 1 ((v 0) ∷ (v 1) ∷ []) goals.succeed (variable types.unit (codes "X") ∷ variable (types.abs 0 (types.abs 1 (types.base 1))) (codes "Y") ∷ []) ∷ clause 1 ((v 0) ∷ (v 1) ∷ []) (goals.both (goals.atom 0 ((pair (pair (v 2) (app 2 unit)) (v 3)) ∷ (v 4) ∷ [])) (goals.atom 0 ((pair (v 5) (v 6)) ∷ (v 4) ∷ []))) (variable types.unit (codes "X") ∷ variable (types.abs 0 (types.abs 1 (types.base 1))) (codes "Y") ∷ variable (types.base 0) (codes "_1") ∷ variable (types.names 0) (codes "_") ∷ variable (types.base 0) (codes "Z") ∷ variable (types.pair (types.base 0) (types.base 0)) (codes "U") ∷ variable (types.names 0) (codes "_") ∷ []) ∷ []) ∷ (clause 2 ((app 6 (v 0)) ∷ (v 1) ∷ []) (goals.both (goals.atom 0 ((pair (v 2) (v 3)) ∷ (app 3 (v 4)) ∷ [])) (goals.atom 0 ((pair (pair (v 5) (v 6)) (v 3)) ∷ (app 4 (pair (v 4) (pair (app 2 unit) (v 7)))) ∷ []))) (variable (types.names 0) (codes "X") ∷ variable (types.names 1) (codes "Y") ∷ variable (types.pair (types.base 0) (types.base 0)) (codes "_1") ∷ variable (types.names 0) (codes "Z") ∷ variable (types.base 1) (codes "U") ∷ variable (types.base 0) (codes "_") ∷ variable (types.base 0) (codes "_") ∷ variable (types.list (types.abs 0 (types.base 0))) (codes "_") ∷ []) ∷ clause 2 ((app 6 (v 0)) ∷ (v 1) ∷ []) goals.succeed (variable (types.names 0) (codes "X") ∷ variable (types.names 1) (codes "Y") ∷ []) ∷ []) ∷ []) (query (goals.both (goals.equal (app 2 unit) (app 4 (pair (app 6 (name (n 0 0))) (pair (v 1) (app 1 (pair (v 2) (app 0 unit))))))) (goals.both (goals.equal (name (n 1 3)) (name (n 1 5))) (goals.atom 2 ((app 6 (name (n 0 0))) ∷ (name (n 1 4)) ∷ [])))) (named 0 (codes "b") ∷ variable (types.base 0) (codes "X") ∷ variable (types.abs 0 (types.base 0)) (codes "Y") ∷ named 1 (codes "n2") ∷ named 1 (codes "m") ∷ named 1 (codes "k") ∷ []) ∷ query (goals.atom 2 ((app 5 unit) ∷ (name (n 1 0)) ∷ [])) (named 1 (codes "n2") ∷ []) ∷ []) (codes "id" ∷ codes "nm" ∷ codes "exp" ∷ codes "ty" ∷ codes "g" ∷ codes "f" ∷ codes "h" ∷ codes "s" ∷ codes "z" ∷ codes "q" ∷ codes "p0" ∷ codes "p1" ∷ codes "X" ∷ codes "Y" ∷ codes "p2" ∷ codes "_1" ∷ codes "Z" ∷ codes "U" ∷ codes "_" ∷ codes "b" ∷ codes "n2" ∷ codes "m" ∷ codes "k" ∷ [])) 3
    ≡ codes "% query 1: 0 answers, 0 cut, 0 stuck\n% query 2: 0 answers, 0 cut, 0 stuck\n"
unfolding swap_name name_eq name_before unify ending canonical digits
sampled_names_00008 = refl

sampled_names_00013 : program_report (programs (signature (codes "id" ∷ codes "nm" ∷ []) (codes "exp" ∷ []) (constructor (codes "s") [] 0 ∷ []) ((types.unit ∷ (types.names 0) ∷ []) ∷ [] ∷ [])) ([] ∷ (clause 1 [] goals.succeed [] ∷ clause 1 [] (goals.both (goals.atom 0 ((v 0) ∷ (v 1) ∷ [])) (goals.atom 0 (unit ∷ (v 1) ∷ []))) (variable types.unit (codes "X") ∷ variable (types.names 0) (codes "Y") ∷ []) ∷ clause 1 [] goals.succeed [] ∷ []) ∷ []) (query (goals.atom 1 []) [] ∷ []) (codes "id" ∷ codes "nm" ∷ codes "exp" ∷ codes "s" ∷ codes "p0" ∷ codes "p1" ∷ codes "X" ∷ codes "Y" ∷ [])) 4
    ≡ codes "yes\nyes\n% query 1: 2 answers, 0 cut, 0 stuck\n"
unfolding swap_name name_eq name_before unify ending canonical digits
sampled_names_00013 = refl

sampled_names_00015 : program_report (programs (signature (codes "id" ∷ []) [] [] []) [] (query (goals.fresh (v 0) (app 0 unit)) (variable (types.names 0) (codes "X") ∷ []) ∷ []) (codes "id" ∷ codes "X" ∷ [])) 2
    ≡ codes "% stuck 1\n% query 1: 0 answers, 0 cut, 1 stuck\n"
unfolding swap_name name_eq name_before unify ending canonical digits
sampled_names_00015 = refl

sampled_names_00016 : program_report (programs (signature (codes "id" ∷ []) (codes "exp" ∷ []) (constructor (codes "f") [] 0 ∷ constructor (codes "z") (types.unit ∷ []) 0 ∷ constructor (codes "h") ((types.list (types.names 0)) ∷ (types.list (types.base 0)) ∷ []) 0 ∷ []) ([] ∷ [] ∷ [])) ([] ∷ (clause 1 [] goals.succeed [] ∷ []) ∷ []) (query (goals.atom 1 []) [] ∷ []) (codes "id" ∷ codes "exp" ∷ codes "f" ∷ codes "z" ∷ codes "h" ∷ codes "p0" ∷ codes "p1" ∷ [])) 0
    ≡ codes "% cut 1\n% query 1: 0 answers, 1 cut, 0 stuck\n"
unfolding swap_name name_eq name_before unify ending canonical digits
sampled_names_00016 = refl

sampled_names_00017 : program_report (programs (signature (codes "id" ∷ codes "nm" ∷ []) (codes "exp" ∷ []) (constructor (codes "var") ((types.names 0) ∷ []) 0 ∷ constructor (codes "lam") ((types.abs 0 (types.base 0)) ∷ []) 0 ∷ constructor (codes "con") ((types.names 1) ∷ []) 0 ∷ constructor (codes "mu") ((types.abs 1 (types.base 0)) ∷ []) 0 ∷ []) (((types.abs 1 types.unit) ∷ []) ∷ ((types.pair (types.names 1) (types.names 0)) ∷ []) ∷ ((types.list (types.names 1)) ∷ (types.base 0) ∷ (types.names 0) ∷ []) ∷ [])) ((clause 0 ((v 0) ∷ []) (goals.both (goals.atom 0 ((abs (n 1 1) (v 2)) ∷ [])) (goals.atom 2 ((app 0 unit) ∷ (v 3) ∷ (v 4) ∷ []))) (variable (types.abs 1 types.unit) (codes "X") ∷ named 1 (codes "n2") ∷ variable types.unit (codes "Y") ∷ variable (types.base 0) (codes "_1") ∷ variable (types.names 0) (codes "Z") ∷ []) ∷ clause 0 ((v 0) ∷ []) goals.succeed (variable (types.abs 1 types.unit) (codes "X") ∷ []) ∷ clause 0 ((abs (n 1 0) unit) ∷ []) goals.succeed (named 1 (codes "n2") ∷ []) ∷ clause 0 ((v 0) ∷ []) (goals.both (goals.fresh (name (n 0 1)) (v 0)) (goals.atom 2 ((v 2) ∷ (v 3) ∷ (name (n 0 1)) ∷ []))) (variable (types.abs 1 types.unit) (codes "X") ∷ named 0 (codes "b") ∷ variable (types.list (types.names 1)) (codes "Y") ∷ variable (types.base 0) (codes "_1") ∷ []) ∷ []) ∷ [] ∷ [] ∷ []) (query (goals.atom 2 ((app 1 (pair (name (n 1 0)) (app 1 (pair (v 1) (v 2))))) ∷ (v 3) ∷ (name (n 0 4)) ∷ [])) (named 1 (codes "m") ∷ variable (types.names 1) (codes "X") ∷ variable (types.list (types.names 1)) (codes "Y") ∷ variable (types.base 0) (codes "_1") ∷ named 0 (codes "n1") ∷ []) ∷ []) (codes "id" ∷ codes "nm" ∷ codes "exp" ∷ codes "var" ∷ codes "lam" ∷ codes "con" ∷ codes "mu" ∷ codes "p0" ∷ codes "p1" ∷ codes "p2" ∷ codes "X" ∷ codes "n2" ∷ codes "Y" ∷ codes "_1" ∷ codes "Z" ∷ codes "m" ∷ codes "n1" ∷ codes "b" ∷ [])) 3
    ≡ codes "% query 1: 0 answers, 0 cut, 0 stuck\n"
unfolding swap_name name_eq name_before unify ending canonical digits
sampled_names_00017 = refl

sampled_names_00019 : program_report (programs (signature [] [] [] []) [] (query (goals.equal (app 0 unit) (app 0 unit)) [] ∷ []) []) 1
    ≡ codes "yes\n% query 1: 1 answers, 0 cut, 0 stuck\n"
unfolding swap_name name_eq name_before unify ending canonical digits
sampled_names_00019 = refl

sampled_names_00025 : program_report (programs (signature (codes "id" ∷ []) (codes "exp" ∷ codes "ty" ∷ []) (constructor (codes "var") ((types.names 0) ∷ []) 0 ∷ constructor (codes "lam") ((types.abs 0 (types.base 0)) ∷ []) 0 ∷ constructor (codes "o") [] 1 ∷ constructor (codes "arr") ((types.base 1) ∷ (types.base 1) ∷ []) 1 ∷ []) (((types.base 1) ∷ []) ∷ [] ∷ [])) ((clause 0 ((app 5 (pair (app 4 unit) (app 4 unit))) ∷ []) goals.succeed [] ∷ []) ∷ (clause 1 [] (goals.atom 1 []) [] ∷ clause 1 [] (goals.both (goals.equal (app 4 unit) (v 0)) (goals.atom 0 ((v 0) ∷ []))) (variable (types.base 1) (codes "X") ∷ []) ∷ []) ∷ []) (query (goals.both (goals.either (goals.atom 0 ((app 5 (pair (app 5 (pair (app 4 unit) (v 0))) (app 4 unit))) ∷ [])) (goals.fresh (name (n 0 1)) (abs (n 0 2) (app 2 (name (n 0 3)))))) (goals.both (goals.atom 1 []) (goals.equal (pair (app 4 unit) (v 4)) (pair (app 4 unit) (app 2 (name (n 0 1))))))) (variable (types.base 1) (codes "X") ∷ named 0 (codes "b") ∷ named 0 (codes "n1") ∷ named 0 (codes "a") ∷ variable (types.base 0) (codes "Y") ∷ []) ∷ []) (codes "id" ∷ codes "exp" ∷ codes "ty" ∷ codes "var" ∷ codes "lam" ∷ codes "o" ∷ codes "arr" ∷ codes "p0" ∷ codes "p1" ∷ codes "X" ∷ codes "b" ∷ codes "n1" ∷ codes "a" ∷ codes "Y" ∷ [])) 0
    ≡ codes "% cut 2\n% query 1: 0 answers, 2 cut, 0 stuck\n"
unfolding swap_name name_eq name_before unify ending canonical digits
sampled_names_00025 = refl

sampled_names_00026 : program_report (programs (signature (codes "id" ∷ codes "nm" ∷ codes "tv" ∷ []) (codes "exp" ∷ []) (constructor (codes "var") ((types.names 0) ∷ []) 0 ∷ constructor (codes "app") ((types.base 0) ∷ (types.base 0) ∷ []) 0 ∷ constructor (codes "lam") ((types.abs 0 (types.base 0)) ∷ []) 0 ∷ constructor (codes "con") ((types.names 1) ∷ []) 0 ∷ constructor (codes "mu") ((types.abs 1 (types.base 0)) ∷ []) 0 ∷ []) (((types.base 0) ∷ (types.base 0) ∷ []) ∷ ((types.base 0) ∷ (types.base 0) ∷ []) ∷ [] ∷ [])) ((clause 0 ((app 3 (pair (v 0) (app 6 (v 1)))) ∷ (v 0) ∷ []) (goals.atom 2 []) (variable (types.base 0) (codes "X") ∷ variable (types.abs 1 (types.base 0)) (codes "Y") ∷ []) ∷ []) ∷ [] ∷ [] ∷ []) (query (goals.both (goals.atom 2 []) (goals.both (goals.atom 0 ((v 0) ∷ (app 5 (v 1)) ∷ [])) (goals.atom 2 []))) (variable (types.base 0) (codes "X") ∷ variable (types.names 1) (codes "Y") ∷ []) ∷ []) (codes "id" ∷ codes "nm" ∷ codes "tv" ∷ codes "exp" ∷ codes "var" ∷ codes "app" ∷ codes "lam" ∷ codes "con" ∷ codes "mu" ∷ codes "p0" ∷ codes "p1" ∷ codes "p2" ∷ codes "X" ∷ codes "Y" ∷ [])) 0
    ≡ codes "% cut 1\n% query 1: 0 answers, 1 cut, 0 stuck\n"
unfolding swap_name name_eq name_before unify ending canonical digits
sampled_names_00026 = refl

sampled_names_00028 : program_report (programs (signature (codes "id" ∷ []) (codes "exp" ∷ codes "ty" ∷ []) (constructor (codes "var") ((types.names 0) ∷ []) 0 ∷ constructor (codes "lam") ((types.abs 0 (types.base 0)) ∷ []) 0 ∷ constructor (codes "o") [] 1 ∷ constructor (codes "arr") ((types.base 1) ∷ (types.base 1) ∷ []) 1 ∷ []) (((types.list (types.base 1)) ∷ (types.base 1) ∷ (types.base 0) ∷ []) ∷ ((types.names 0) ∷ []) ∷ ((types.base 1) ∷ (types.base 1) ∷ []) ∷ [])) ((clause 0 ((v 0) ∷ (app 4 unit) ∷ (v 1) ∷ []) (goals.equal (app 1 (pair (v 2) (v 0))) (app 1 (pair (v 2) (v 0)))) (variable (types.list (types.base 1)) (codes "X") ∷ variable (types.base 0) (codes "Y") ∷ variable (types.base 1) (codes "_1") ∷ []) ∷ clause 0 ((v 0) ∷ (app 5 (pair (v 1) (v 1))) ∷ (v 2) ∷ []) goals.succeed (variable (types.list (types.base 1)) (codes "X") ∷ variable (types.base 1) (codes "Y") ∷ variable (types.base 0) (codes "_1") ∷ []) ∷ []) ∷ [] ∷ (clause 2 ((v 0) ∷ (app 5 (pair (app 5 (pair (v 0) (v 1))) (v 2))) ∷ []) goals.succeed (variable (types.base 1) (codes "X") ∷ variable (types.base 1) (codes "Y") ∷ variable (types.base 1) (codes "_1") ∷ []) ∷ []) ∷ []) (query (goals.both (goals.atom 1 ((name (n 0 0)) ∷ [])) (goals.atom 0 ((v 1) ∷ (app 4 unit) ∷ (v 2) ∷ []))) (named 0 (codes "b") ∷ variable (types.list (types.base 1)) (codes "X") ∷ variable (types.base 0) (codes "Y") ∷ []) ∷ []) (codes "id" ∷ codes "exp" ∷ codes "ty" ∷ codes "var" ∷ codes "lam" ∷ codes "o" ∷ codes "arr" ∷ codes "p0" ∷ codes "p1" ∷ codes "p2" ∷ codes "X" ∷ codes "Y" ∷ codes "_1" ∷ codes "b" ∷ [])) 4
    ≡ codes "% query 1: 0 answers, 0 cut, 0 stuck\n"
unfolding swap_name name_eq name_before unify ending canonical digits
sampled_names_00028 = refl

sampled_names_00030 : program_report (programs (signature (codes "id" ∷ codes "nm" ∷ codes "tv" ∷ []) (codes "exp" ∷ []) (constructor (codes "z") [] 0 ∷ constructor (codes "f") ((types.base 0) ∷ []) 0 ∷ constructor (codes "g") ((types.base 0) ∷ (types.names 2) ∷ (types.base 0) ∷ []) 0 ∷ []) (((types.base 0) ∷ (types.names 0) ∷ (types.base 0) ∷ []) ∷ ((types.abs 1 (types.abs 1 (types.base 0))) ∷ []) ∷ [])) ([] ∷ (clause 1 ((abs (n 1 0) (v 1)) ∷ []) goals.succeed (named 1 (codes "n2") ∷ variable (types.abs 1 (types.base 0)) (codes "X") ∷ []) ∷ []) ∷ []) (query (goals.atom 1 ((v 0) ∷ [])) (variable (types.abs 1 (types.abs 1 (types.base 0))) (codes "X") ∷ []) ∷ []) (codes "id" ∷ codes "nm" ∷ codes "tv" ∷ codes "exp" ∷ codes "z" ∷ codes "f" ∷ codes "g" ∷ codes "p0" ∷ codes "p1" ∷ codes "n2" ∷ codes "X" ∷ [])) 4
    ≡ codes "X = n1\\_1\n% query 1: 1 answers, 0 cut, 0 stuck\n"
unfolding swap_name name_eq name_before unify ending canonical digits
sampled_names_00030 = refl

sampled_names_00031 : program_report (programs (signature (codes "id" ∷ codes "nm" ∷ codes "tv" ∷ []) (codes "exp" ∷ codes "ty" ∷ []) (constructor (codes "q") [] 0 ∷ constructor (codes "h") ((types.base 1) ∷ (types.base 0) ∷ (types.names 2) ∷ []) 0 ∷ constructor (codes "g") ((types.base 1) ∷ (types.pair (types.base 0) (types.base 1)) ∷ []) 0 ∷ constructor (codes "s") ((types.names 2) ∷ []) 1 ∷ constructor (codes "z") ((types.abs 0 (types.base 0)) ∷ []) 1 ∷ []) (((types.base 1) ∷ (types.base 1) ∷ (types.list (types.names 0)) ∷ []) ∷ ((types.abs 1 (types.abs 1 (types.base 1))) ∷ []) ∷ (types.unit ∷ []) ∷ [])) ([] ∷ (clause 1 ((abs (n 1 0) (v 1)) ∷ []) goals.succeed (named 1 (codes "m") ∷ variable (types.abs 1 (types.base 1)) (codes "X") ∷ []) ∷ []) ∷ (clause 2 ((v 0) ∷ []) goals.succeed (variable types.unit (codes "X") ∷ []) ∷ clause 2 (unit ∷ []) (goals.atom 2 (unit ∷ [])) [] ∷ []) ∷ []) (query (goals.equal (app 5 (v 0)) (v 1)) (variable (types.names 2) (codes "X") ∷ variable (types.base 1) (codes "Y") ∷ []) ∷ []) (codes "id" ∷ codes "nm" ∷ codes "tv" ∷ codes "exp" ∷ codes "ty" ∷ codes "q" ∷ codes "h" ∷ codes "g" ∷ codes "s" ∷ codes "z" ∷ codes "p0" ∷ codes "p1" ∷ codes "p2" ∷ codes "m" ∷ codes "X" ∷ codes "Y" ∷ [])) 2
    ≡ codes "X = _1, Y = s(_1)\n% query 1: 1 answers, 0 cut, 0 stuck\n"
unfolding swap_name name_eq name_before unify ending canonical digits
sampled_names_00031 = refl

sampled_names_00032 : program_report (programs (signature (codes "id" ∷ []) (codes "exp" ∷ codes "ty" ∷ []) (constructor (codes "q") [] 0 ∷ constructor (codes "f") ((types.list (types.pair (types.base 1) (types.base 0))) ∷ (types.base 1) ∷ []) 0 ∷ constructor (codes "s") [] 1 ∷ constructor (codes "z") ((types.pair (types.base 1) (types.base 0)) ∷ (types.names 0) ∷ []) 1 ∷ constructor (codes "g") ((types.names 0) ∷ types.unit ∷ []) 1 ∷ []) (((types.pair (types.base 1) (types.abs 0 (types.base 0))) ∷ (types.names 0) ∷ (types.abs 0 (types.base 1)) ∷ []) ∷ [] ∷ [])) ((clause 0 ((v 0) ∷ (v 1) ∷ (abs (n 0 2) (app 5 (pair (v 3) (v 4)))) ∷ []) (goals.both (goals.fresh (name (n 0 2)) (v 0)) (goals.both (goals.fresh (name (n 0 2)) (v 1)) (goals.both (goals.fresh (name (n 0 2)) (v 3)) (goals.both (goals.fresh (name (n 0 2)) (v 4)) (goals.both (goals.equal (v 5) (v 5)) (goals.atom 0 ((pair (v 5) (v 6)) ∷ (v 1) ∷ (v 7) ∷ []))))))) (variable (types.pair (types.base 1) (types.abs 0 (types.base 0))) (codes "X") ∷ variable (types.names 0) (codes "Y") ∷ named 0 (codes "b") ∷ variable (types.pair (types.base 1) (types.base 0)) (codes "_1") ∷ variable (types.names 0) (codes "Z") ∷ variable (types.base 1) (codes "U") ∷ variable (types.abs 0 (types.base 0)) (codes "_") ∷ variable (types.abs 0 (types.base 1)) (codes "_") ∷ []) ∷ []) ∷ (clause 1 [] (goals.fresh (name (n 0 0)) unit) (named 0 (codes "b") ∷ []) ∷ []) ∷ []) (query (goals.atom 0 ((pair (app 4 unit) (abs (n 0 0) (v 1))) ∷ (v 2) ∷ (abs (n 0 3) (v 4)) ∷ [])) (named 0 (codes "a") ∷ variable (types.base 0) (codes "X") ∷ variable (types.names 0) (codes "Y") ∷ named 0 (codes "n1") ∷ variable (types.base 1) (codes "_1") ∷ []) ∷ []) (codes "id" ∷ codes "exp" ∷ codes "ty" ∷ codes "q" ∷ codes "f" ∷ codes "s" ∷ codes "z" ∷ codes "g" ∷ codes "p0" ∷ codes "p1" ∷ codes "X" ∷ codes "Y" ∷ codes "b" ∷ codes "_1" ∷ codes "Z" ∷ codes "U" ∷ codes "_" ∷ codes "a" ∷ codes "n1" ∷ [])) 3
    ≡ codes "% cut 1\n% query 1: 0 answers, 1 cut, 0 stuck\n"
unfolding swap_name name_eq name_before unify ending canonical digits
sampled_names_00032 = refl

sampled_names_00033 : program_report (programs (signature (codes "id" ∷ codes "nm" ∷ []) (codes "exp" ∷ codes "ty" ∷ []) (constructor (codes "g") [] 0 ∷ constructor (codes "f") ((types.base 1) ∷ []) 0 ∷ constructor (codes "z") ((types.base 1) ∷ []) 0 ∷ constructor (codes "h") [] 1 ∷ constructor (codes "s") ((types.pair (types.pair (types.base 0) (types.base 1)) (types.base 0)) ∷ (types.base 1) ∷ []) 1 ∷ constructor (codes "q") ((types.list (types.names 1)) ∷ []) 1 ∷ []) ([] ∷ ((types.names 1) ∷ (types.base 0) ∷ []) ∷ [])) ((clause 0 [] (goals.atom 1 ((name (n 1 0)) ∷ (v 1) ∷ [])) (named 1 (codes "n2") ∷ variable (types.base 0) (codes "X") ∷ []) ∷ clause 0 [] goals.succeed [] ∷ []) ∷ [] ∷ []) (query (goals.both (goals.atom 1 ((name (n 1 0)) ∷ (app 4 (v 1)) ∷ [])) (goals.both (goals.atom 0 []) (goals.atom 1 ((name (n 1 2)) ∷ (app 3 (app 6 (pair (v 3) (v 1)))) ∷ [])))) (named 1 (codes "n2") ∷ variable (types.base 1) (codes "X") ∷ named 1 (codes "m") ∷ variable (types.pair (types.pair (types.base 0) (types.base 1)) (types.base 0)) (codes "Y") ∷ []) ∷ []) (codes "id" ∷ codes "nm" ∷ codes "exp" ∷ codes "ty" ∷ codes "g" ∷ codes "f" ∷ codes "z" ∷ codes "h" ∷ codes "s" ∷ codes "q" ∷ codes "p0" ∷ codes "p1" ∷ codes "n2" ∷ codes "X" ∷ codes "m" ∷ codes "Y" ∷ [])) 0
    ≡ codes "% cut 1\n% query 1: 0 answers, 1 cut, 0 stuck\n"
unfolding swap_name name_eq name_before unify ending canonical digits
sampled_names_00033 = refl

sampled_names_00035 : program_report (programs (signature (codes "id" ∷ codes "nm" ∷ []) (codes "exp" ∷ codes "ty" ∷ []) (constructor (codes "var") ((types.names 0) ∷ []) 0 ∷ constructor (codes "app") ((types.base 0) ∷ (types.base 0) ∷ []) 0 ∷ constructor (codes "lam") ((types.abs 0 (types.base 0)) ∷ []) 0 ∷ constructor (codes "con") ((types.names 1) ∷ []) 0 ∷ constructor (codes "mu") ((types.abs 1 (types.base 0)) ∷ []) 0 ∷ constructor (codes "o") [] 1 ∷ []) (((types.pair (types.names 1) (types.abs 1 (types.base 1))) ∷ []) ∷ ((types.names 0) ∷ []) ∷ [])) ([] ∷ (clause 1 ((v 0) ∷ []) goals.succeed (variable (types.names 0) (codes "X") ∷ []) ∷ clause 1 ((v 0) ∷ []) goals.succeed (variable (types.names 0) (codes "X") ∷ []) ∷ clause 1 ((v 0) ∷ []) goals.succeed (variable (types.names 0) (codes "X") ∷ []) ∷ clause 1 ((v 0) ∷ []) goals.succeed (variable (types.names 0) (codes "X") ∷ []) ∷ []) ∷ []) (query (goals.both (goals.atom 1 ((v 0) ∷ [])) (goals.both (goals.equal (app 3 (pair (susp (swap_of (n 1 1) (n 1 2) ∷ []) (record { num = 3 })) (susp (swap_of (n 1 1) (n 1 2) ∷ []) (record { num = 3 })))) (app 5 (name (n 1 2)))) (goals.atom 0 ((pair (v 4) (abs (n 1 2) (v 5))) ∷ [])))) (variable (types.names 0) (codes "X") ∷ named 1 (codes "m") ∷ named 1 (codes "n2") ∷ variable (types.base 0) (codes "Y") ∷ variable (types.names 1) (codes "_1") ∷ variable (types.base 1) (codes "Z") ∷ []) ∷ []) (codes "id" ∷ codes "nm" ∷ codes "exp" ∷ codes "ty" ∷ codes "var" ∷ codes "app" ∷ codes "lam" ∷ codes "con" ∷ codes "mu" ∷ codes "o" ∷ codes "p0" ∷ codes "p1" ∷ codes "X" ∷ codes "m" ∷ codes "n2" ∷ codes "Y" ∷ codes "_1" ∷ codes "Z" ∷ [])) 1
    ≡ codes "% query 1: 0 answers, 0 cut, 0 stuck\n"
unfolding swap_name name_eq name_before unify ending canonical digits
sampled_names_00035 = refl

sampled_names_00037 : program_report (programs (signature (codes "id" ∷ []) (codes "exp" ∷ []) (constructor (codes "s") ((types.names 0) ∷ []) 0 ∷ []) ((types.unit ∷ []) ∷ [])) ((clause 0 ((v 0) ∷ []) goals.succeed (variable types.unit (codes "X") ∷ []) ∷ clause 0 ((v 0) ∷ []) goals.succeed (variable types.unit (codes "X") ∷ []) ∷ []) ∷ []) (query (goals.both (goals.atom 0 (unit ∷ [])) (goals.atom 0 (unit ∷ []))) (named 0 (codes "b") ∷ named 0 (codes "n1") ∷ []) ∷ query (goals.both (goals.fresh (name (n 0 0)) (v 1)) (goals.atom 0 ((v 1) ∷ []))) (named 0 (codes "b") ∷ variable types.unit (codes "X") ∷ []) ∷ []) (codes "id" ∷ codes "exp" ∷ codes "s" ∷ codes "p0" ∷ codes "X" ∷ codes "b" ∷ codes "n1" ∷ [])) 4
    ≡ codes "yes\nyes\nyes\nyes\n% query 1: 4 answers, 0 cut, 0 stuck\nX = _1 where b # _1\nX = _1 where b # _1\n% query 2: 2 answers, 0 cut, 0 stuck\n"
unfolding swap_name name_eq name_before unify ending canonical digits
sampled_names_00037 = refl

sampled_names_00039 : program_report (programs (signature (codes "id" ∷ []) (codes "exp" ∷ []) (constructor (codes "s") ((types.names 0) ∷ []) 0 ∷ constructor (codes "z") ((types.pair (types.names 0) (types.list (types.base 0))) ∷ (types.pair (types.abs 0 (types.base 0)) (types.list (types.base 0))) ∷ (types.names 0) ∷ []) 0 ∷ []) ([] ∷ [])) ((clause 0 [] (goals.atom 0 []) [] ∷ clause 0 [] goals.succeed [] ∷ clause 0 [] (goals.both (goals.atom 0 []) (goals.atom 0 [])) [] ∷ clause 0 [] goals.succeed [] ∷ clause 0 [] goals.succeed [] ∷ []) ∷ []) (query (goals.fresh (v 0) (name (n 0 1))) (variable (types.names 0) (codes "X") ∷ named 0 (codes "a") ∷ []) ∷ []) (codes "id" ∷ codes "exp" ∷ codes "s" ∷ codes "z" ∷ codes "p0" ∷ codes "X" ∷ codes "a" ∷ [])) 2
    ≡ codes "% stuck 1\n% query 1: 0 answers, 0 cut, 1 stuck\n"
unfolding swap_name name_eq name_before unify ending canonical digits
sampled_names_00039 = refl

sampled_typed_00011 : program_report (programs (signature (codes "id" ∷ []) (codes "exp" ∷ codes "ty" ∷ []) (constructor (codes "q") ((types.names 0) ∷ []) 0 ∷ constructor (codes "h") ((types.abs 0 (types.pair (types.base 1) (types.base 1))) ∷ []) 0 ∷ constructor (codes "z") ((types.names 0) ∷ []) 1 ∷ constructor (codes "f") ((types.base 0) ∷ (types.base 1) ∷ []) 1 ∷ constructor (codes "g") ((types.names 0) ∷ (types.pair (types.base 1) (types.abs 0 (types.base 0))) ∷ (types.names 0) ∷ []) 1 ∷ []) (((types.abs 0 (types.list (types.base 1))) ∷ (types.abs 0 (types.names 0)) ∷ []) ∷ ((types.names 0) ∷ []) ∷ [] ∷ [])) ((clause 0 ((v 0) ∷ (v 1) ∷ []) (goals.both (goals.fresh (name (n 0 2)) (v 0)) (goals.both (goals.fresh (name (n 0 2)) (v 1)) (goals.atom 0 ((v 0) ∷ (abs (n 0 2) (v 3)) ∷ [])))) (variable (types.abs 0 (types.list (types.base 1))) (codes "X") ∷ variable (types.abs 0 (types.names 0)) (codes "Y") ∷ named 0 (codes "b") ∷ variable (types.names 0) (codes "_1") ∷ []) ∷ []) ∷ [] ∷ (clause 2 [] goals.succeed [] ∷ []) ∷ []) (query (goals.exists (record { num = 0 }) (goals.both (goals.fresh (name (n 0 1)) (app 5 (pair (app 2 (name (n 0 2))) (v 0)))) (goals.atom 2 []))) (some_variable (types.base 1) (codes "Y") ∷ named 0 (codes "a") ∷ named 0 (codes "b") ∷ []) ∷ query (goals.both (goals.atom 2 []) (goals.both (goals.atom 2 []) (goals.atom 0 ((abs (n 0 0) (app 0 unit)) ∷ (abs (n 0 1) (name (n 0 2))) ∷ [])))) (named 0 (codes "a") ∷ named 0 (codes "b") ∷ named 0 (codes "n1") ∷ []) ∷ []) (codes "id" ∷ codes "exp" ∷ codes "ty" ∷ codes "q" ∷ codes "h" ∷ codes "z" ∷ codes "f" ∷ codes "g" ∷ codes "p0" ∷ codes "p1" ∷ codes "p2" ∷ codes "X" ∷ codes "Y" ∷ codes "b" ∷ codes "_1" ∷ codes "a" ∷ codes "n1" ∷ [])) 4
    ≡ codes "yes\n% query 1: 1 answers, 0 cut, 0 stuck\n% cut 1\n% query 2: 0 answers, 1 cut, 0 stuck\n"
unfolding swap_name name_eq name_before unify ending canonical digits
sampled_typed_00011 = refl

sampled_typed_00014 : program_report (programs (signature (codes "id" ∷ []) (codes "exp" ∷ []) (constructor (codes "var") ((types.names 0) ∷ []) 0 ∷ constructor (codes "app") ((types.base 0) ∷ (types.base 0) ∷ []) 0 ∷ constructor (codes "lam") ((types.abs 0 (types.base 0)) ∷ []) 0 ∷ []) (((types.names 0) ∷ (types.base 0) ∷ []) ∷ ((types.base 0) ∷ []) ∷ ((types.base 0) ∷ []) ∷ ((types.abs 0 (types.base 0)) ∷ (types.names 0) ∷ (types.base 0) ∷ []) ∷ ((types.base 0) ∷ (types.base 0) ∷ []) ∷ ((types.base 0) ∷ (types.names 0) ∷ (types.names 0) ∷ []) ∷ ((types.base 0) ∷ (types.base 0) ∷ []) ∷ [])) ((clause 0 ((v 0) ∷ (app 2 (v 0)) ∷ []) goals.succeed (variable (types.names 0) (codes "X") ∷ []) ∷ clause 0 ((v 0) ∷ (app 3 (pair (v 1) (v 2))) ∷ []) (goals.either (goals.atom 0 ((v 0) ∷ (v 1) ∷ [])) (goals.atom 0 ((v 0) ∷ (v 2) ∷ []))) (variable (types.names 0) (codes "X") ∷ variable (types.base 0) (codes "M") ∷ variable (types.base 0) (codes "N") ∷ []) ∷ clause 0 ((v 0) ∷ (app 4 (abs (n 0 1) (v 2))) ∷ []) (goals.both (goals.fresh (name (n 0 1)) (v 0)) (goals.atom 0 ((v 0) ∷ (v 2) ∷ []))) (variable (types.names 0) (codes "X") ∷ named 0 (codes "y") ∷ variable (types.base 0) (codes "M") ∷ []) ∷ []) ∷ (clause 1 ((app 4 (abs (n 0 0) (app 2 (name (n 0 0))))) ∷ []) goals.succeed (named 0 (codes "x") ∷ []) ∷ clause 1 ((app 3 (pair (v 0) (v 1))) ∷ []) (goals.both (goals.atom 1 ((v 0) ∷ [])) (goals.atom 1 ((v 1) ∷ []))) (variable (types.base 0) (codes "M") ∷ variable (types.base 0) (codes "N") ∷ []) ∷ []) ∷ (clause 2 ((v 0) ∷ []) (goals.new (n 0 1) (goals.both (goals.equal (app 4 (abs (n 0 1) (v 0))) (app 4 (abs (n 0 1) (v 0)))) (goals.atom 1 ((v 0) ∷ [])))) (variable (types.base 0) (codes "M") ∷ brought_name 0 (codes "z") ∷ []) ∷ []) ∷ (clause 3 ((v 0) ∷ (v 1) ∷ (v 2) ∷ []) (goals.new (n 0 3) (goals.both (goals.equal (v 0) (abs (n 0 3) (v 4))) (goals.both (goals.equal (v 2) (v 4)) (goals.equal (v 1) (v 1))))) (variable (types.abs 0 (types.base 0)) (codes "F") ∷ variable (types.names 0) (codes "X") ∷ variable (types.base 0) (codes "N") ∷ brought_name 0 (codes "y") ∷ variable (types.base 0) (codes "M") ∷ []) ∷ clause 3 ((v 0) ∷ (v 1) ∷ (v 2) ∷ []) (goals.either (goals.exists (record { num = 3 }) (goals.both (goals.equal (v 3) (v 2)) (goals.fresh (v 1) (v 2)))) (goals.equal (v 0) (v 0))) (variable (types.abs 0 (types.base 0)) (codes "F") ∷ variable (types.names 0) (codes "X") ∷ variable (types.base 0) (codes "N") ∷ some_variable (types.base 0) (codes "M") ∷ []) ∷ []) ∷ (clause 4 ((v 0) ∷ (v 0) ∷ []) goals.succeed (variable (types.base 0) (codes "M") ∷ []) ∷ clause 4 ((app 4 (abs (n 0 0) (v 1))) ∷ (app 4 (abs (n 0 0) (v 2))) ∷ []) (goals.atom 4 ((v 1) ∷ (v 2) ∷ [])) (named 0 (codes "x") ∷ variable (types.base 0) (codes "M") ∷ variable (types.base 0) (codes "N") ∷ []) ∷ clause 4 ((app 3 (pair (v 0) (v 1))) ∷ (app 3 (pair (v 2) (v 3))) ∷ []) (goals.both (goals.atom 4 ((v 0) ∷ (v 2) ∷ [])) (goals.atom 4 ((v 1) ∷ (v 3) ∷ []))) (variable (types.base 0) (codes "M") ∷ variable (types.base 0) (codes "N") ∷ variable (types.base 0) (codes "P") ∷ variable (types.base 0) (codes "Q") ∷ []) ∷ []) ∷ (clause 5 ((app 2 (v 0)) ∷ (v 0) ∷ (v 1) ∷ []) (goals.fresh (v 0) (v 1)) (variable (types.names 0) (codes "X") ∷ variable (types.names 0) (codes "Y") ∷ []) ∷ clause 5 ((app 4 (abs (n 0 0) (v 1))) ∷ (v 2) ∷ (v 3) ∷ []) (goals.both (goals.fresh (name (n 0 0)) (v 2)) (goals.both (goals.fresh (name (n 0 0)) (v 3)) (goals.either (goals.atom 5 ((v 1) ∷ (v 2) ∷ (v 3) ∷ [])) (goals.atom 5 ((v 1) ∷ (v 3) ∷ (v 2) ∷ []))))) (named 0 (codes "x") ∷ variable (types.base 0) (codes "M") ∷ variable (types.names 0) (codes "X") ∷ variable (types.names 0) (codes "Y") ∷ []) ∷ []) ∷ (clause 6 ((app 4 (abs (n 0 0) (app 4 (abs (n 0 1) (v 2))))) ∷ (v 3) ∷ []) (goals.both (goals.fresh (name (n 0 0)) (v 3)) (goals.both (goals.fresh (name (n 0 1)) (v 3)) (goals.equal (v 2) (v 3)))) (named 0 (codes "x") ∷ named 0 (codes "y") ∷ variable (types.base 0) (codes "M") ∷ variable (types.base 0) (codes "N") ∷ []) ∷ clause 6 ((app 4 (abs (n 0 0) (app 4 (abs (n 0 1) (v 2))))) ∷ (app 4 (abs (n 0 1) (app 4 (abs (n 0 0) (v 2))))) ∷ []) goals.succeed (named 0 (codes "x") ∷ named 0 (codes "y") ∷ variable (types.base 0) (codes "M") ∷ []) ∷ clause 6 ((v 0) ∷ (app 4 (abs (n 0 1) (susp (swap_of (n 0 1) (n 0 2) ∷ []) (record { num = 0 })))) ∷ []) (goals.both (goals.fresh (name (n 0 1)) (v 0)) (goals.both (goals.fresh (name (n 0 2)) (v 0)) (goals.both (goals.fresh (name (n 0 2)) (susp (swap_of (n 0 1) (n 0 2) ∷ []) (record { num = 0 }))) (goals.exists (record { num = 3 }) (goals.both (goals.equal (v 3) (app 3 (pair (v 0) (susp (swap_of (n 0 1) (n 0 2) ∷ []) (record { num = 0 }))))) (goals.fresh (name (n 0 1)) (v 3))))))) (variable (types.base 0) (codes "M") ∷ named 0 (codes "x") ∷ named 0 (codes "y") ∷ some_variable (types.base 0) (codes "N") ∷ []) ∷ []) ∷ []) (query (goals.either (goals.atom 4 ((app 2 (name (n 0 0))) ∷ (app 2 (name (n 0 1))) ∷ [])) (goals.equal (v 2) (app 1 (pair (app 4 (v 3)) (v 4))))) (named 0 (codes "n1") ∷ named 0 (codes "b") ∷ variable (types.list (types.base 0)) (codes "_") ∷ variable (types.abs 0 (types.base 0)) (codes "X") ∷ variable (types.list (types.base 0)) (codes "Y") ∷ []) ∷ query (goals.atom 0 ((name (n 0 1)) ∷ (app 3 (pair (susp (swap_of (n 0 1) (n 0 2) ∷ []) (record { num = 3 })) (app 2 (name (n 0 0))))) ∷ [])) (named 0 (codes "a") ∷ named 0 (codes "n1") ∷ named 0 (codes "b") ∷ variable (types.base 0) (codes "X") ∷ []) ∷ []) (codes "id" ∷ codes "exp" ∷ codes "var" ∷ codes "app" ∷ codes "lam" ∷ codes "free" ∷ codes "X" ∷ codes "M" ∷ codes "N" ∷ codes "y" ∷ codes "notin" ∷ codes "x" ∷ codes "closed" ∷ codes "z" ∷ codes "inst" ∷ codes "F" ∷ codes "eqv" ∷ codes "P" ∷ codes "Q" ∷ codes "var2" ∷ codes "Y" ∷ codes "two" ∷ codes "n1" ∷ codes "b" ∷ codes "_" ∷ codes "a" ∷ [])) 2
    ≡ codes "X = _1, Y = _2\n% query 1: 1 answers, 0 cut, 0 stuck\nX = var(b)\n% cut 3\n% query 2: 1 answers, 3 cut, 0 stuck\n"
unfolding swap_name name_eq name_before unify ending canonical digits
sampled_typed_00014 = refl

sampled_typed_00016 : program_report (programs (signature (codes "id" ∷ []) (codes "exp" ∷ []) (constructor (codes "f") [] 0 ∷ constructor (codes "z") (types.unit ∷ []) 0 ∷ constructor (codes "h") ((types.list (types.names 0)) ∷ (types.list (types.base 0)) ∷ []) 0 ∷ []) ([] ∷ [] ∷ [])) ([] ∷ (clause 1 [] goals.succeed [] ∷ []) ∷ []) (query (goals.atom 1 []) [] ∷ query (goals.fresh (name (n 0 0)) (app 0 unit)) (named 0 (codes "b") ∷ []) ∷ []) (codes "id" ∷ codes "exp" ∷ codes "f" ∷ codes "z" ∷ codes "h" ∷ codes "p0" ∷ codes "p1" ∷ codes "b" ∷ [])) 0
    ≡ codes "% cut 1\n% query 1: 0 answers, 1 cut, 0 stuck\nyes\n% query 2: 1 answers, 0 cut, 0 stuck\n"
unfolding swap_name name_eq name_before unify ending canonical digits
sampled_typed_00016 = refl

sampled_typed_00026 : program_report (programs (signature (codes "id" ∷ codes "nm" ∷ codes "tv" ∷ []) (codes "exp" ∷ []) (constructor (codes "var") ((types.names 0) ∷ []) 0 ∷ constructor (codes "app") ((types.base 0) ∷ (types.base 0) ∷ []) 0 ∷ constructor (codes "lam") ((types.abs 0 (types.base 0)) ∷ []) 0 ∷ constructor (codes "con") ((types.names 1) ∷ []) 0 ∷ constructor (codes "mu") ((types.abs 1 (types.base 0)) ∷ []) 0 ∷ []) (((types.base 0) ∷ (types.base 0) ∷ []) ∷ ((types.base 0) ∷ (types.base 0) ∷ []) ∷ [] ∷ [])) ((clause 0 ((app 3 (pair (v 0) (app 6 (v 1)))) ∷ (v 0) ∷ []) (goals.atom 2 []) (variable (types.base 0) (codes "X") ∷ variable (types.abs 1 (types.base 0)) (codes "Y") ∷ []) ∷ []) ∷ [] ∷ (clause 2 [] (goals.both (goals.atom 1 ((app 3 (pair (v 0) (v 0))) ∷ (v 1) ∷ [])) (goals.atom 2 [])) (variable (types.base 0) (codes "X") ∷ variable (types.base 0) (codes "Y") ∷ []) ∷ clause 2 [] goals.succeed [] ∷ clause 2 [] (goals.atom 2 []) [] ∷ []) ∷ []) (query (goals.both (goals.either (goals.both (goals.atom 1 ((v 0) ∷ (app 6 (abs (n 1 1) (v 0))) ∷ [])) (goals.equal (pair (susp (swap_of (n 0 2) (n 0 3) ∷ []) (record { num = 0 })) (app 4 (v 4))) (pair (app 3 (pair (v 0) (app 5 (name (n 1 5))))) (app 4 (v 6))))) (goals.atom 2 [])) (goals.both (goals.atom 0 ((app 2 (name (n 0 3))) ∷ (app 5 (v 7)) ∷ [])) (goals.atom 2 []))) (variable (types.base 0) (codes "X") ∷ named 1 (codes "n2") ∷ named 0 (codes "n1") ∷ named 0 (codes "b") ∷ variable (types.abs 0 (types.base 0)) (codes "_") ∷ named 1 (codes "m") ∷ variable (types.abs 0 (types.base 0)) (codes "Y") ∷ variable (types.names 1) (codes "_1") ∷ []) ∷ query (goals.atom 0 ((v 0) ∷ (v 1) ∷ [])) (variable (types.base 0) (codes "_") ∷ variable (types.base 0) (codes "X") ∷ []) ∷ []) (codes "id" ∷ codes "nm" ∷ codes "exp" ∷ codes "tv" ∷ codes "var" ∷ codes "app" ∷ codes "lam" ∷ codes "con" ∷ codes "mu" ∷ codes "p0" ∷ codes "p1" ∷ codes "p2" ∷ codes "X" ∷ codes "Y" ∷ codes "n2" ∷ codes "n1" ∷ codes "b" ∷ codes "_" ∷ codes "m" ∷ codes "_1" ∷ [])) 0
    ≡ codes "% cut 2\n% query 1: 0 answers, 2 cut, 0 stuck\n% cut 1\n% query 2: 0 answers, 1 cut, 0 stuck\n"
unfolding swap_name name_eq name_before unify ending canonical digits
sampled_typed_00026 = refl

sampled_typed_00030 : program_report (programs (signature (codes "id" ∷ codes "nm" ∷ codes "tv" ∷ []) (codes "exp" ∷ []) (constructor (codes "z") [] 0 ∷ constructor (codes "f") ((types.base 0) ∷ []) 0 ∷ constructor (codes "g") ((types.base 0) ∷ (types.names 2) ∷ (types.base 0) ∷ []) 0 ∷ []) (((types.base 0) ∷ (types.names 0) ∷ (types.base 0) ∷ []) ∷ ((types.abs 1 (types.abs 1 (types.base 0))) ∷ []) ∷ [])) ([] ∷ (clause 1 ((abs (n 1 0) (v 1)) ∷ []) goals.succeed (named 1 (codes "n2") ∷ variable (types.abs 1 (types.base 0)) (codes "X") ∷ []) ∷ clause 1 ((abs (n 1 0) (abs (n 1 1) (v 2))) ∷ []) (goals.both (goals.atom 0 ((app 4 (pair (v 2) (pair (v 3) (v 2)))) ∷ (name (n 0 4)) ∷ (app 3 (v 5)) ∷ [])) (goals.atom 1 ((abs (n 1 0) (v 6)) ∷ []))) (named 1 (codes "n2") ∷ named 1 (codes "m") ∷ variable (types.base 0) (codes "X") ∷ variable (types.names 2) (codes "Y") ∷ named 0 (codes "b") ∷ variable (types.base 0) (codes "_1") ∷ variable (types.abs 1 (types.base 0)) (codes "Z") ∷ []) ∷ []) ∷ []) (query (goals.atom 1 ((abs (n 1 0) (abs (n 1 1) (app 2 unit))) ∷ [])) (named 1 (codes "n2") ∷ named 1 (codes "m") ∷ []) ∷ query (goals.both (goals.either (goals.both (goals.equal (app 4 (pair (v 0) (pair (name (n 2 1)) (app 4 (pair (app 2 unit) (pair (name (n 2 2)) (v 3))))))) (app 3 (app 4 (pair (v 0) (pair (name (n 2 1)) (v 0)))))) (goals.atom 1 ((abs (n 1 4) (v 5)) ∷ []))) (goals.equal (name (n 2 1)) (name (n 2 2)))) (goals.both (goals.atom 1 ((v 6) ∷ [])) (goals.equal (v 3) (app 4 (pair (app 2 unit) (pair (v 7) (v 0))))))) (variable (types.base 0) (codes "X") ∷ named 2 (codes "w") ∷ named 2 (codes "u") ∷ variable (types.base 0) (codes "Y") ∷ named 1 (codes "n2") ∷ variable (types.abs 1 (types.base 0)) (codes "_1") ∷ variable (types.abs 1 (types.abs 1 (types.base 0))) (codes "Z") ∷ variable (types.names 2) (codes "_") ∷ []) ∷ []) (codes "id" ∷ codes "nm" ∷ codes "tv" ∷ codes "exp" ∷ codes "z" ∷ codes "f" ∷ codes "g" ∷ codes "p0" ∷ codes "p1" ∷ codes "n2" ∷ codes "X" ∷ codes "m" ∷ codes "Y" ∷ codes "b" ∷ codes "_1" ∷ codes "Z" ∷ codes "w" ∷ codes "u" ∷ codes "_" ∷ [])) 4
    ≡ codes "yes\n% query 1: 1 answers, 0 cut, 0 stuck\n% query 2: 0 answers, 0 cut, 0 stuck\n"
unfolding swap_name name_eq name_before unify ending canonical digits
sampled_typed_00030 = refl

sampled_typed_00036 : program_report (programs (signature (codes "id" ∷ []) (codes "exp" ∷ codes "ty" ∷ []) (constructor (codes "var") ((types.names 0) ∷ []) 0 ∷ constructor (codes "lam") ((types.abs 0 (types.base 0)) ∷ []) 0 ∷ constructor (codes "o") [] 1 ∷ constructor (codes "arr") ((types.base 1) ∷ (types.base 1) ∷ []) 1 ∷ []) (((types.base 0) ∷ []) ∷ ((types.names 0) ∷ []) ∷ [])) ((clause 0 ((app 2 (v 0)) ∷ []) goals.succeed (variable (types.names 0) (codes "X") ∷ []) ∷ []) ∷ [] ∷ []) (query (goals.both (goals.atom 1 ((name (n 0 0)) ∷ [])) (goals.both (goals.atom 1 ((name (n 0 1)) ∷ [])) (goals.equal (v 2) (app 4 unit)))) (named 0 (codes "b") ∷ named 0 (codes "n1") ∷ variable (types.base 1) (codes "X") ∷ []) ∷ query (goals.both (goals.new (n 0 0) (goals.both (goals.equal (abs (n 0 1) (v 2)) (abs (n 0 1) (susp (swap_of (n 0 3) (n 0 3) ∷ []) (record { num = 4 })))) (goals.fresh (name (n 0 3)) (name (n 0 3))))) (goals.both (goals.atom 0 ((v 2) ∷ [])) (goals.atom 0 ((app 2 (name (n 0 3))) ∷ [])))) (brought_name 0 (codes "b") ∷ named 0 (codes "n1") ∷ variable (types.base 0) (codes "X") ∷ named 0 (codes "a") ∷ variable (types.base 0) (codes "Y") ∷ []) ∷ []) (codes "id" ∷ codes "exp" ∷ codes "ty" ∷ codes "var" ∷ codes "lam" ∷ codes "o" ∷ codes "arr" ∷ codes "p0" ∷ codes "p1" ∷ codes "X" ∷ codes "b" ∷ codes "n1" ∷ codes "a" ∷ codes "Y" ∷ [])) 2
    ≡ codes "% query 1: 0 answers, 0 cut, 0 stuck\n% query 2: 0 answers, 0 cut, 0 stuck\n"
unfolding swap_name name_eq name_before unify ending canonical digits
sampled_typed_00036 = refl

sampled_valid_00000 : program_report (programs (signature (codes "id" ∷ codes "nm" ∷ []) (codes "exp" ∷ []) (constructor (codes "var") ((types.names 0) ∷ []) 0 ∷ constructor (codes "con") ((types.names 1) ∷ []) 0 ∷ constructor (codes "app") ((types.base 0) ∷ (types.base 0) ∷ []) 0 ∷ constructor (codes "lam") ((types.abs 0 (types.base 0)) ∷ []) 0 ∷ constructor (codes "mu") ((types.abs 1 (types.base 0)) ∷ []) 0 ∷ []) (((types.base 0) ∷ (types.names 0) ∷ (types.base 0) ∷ (types.base 0) ∷ []) ∷ ((types.base 0) ∷ (types.names 1) ∷ (types.names 1) ∷ (types.base 0) ∷ []) ∷ ((types.names 0) ∷ (types.names 1) ∷ (types.base 0) ∷ []) ∷ ((types.base 0) ∷ (types.list (types.pair (types.names 0) (types.names 1))) ∷ []) ∷ [])) ((clause 0 ((app 2 (v 0)) ∷ (v 0) ∷ (v 1) ∷ (v 1) ∷ []) goals.succeed (variable (types.names 0) (codes "X") ∷ variable (types.base 0) (codes "E") ∷ []) ∷ clause 0 ((app 2 (v 0)) ∷ (v 1) ∷ (v 2) ∷ (app 2 (v 0)) ∷ []) (goals.fresh (v 0) (v 1)) (variable (types.names 0) (codes "Y") ∷ variable (types.names 0) (codes "X") ∷ variable (types.base 0) (codes "E") ∷ []) ∷ clause 0 ((app 3 (v 0)) ∷ (v 1) ∷ (v 2) ∷ (app 3 (v 0)) ∷ []) goals.succeed (variable (types.names 1) (codes "C") ∷ variable (types.names 0) (codes "X") ∷ variable (types.base 0) (codes "E") ∷ []) ∷ clause 0 ((app 4 (pair (v 0) (v 1))) ∷ (v 2) ∷ (v 3) ∷ (app 4 (pair (v 4) (v 5))) ∷ []) (goals.both (goals.atom 0 ((v 0) ∷ (v 2) ∷ (v 3) ∷ (v 4) ∷ [])) (goals.atom 0 ((v 1) ∷ (v 2) ∷ (v 3) ∷ (v 5) ∷ []))) (variable (types.base 0) (codes "M") ∷ variable (types.base 0) (codes "N") ∷ variable (types.names 0) (codes "X") ∷ variable (types.base 0) (codes "E") ∷ variable (types.base 0) (codes "M2") ∷ variable (types.base 0) (codes "N2") ∷ []) ∷ clause 0 ((app 5 (abs (n 0 0) (v 1))) ∷ (v 2) ∷ (v 3) ∷ (app 5 (abs (n 0 0) (v 4))) ∷ []) (goals.both (goals.fresh (name (n 0 0)) (v 2)) (goals.both (goals.fresh (name (n 0 0)) (v 3)) (goals.atom 0 ((v 1) ∷ (v 2) ∷ (v 3) ∷ (v 4) ∷ [])))) (named 0 (codes "y") ∷ variable (types.base 0) (codes "M") ∷ variable (types.names 0) (codes "X") ∷ variable (types.base 0) (codes "E") ∷ variable (types.base 0) (codes "M2") ∷ []) ∷ clause 0 ((app 6 (abs (n 1 0) (v 1))) ∷ (v 2) ∷ (v 3) ∷ (app 6 (abs (n 1 0) (v 4))) ∷ []) (goals.both (goals.fresh (name (n 1 0)) (v 3)) (goals.atom 0 ((v 1) ∷ (v 2) ∷ (v 3) ∷ (v 4) ∷ []))) (named 1 (codes "k") ∷ variable (types.base 0) (codes "M") ∷ variable (types.names 0) (codes "X") ∷ variable (types.base 0) (codes "E") ∷ variable (types.base 0) (codes "M2") ∷ []) ∷ []) ∷ (clause 1 ((app 3 (v 0)) ∷ (v 0) ∷ (v 1) ∷ (app 3 (v 1)) ∷ []) goals.succeed (variable (types.names 1) (codes "C") ∷ variable (types.names 1) (codes "D") ∷ []) ∷ clause 1 ((app 3 (v 0)) ∷ (v 1) ∷ (v 2) ∷ (app 3 (v 0)) ∷ []) (goals.fresh (v 0) (v 1)) (variable (types.names 1) (codes "E") ∷ variable (types.names 1) (codes "C") ∷ variable (types.names 1) (codes "D") ∷ []) ∷ clause 1 ((app 2 (v 0)) ∷ (v 1) ∷ (v 2) ∷ (app 2 (v 0)) ∷ []) goals.succeed (variable (types.names 0) (codes "X") ∷ variable (types.names 1) (codes "C") ∷ variable (types.names 1) (codes "D") ∷ []) ∷ clause 1 ((app 6 (abs (n 1 0) (v 1))) ∷ (v 2) ∷ (v 3) ∷ (app 6 (abs (n 1 0) (v 4))) ∷ []) (goals.both (goals.fresh (name (n 1 0)) (v 2)) (goals.both (goals.fresh (name (n 1 0)) (v 3)) (goals.atom 1 ((v 1) ∷ (v 2) ∷ (v 3) ∷ (v 4) ∷ [])))) (named 1 (codes "k") ∷ variable (types.base 0) (codes "M") ∷ variable (types.names 1) (codes "C") ∷ variable (types.names 1) (codes "D") ∷ variable (types.base 0) (codes "N") ∷ []) ∷ clause 1 ((app 5 (abs (n 0 0) (v 1))) ∷ (v 2) ∷ (v 3) ∷ (app 5 (abs (n 0 0) (v 4))) ∷ []) (goals.atom 1 ((v 1) ∷ (v 2) ∷ (v 3) ∷ (v 4) ∷ [])) (named 0 (codes "y") ∷ variable (types.base 0) (codes "M") ∷ variable (types.names 1) (codes "C") ∷ variable (types.names 1) (codes "D") ∷ variable (types.base 0) (codes "N") ∷ []) ∷ []) ∷ (clause 2 ((v 0) ∷ (v 1) ∷ (v 2) ∷ []) (goals.both (goals.fresh (v 0) (v 2)) (goals.fresh (v 1) (v 2))) (variable (types.names 0) (codes "X") ∷ variable (types.names 1) (codes "C") ∷ variable (types.base 0) (codes "M") ∷ []) ∷ clause 2 ((v 0) ∷ (v 1) ∷ (v 2) ∷ []) (goals.exists (record { num = 3 }) (goals.both (goals.equal (v 2) (app 4 (pair (v 3) (v 3)))) (goals.either (goals.fresh (v 0) (v 3)) (goals.fresh (v 1) (v 3))))) (variable (types.names 0) (codes "X") ∷ variable (types.names 1) (codes "C") ∷ variable (types.base 0) (codes "M") ∷ some_variable (types.base 0) (codes "N") ∷ []) ∷ []) ∷ (clause 3 ((v 0) ∷ (app 0 unit) ∷ []) goals.succeed (variable (types.base 0) (codes "M") ∷ []) ∷ clause 3 ((app 5 (abs (n 0 0) (v 1))) ∷ (app 1 (pair (pair (v 2) (v 3)) (v 4))) ∷ []) (goals.both (goals.fresh (name (n 0 0)) (v 4)) (goals.both (goals.fresh (name (n 0 0)) (v 2)) (goals.new (n 1 5) (goals.both (goals.equal (app 6 (abs (n 1 5) (v 1))) (app 6 (abs (n 1 5) (v 1)))) (goals.atom 3 ((v 1) ∷ (v 4) ∷ [])))))) (named 0 (codes "x") ∷ variable (types.base 0) (codes "M") ∷ variable (types.names 0) (codes "Y") ∷ variable (types.names 1) (codes "C") ∷ variable (types.list (types.pair (types.names 0) (types.names 1))) (codes "L") ∷ brought_name 1 (codes "k") ∷ []) ∷ []) ∷ []) (query (goals.atom 2 ((name (n 0 0)) ∷ (name (n 1 1)) ∷ (app 5 (abs (n 0 2) (app 3 (v 3)))) ∷ [])) (named 0 (codes "a") ∷ named 1 (codes "n2") ∷ named 0 (codes "b") ∷ variable (types.names 1) (codes "X") ∷ []) ∷ query (goals.both (goals.atom 3 ((v 0) ∷ (app 1 (pair (pair (name (n 0 1)) (v 2)) (app 1 (pair (v 3) (v 4))))) ∷ [])) (goals.atom 2 ((v 5) ∷ (v 2) ∷ (app 2 (v 6)) ∷ []))) (variable (types.base 0) (codes "X") ∷ named 0 (codes "a") ∷ variable (types.names 1) (codes "Y") ∷ variable (types.pair (types.names 0) (types.names 1)) (codes "_1") ∷ variable (types.list (types.pair (types.names 0) (types.names 1))) (codes "Z") ∷ variable (types.names 0) (codes "_") ∷ variable (types.names 0) (codes "_") ∷ []) ∷ []) (codes "id" ∷ codes "nm" ∷ codes "exp" ∷ codes "var" ∷ codes "con" ∷ codes "app" ∷ codes "lam" ∷ codes "mu" ∷ codes "sub" ∷ codes "X" ∷ codes "E" ∷ codes "Y" ∷ codes "C" ∷ codes "M" ∷ codes "N" ∷ codes "M2" ∷ codes "N2" ∷ codes "y" ∷ codes "k" ∷ codes "ren" ∷ codes "D" ∷ codes "fresh2" ∷ codes "gen" ∷ codes "x" ∷ codes "L" ∷ codes "a" ∷ codes "n2" ∷ codes "b" ∷ codes "_1" ∷ codes "Z" ∷ codes "_" ∷ [])) 1
    ≡ codes "X = _2 where a # _2, n2 # _2\n% query 1: 1 answers, 0 cut, 0 stuck\n% cut 1\n% query 2: 0 answers, 1 cut, 0 stuck\n"
unfolding swap_name name_eq name_before unify ending canonical digits
sampled_valid_00000 = refl

sampled_valid_00001 : program_report (programs (signature (codes "id" ∷ codes "nm" ∷ []) (codes "exp" ∷ []) (constructor (codes "var") ((types.names 0) ∷ []) 0 ∷ constructor (codes "con") ((types.names 1) ∷ []) 0 ∷ constructor (codes "app") ((types.base 0) ∷ (types.base 0) ∷ []) 0 ∷ constructor (codes "lam") ((types.abs 0 (types.base 0)) ∷ []) 0 ∷ constructor (codes "mu") ((types.abs 1 (types.base 0)) ∷ []) 0 ∷ []) (((types.base 0) ∷ (types.names 0) ∷ (types.base 0) ∷ (types.base 0) ∷ []) ∷ ((types.base 0) ∷ (types.names 1) ∷ (types.names 1) ∷ (types.base 0) ∷ []) ∷ ((types.names 0) ∷ (types.names 1) ∷ (types.base 0) ∷ []) ∷ ((types.base 0) ∷ (types.list (types.pair (types.names 0) (types.names 1))) ∷ []) ∷ [])) ((clause 0 ((app 2 (v 0)) ∷ (v 0) ∷ (v 1) ∷ (v 1) ∷ []) goals.succeed (variable (types.names 0) (codes "X") ∷ variable (types.base 0) (codes "E") ∷ []) ∷ clause 0 ((app 2 (v 0)) ∷ (v 1) ∷ (v 2) ∷ (app 2 (v 0)) ∷ []) (goals.fresh (v 0) (v 1)) (variable (types.names 0) (codes "Y") ∷ variable (types.names 0) (codes "X") ∷ variable (types.base 0) (codes "E") ∷ []) ∷ clause 0 ((app 3 (v 0)) ∷ (v 1) ∷ (v 2) ∷ (app 3 (v 0)) ∷ []) goals.succeed (variable (types.names 1) (codes "C") ∷ variable (types.names 0) (codes "X") ∷ variable (types.base 0) (codes "E") ∷ []) ∷ clause 0 ((app 4 (pair (v 0) (v 1))) ∷ (v 2) ∷ (v 3) ∷ (app 4 (pair (v 4) (v 5))) ∷ []) (goals.both (goals.atom 0 ((v 0) ∷ (v 2) ∷ (v 3) ∷ (v 4) ∷ [])) (goals.atom 0 ((v 1) ∷ (v 2) ∷ (v 3) ∷ (v 5) ∷ []))) (variable (types.base 0) (codes "M") ∷ variable (types.base 0) (codes "N") ∷ variable (types.names 0) (codes "X") ∷ variable (types.base 0) (codes "E") ∷ variable (types.base 0) (codes "M2") ∷ variable (types.base 0) (codes "N2") ∷ []) ∷ clause 0 ((app 5 (abs (n 0 0) (v 1))) ∷ (v 2) ∷ (v 3) ∷ (app 5 (abs (n 0 0) (v 4))) ∷ []) (goals.both (goals.fresh (name (n 0 0)) (v 2)) (goals.both (goals.fresh (name (n 0 0)) (v 3)) (goals.atom 0 ((v 1) ∷ (v 2) ∷ (v 3) ∷ (v 4) ∷ [])))) (named 0 (codes "y") ∷ variable (types.base 0) (codes "M") ∷ variable (types.names 0) (codes "X") ∷ variable (types.base 0) (codes "E") ∷ variable (types.base 0) (codes "M2") ∷ []) ∷ clause 0 ((app 6 (abs (n 1 0) (v 1))) ∷ (v 2) ∷ (v 3) ∷ (app 6 (abs (n 1 0) (v 4))) ∷ []) (goals.both (goals.fresh (name (n 1 0)) (v 3)) (goals.atom 0 ((v 1) ∷ (v 2) ∷ (v 3) ∷ (v 4) ∷ []))) (named 1 (codes "k") ∷ variable (types.base 0) (codes "M") ∷ variable (types.names 0) (codes "X") ∷ variable (types.base 0) (codes "E") ∷ variable (types.base 0) (codes "M2") ∷ []) ∷ []) ∷ (clause 1 ((app 3 (v 0)) ∷ (v 0) ∷ (v 1) ∷ (app 3 (v 1)) ∷ []) goals.succeed (variable (types.names 1) (codes "C") ∷ variable (types.names 1) (codes "D") ∷ []) ∷ clause 1 ((app 3 (v 0)) ∷ (v 1) ∷ (v 2) ∷ (app 3 (v 0)) ∷ []) (goals.fresh (v 0) (v 1)) (variable (types.names 1) (codes "E") ∷ variable (types.names 1) (codes "C") ∷ variable (types.names 1) (codes "D") ∷ []) ∷ clause 1 ((app 2 (v 0)) ∷ (v 1) ∷ (v 2) ∷ (app 2 (v 0)) ∷ []) goals.succeed (variable (types.names 0) (codes "X") ∷ variable (types.names 1) (codes "C") ∷ variable (types.names 1) (codes "D") ∷ []) ∷ clause 1 ((app 6 (abs (n 1 0) (v 1))) ∷ (v 2) ∷ (v 3) ∷ (app 6 (abs (n 1 0) (v 4))) ∷ []) (goals.both (goals.fresh (name (n 1 0)) (v 2)) (goals.both (goals.fresh (name (n 1 0)) (v 3)) (goals.atom 1 ((v 1) ∷ (v 2) ∷ (v 3) ∷ (v 4) ∷ [])))) (named 1 (codes "k") ∷ variable (types.base 0) (codes "M") ∷ variable (types.names 1) (codes "C") ∷ variable (types.names 1) (codes "D") ∷ variable (types.base 0) (codes "N") ∷ []) ∷ clause 1 ((app 5 (abs (n 0 0) (v 1))) ∷ (v 2) ∷ (v 3) ∷ (app 5 (abs (n 0 0) (v 4))) ∷ []) (goals.atom 1 ((v 1) ∷ (v 2) ∷ (v 3) ∷ (v 4) ∷ [])) (named 0 (codes "y") ∷ variable (types.base 0) (codes "M") ∷ variable (types.names 1) (codes "C") ∷ variable (types.names 1) (codes "D") ∷ variable (types.base 0) (codes "N") ∷ []) ∷ []) ∷ (clause 2 ((v 0) ∷ (v 1) ∷ (v 2) ∷ []) (goals.both (goals.fresh (v 0) (v 2)) (goals.fresh (v 1) (v 2))) (variable (types.names 0) (codes "X") ∷ variable (types.names 1) (codes "C") ∷ variable (types.base 0) (codes "M") ∷ []) ∷ clause 2 ((v 0) ∷ (v 1) ∷ (v 2) ∷ []) (goals.exists (record { num = 3 }) (goals.both (goals.equal (v 2) (app 4 (pair (v 3) (v 3)))) (goals.either (goals.fresh (v 0) (v 3)) (goals.fresh (v 1) (v 3))))) (variable (types.names 0) (codes "X") ∷ variable (types.names 1) (codes "C") ∷ variable (types.base 0) (codes "M") ∷ some_variable (types.base 0) (codes "N") ∷ []) ∷ []) ∷ (clause 3 ((v 0) ∷ (app 0 unit) ∷ []) goals.succeed (variable (types.base 0) (codes "M") ∷ []) ∷ clause 3 ((app 5 (abs (n 0 0) (v 1))) ∷ (app 1 (pair (pair (v 2) (v 3)) (v 4))) ∷ []) (goals.both (goals.fresh (name (n 0 0)) (v 4)) (goals.both (goals.fresh (name (n 0 0)) (v 2)) (goals.new (n 1 5) (goals.both (goals.equal (app 6 (abs (n 1 5) (v 1))) (app 6 (abs (n 1 5) (v 1)))) (goals.atom 3 ((v 1) ∷ (v 4) ∷ [])))))) (named 0 (codes "x") ∷ variable (types.base 0) (codes "M") ∷ variable (types.names 0) (codes "Y") ∷ variable (types.names 1) (codes "C") ∷ variable (types.list (types.pair (types.names 0) (types.names 1))) (codes "L") ∷ brought_name 1 (codes "k") ∷ []) ∷ []) ∷ []) (query (goals.both (goals.atom 1 ((app 3 (name (n 1 0))) ∷ (v 1) ∷ (v 1) ∷ (app 5 (abs (n 0 2) (v 3))) ∷ [])) (goals.atom 2 ((name (n 0 4)) ∷ (name (n 1 5)) ∷ (app 5 (susp (swap_of (n 1 0) (n 1 0) ∷ []) (record { num = 6 }))) ∷ []))) (named 1 (codes "n2") ∷ variable (types.names 1) (codes "X") ∷ named 0 (codes "b") ∷ variable (types.base 0) (codes "Y") ∷ named 0 (codes "n1") ∷ named 1 (codes "m") ∷ variable (types.abs 0 (types.base 0)) (codes "_1") ∷ []) ∷ query (goals.atom 3 ((app 6 (v 0)) ∷ (v 1) ∷ [])) (variable (types.abs 1 (types.base 0)) (codes "X") ∷ variable (types.list (types.pair (types.names 0) (types.names 1))) (codes "Y") ∷ []) ∷ []) (codes "id" ∷ codes "nm" ∷ codes "exp" ∷ codes "var" ∷ codes "con" ∷ codes "app" ∷ codes "lam" ∷ codes "mu" ∷ codes "sub" ∷ codes "X" ∷ codes "E" ∷ codes "Y" ∷ codes "C" ∷ codes "M" ∷ codes "N" ∷ codes "M2" ∷ codes "N2" ∷ codes "y" ∷ codes "k" ∷ codes "ren" ∷ codes "D" ∷ codes "fresh2" ∷ codes "gen" ∷ codes "x" ∷ codes "L" ∷ codes "n2" ∷ codes "b" ∷ codes "n1" ∷ codes "m" ∷ codes "_1" ∷ [])) 2
    ≡ codes "% query 1: 0 answers, 0 cut, 0 stuck\nX = _2, Y = []\n% query 2: 1 answers, 0 cut, 0 stuck\n"
unfolding swap_name name_eq name_before unify ending canonical digits
sampled_valid_00001 = refl

sampled_valid_00002 : program_report (programs (signature (codes "id" ∷ []) (codes "exp" ∷ codes "ty" ∷ []) (constructor (codes "var") ((types.names 0) ∷ []) 0 ∷ constructor (codes "app") ((types.base 0) ∷ (types.base 0) ∷ []) 0 ∷ constructor (codes "lam") ((types.abs 0 (types.base 0)) ∷ []) 0 ∷ constructor (codes "o") [] 1 ∷ constructor (codes "arr") ((types.base 1) ∷ (types.base 1) ∷ []) 1 ∷ []) (((types.pair (types.names 0) (types.base 1)) ∷ (types.list (types.pair (types.names 0) (types.base 1))) ∷ []) ∷ ((types.list (types.pair (types.names 0) (types.base 1))) ∷ (types.base 0) ∷ (types.base 1) ∷ []) ∷ [])) ((clause 0 ((v 0) ∷ (app 1 (pair (v 0) (v 1))) ∷ []) goals.succeed (variable (types.pair (types.names 0) (types.base 1)) (codes "P") ∷ variable (types.list (types.pair (types.names 0) (types.base 1))) (codes "L") ∷ []) ∷ clause 0 ((v 0) ∷ (app 1 (pair (v 1) (v 2))) ∷ []) (goals.atom 0 ((v 0) ∷ (v 2) ∷ [])) (variable (types.pair (types.names 0) (types.base 1)) (codes "P") ∷ variable (types.pair (types.names 0) (types.base 1)) (codes "Q") ∷ variable (types.list (types.pair (types.names 0) (types.base 1))) (codes "L") ∷ []) ∷ []) ∷ (clause 1 ((v 0) ∷ (app 2 (v 1)) ∷ (v 2) ∷ []) (goals.atom 0 ((pair (v 1) (v 2)) ∷ (v 0) ∷ [])) (variable (types.list (types.pair (types.names 0) (types.base 1))) (codes "G") ∷ variable (types.names 0) (codes "X") ∷ variable (types.base 1) (codes "T") ∷ []) ∷ clause 1 ((v 0) ∷ (app 3 (pair (v 1) (v 2))) ∷ (v 3) ∷ []) (goals.both (goals.atom 1 ((v 0) ∷ (v 1) ∷ (app 6 (pair (v 4) (v 3))) ∷ [])) (goals.atom 1 ((v 0) ∷ (v 2) ∷ (v 4) ∷ []))) (variable (types.list (types.pair (types.names 0) (types.base 1))) (codes "G") ∷ variable (types.base 0) (codes "M") ∷ variable (types.base 0) (codes "N") ∷ variable (types.base 1) (codes "U") ∷ variable (types.base 1) (codes "T") ∷ []) ∷ clause 1 ((v 0) ∷ (app 4 (abs (n 0 1) (v 2))) ∷ (app 6 (pair (v 3) (v 4))) ∷ []) (goals.both (goals.fresh (name (n 0 1)) (v 0)) (goals.atom 1 ((app 1 (pair (pair (name (n 0 1)) (v 3)) (v 0))) ∷ (v 2) ∷ (v 4) ∷ []))) (variable (types.list (types.pair (types.names 0) (types.base 1))) (codes "G") ∷ named 0 (codes "x") ∷ variable (types.base 0) (codes "M") ∷ variable (types.base 1) (codes "T") ∷ variable (types.base 1) (codes "U") ∷ []) ∷ []) ∷ []) (query (goals.both (goals.atom 1 ((app 1 (pair (pair (name (n 0 0)) (v 1)) (app 1 (pair (pair (name (n 0 2)) (v 1)) (v 3))))) ∷ (app 2 (name (n 0 4))) ∷ (app 5 unit) ∷ [])) (goals.atom 0 ((v 5) ∷ (app 1 (pair (pair (name (n 0 2)) (app 5 unit)) (v 6))) ∷ []))) (named 0 (codes "a") ∷ variable (types.base 1) (codes "X") ∷ named 0 (codes "b") ∷ variable (types.list (types.pair (types.names 0) (types.base 1))) (codes "Y") ∷ named 0 (codes "n1") ∷ variable (types.pair (types.names 0) (types.base 1)) (codes "_1") ∷ variable (types.list (types.pair (types.names 0) (types.base 1))) (codes "Z") ∷ []) ∷ query (goals.atom 0 ((pair (name (n 0 0)) (app 5 unit)) ∷ (v 1) ∷ [])) (named 0 (codes "b") ∷ variable (types.list (types.pair (types.names 0) (types.base 1))) (codes "X") ∷ []) ∷ []) (codes "id" ∷ codes "exp" ∷ codes "var" ∷ codes "app" ∷ codes "lam" ∷ codes "ty" ∷ codes "o" ∷ codes "arr" ∷ codes "mem" ∷ codes "P" ∷ codes "L" ∷ codes "Q" ∷ codes "tc" ∷ codes "G" ∷ codes "X" ∷ codes "T" ∷ codes "M" ∷ codes "N" ∷ codes "U" ∷ codes "x" ∷ codes "a" ∷ codes "b" ∷ codes "Y" ∷ codes "n1" ∷ codes "_1" ∷ codes "Z" ∷ [])) 0
    ≡ codes "% cut 1\n% query 1: 0 answers, 1 cut, 0 stuck\n% cut 1\n% query 2: 0 answers, 1 cut, 0 stuck\n"
unfolding swap_name name_eq name_before unify ending canonical digits
sampled_valid_00002 = refl

sampled_valid_00003 : program_report (programs (signature (codes "id" ∷ []) (codes "exp" ∷ []) (constructor (codes "var") ((types.names 0) ∷ []) 0 ∷ constructor (codes "app") ((types.base 0) ∷ (types.base 0) ∷ []) 0 ∷ constructor (codes "lam") ((types.abs 0 (types.base 0)) ∷ []) 0 ∷ []) (((types.names 0) ∷ (types.base 0) ∷ []) ∷ ((types.base 0) ∷ []) ∷ ((types.base 0) ∷ []) ∷ ((types.abs 0 (types.base 0)) ∷ (types.names 0) ∷ (types.base 0) ∷ []) ∷ ((types.base 0) ∷ (types.base 0) ∷ []) ∷ ((types.base 0) ∷ (types.names 0) ∷ (types.names 0) ∷ []) ∷ ((types.base 0) ∷ (types.base 0) ∷ []) ∷ [])) ((clause 0 ((v 0) ∷ (app 2 (v 0)) ∷ []) goals.succeed (variable (types.names 0) (codes "X") ∷ []) ∷ clause 0 ((v 0) ∷ (app 3 (pair (v 1) (v 2))) ∷ []) (goals.either (goals.atom 0 ((v 0) ∷ (v 1) ∷ [])) (goals.atom 0 ((v 0) ∷ (v 2) ∷ []))) (variable (types.names 0) (codes "X") ∷ variable (types.base 0) (codes "M") ∷ variable (types.base 0) (codes "N") ∷ []) ∷ clause 0 ((v 0) ∷ (app 4 (abs (n 0 1) (v 2))) ∷ []) (goals.both (goals.fresh (name (n 0 1)) (v 0)) (goals.atom 0 ((v 0) ∷ (v 2) ∷ []))) (variable (types.names 0) (codes "X") ∷ named 0 (codes "y") ∷ variable (types.base 0) (codes "M") ∷ []) ∷ []) ∷ (clause 1 ((app 4 (abs (n 0 0) (app 2 (name (n 0 0))))) ∷ []) goals.succeed (named 0 (codes "x") ∷ []) ∷ clause 1 ((app 3 (pair (v 0) (v 1))) ∷ []) (goals.both (goals.atom 1 ((v 0) ∷ [])) (goals.atom 1 ((v 1) ∷ []))) (variable (types.base 0) (codes "M") ∷ variable (types.base 0) (codes "N") ∷ []) ∷ []) ∷ (clause 2 ((v 0) ∷ []) (goals.new (n 0 1) (goals.both (goals.equal (app 4 (abs (n 0 1) (v 0))) (app 4 (abs (n 0 1) (v 0)))) (goals.atom 1 ((v 0) ∷ [])))) (variable (types.base 0) (codes "M") ∷ brought_name 0 (codes "z") ∷ []) ∷ []) ∷ (clause 3 ((v 0) ∷ (v 1) ∷ (v 2) ∷ []) (goals.new (n 0 3) (goals.both (goals.equal (v 0) (abs (n 0 3) (v 4))) (goals.both (goals.equal (v 2) (v 4)) (goals.equal (v 1) (v 1))))) (variable (types.abs 0 (types.base 0)) (codes "F") ∷ variable (types.names 0) (codes "X") ∷ variable (types.base 0) (codes "N") ∷ brought_name 0 (codes "y") ∷ variable (types.base 0) (codes "M") ∷ []) ∷ clause 3 ((v 0) ∷ (v 1) ∷ (v 2) ∷ []) (goals.either (goals.exists (record { num = 3 }) (goals.both (goals.equal (v 3) (v 2)) (goals.fresh (v 1) (v 2)))) (goals.equal (v 0) (v 0))) (variable (types.abs 0 (types.base 0)) (codes "F") ∷ variable (types.names 0) (codes "X") ∷ variable (types.base 0) (codes "N") ∷ some_variable (types.base 0) (codes "M") ∷ []) ∷ []) ∷ (clause 4 ((v 0) ∷ (v 0) ∷ []) goals.succeed (variable (types.base 0) (codes "M") ∷ []) ∷ clause 4 ((app 4 (abs (n 0 0) (v 1))) ∷ (app 4 (abs (n 0 0) (v 2))) ∷ []) (goals.atom 4 ((v 1) ∷ (v 2) ∷ [])) (named 0 (codes "x") ∷ variable (types.base 0) (codes "M") ∷ variable (types.base 0) (codes "N") ∷ []) ∷ clause 4 ((app 3 (pair (v 0) (v 1))) ∷ (app 3 (pair (v 2) (v 3))) ∷ []) (goals.both (goals.atom 4 ((v 0) ∷ (v 2) ∷ [])) (goals.atom 4 ((v 1) ∷ (v 3) ∷ []))) (variable (types.base 0) (codes "M") ∷ variable (types.base 0) (codes "N") ∷ variable (types.base 0) (codes "P") ∷ variable (types.base 0) (codes "Q") ∷ []) ∷ []) ∷ (clause 5 ((app 2 (v 0)) ∷ (v 0) ∷ (v 1) ∷ []) (goals.fresh (v 0) (v 1)) (variable (types.names 0) (codes "X") ∷ variable (types.names 0) (codes "Y") ∷ []) ∷ clause 5 ((app 4 (abs (n 0 0) (v 1))) ∷ (v 2) ∷ (v 3) ∷ []) (goals.both (goals.fresh (name (n 0 0)) (v 2)) (goals.both (goals.fresh (name (n 0 0)) (v 3)) (goals.either (goals.atom 5 ((v 1) ∷ (v 2) ∷ (v 3) ∷ [])) (goals.atom 5 ((v 1) ∷ (v 3) ∷ (v 2) ∷ []))))) (named 0 (codes "x") ∷ variable (types.base 0) (codes "M") ∷ variable (types.names 0) (codes "X") ∷ variable (types.names 0) (codes "Y") ∷ []) ∷ []) ∷ (clause 6 ((app 4 (abs (n 0 0) (app 4 (abs (n 0 1) (v 2))))) ∷ (v 3) ∷ []) (goals.both (goals.fresh (name (n 0 0)) (v 3)) (goals.both (goals.fresh (name (n 0 1)) (v 3)) (goals.equal (v 2) (v 3)))) (named 0 (codes "x") ∷ named 0 (codes "y") ∷ variable (types.base 0) (codes "M") ∷ variable (types.base 0) (codes "N") ∷ []) ∷ clause 6 ((app 4 (abs (n 0 0) (app 4 (abs (n 0 1) (v 2))))) ∷ (app 4 (abs (n 0 1) (app 4 (abs (n 0 0) (v 2))))) ∷ []) goals.succeed (named 0 (codes "x") ∷ named 0 (codes "y") ∷ variable (types.base 0) (codes "M") ∷ []) ∷ clause 6 ((v 0) ∷ (app 4 (abs (n 0 1) (susp (swap_of (n 0 1) (n 0 2) ∷ []) (record { num = 0 })))) ∷ []) (goals.both (goals.fresh (name (n 0 1)) (v 0)) (goals.both (goals.fresh (name (n 0 2)) (v 0)) (goals.both (goals.fresh (name (n 0 2)) (susp (swap_of (n 0 1) (n 0 2) ∷ []) (record { num = 0 }))) (goals.exists (record { num = 3 }) (goals.both (goals.equal (v 3) (app 3 (pair (v 0) (susp (swap_of (n 0 1) (n 0 2) ∷ []) (record { num = 0 }))))) (goals.fresh (name (n 0 1)) (v 3))))))) (variable (types.base 0) (codes "M") ∷ named 0 (codes "x") ∷ named 0 (codes "y") ∷ some_variable (types.base 0) (codes "N") ∷ []) ∷ []) ∷ []) (query (goals.equal (pair (v 0) (app 2 (name (n 0 1)))) (pair (app 4 (abs (n 0 2) (v 0))) (v 3))) (variable (types.base 0) (codes "X") ∷ named 0 (codes "b") ∷ named 0 (codes "a") ∷ variable (types.base 0) (codes "Y") ∷ []) ∷ query (goals.new (n 0 0) (goals.atom 5 ((app 2 (name (n 0 1))) ∷ (v 2) ∷ (name (n 0 3)) ∷ []))) (brought_name 0 (codes "a") ∷ named 0 (codes "n1") ∷ variable (types.names 0) (codes "X") ∷ named 0 (codes "b") ∷ []) ∷ []) (codes "id" ∷ codes "exp" ∷ codes "var" ∷ codes "app" ∷ codes "lam" ∷ codes "free" ∷ codes "X" ∷ codes "M" ∷ codes "N" ∷ codes "y" ∷ codes "notin" ∷ codes "x" ∷ codes "closed" ∷ codes "z" ∷ codes "inst" ∷ codes "F" ∷ codes "eqv" ∷ codes "P" ∷ codes "Q" ∷ codes "var2" ∷ codes "Y" ∷ codes "two" ∷ codes "b" ∷ codes "a" ∷ codes "n1" ∷ [])) 0
    ≡ codes "% query 1: 0 answers, 0 cut, 0 stuck\n% cut 1\n% query 2: 0 answers, 1 cut, 0 stuck\n"
unfolding swap_name name_eq name_before unify ending canonical digits
sampled_valid_00003 = refl

sampled_valid_00004 : program_report (programs (signature (codes "id" ∷ codes "nm" ∷ []) (codes "exp" ∷ codes "ty" ∷ []) (constructor (codes "var") ((types.names 0) ∷ []) 0 ∷ constructor (codes "lam") ((types.abs 0 (types.base 0)) ∷ []) 0 ∷ constructor (codes "con") ((types.names 1) ∷ []) 0 ∷ constructor (codes "mu") ((types.abs 1 (types.base 0)) ∷ []) 0 ∷ constructor (codes "o") [] 1 ∷ []) (((types.base 1) ∷ []) ∷ [])) ((clause 0 ((v 0) ∷ []) (goals.atom 0 ((v 0) ∷ [])) (variable (types.base 1) (codes "X") ∷ []) ∷ clause 0 ((app 6 unit) ∷ []) (goals.atom 0 ((v 0) ∷ [])) (variable (types.base 1) (codes "X") ∷ []) ∷ []) ∷ []) (query (goals.both (goals.atom 0 ((v 0) ∷ [])) (goals.equal (app 2 (name (n 0 1))) (app 2 (name (n 0 2))))) (variable (types.base 1) (codes "X") ∷ named 0 (codes "b") ∷ named 0 (codes "a") ∷ []) ∷ query (goals.both (goals.atom 0 ((app 6 unit) ∷ [])) (goals.atom 0 ((app 6 unit) ∷ []))) [] ∷ []) (codes "id" ∷ codes "nm" ∷ codes "exp" ∷ codes "ty" ∷ codes "var" ∷ codes "lam" ∷ codes "con" ∷ codes "mu" ∷ codes "o" ∷ codes "p0" ∷ codes "X" ∷ codes "b" ∷ codes "a" ∷ [])) 4
    ≡ codes "% cut 16\n% query 1: 0 answers, 16 cut, 0 stuck\n% cut 16\n% query 2: 0 answers, 16 cut, 0 stuck\n"
unfolding swap_name name_eq name_before unify ending canonical digits
sampled_valid_00004 = refl

sampled_valid_00005 : program_report (programs (signature (codes "id" ∷ []) (codes "exp" ∷ codes "ty" ∷ []) (constructor (codes "f") [] 0 ∷ constructor (codes "g") ((types.base 0) ∷ (types.list (types.base 1)) ∷ (types.pair (types.list (types.base 1)) types.unit) ∷ []) 0 ∷ constructor (codes "h") [] 1 ∷ constructor (codes "s") ((types.base 1) ∷ []) 1 ∷ []) (((types.names 0) ∷ []) ∷ [])) ((clause 0 ((v 0) ∷ []) goals.succeed (variable (types.names 0) (codes "X") ∷ []) ∷ clause 0 ((v 0) ∷ []) (goals.both (goals.atom 0 ((v 1) ∷ [])) (goals.atom 0 ((v 1) ∷ []))) (variable (types.names 0) (codes "X") ∷ variable (types.names 0) (codes "Y") ∷ []) ∷ clause 0 ((v 0) ∷ []) (goals.equal unit unit) (variable (types.names 0) (codes "X") ∷ []) ∷ clause 0 ((v 0) ∷ []) (goals.atom 0 ((v 0) ∷ [])) (variable (types.names 0) (codes "X") ∷ []) ∷ clause 0 ((v 0) ∷ []) goals.succeed (variable (types.names 0) (codes "X") ∷ []) ∷ clause 0 ((v 0) ∷ []) goals.succeed (variable (types.names 0) (codes "X") ∷ []) ∷ clause 0 ((v 0) ∷ []) goals.succeed (variable (types.names 0) (codes "X") ∷ []) ∷ []) ∷ []) (query (goals.both (goals.atom 0 ((name (n 0 0)) ∷ [])) (goals.atom 0 ((name (n 0 1)) ∷ []))) (named 0 (codes "a") ∷ named 0 (codes "n1") ∷ []) ∷ query (goals.both (goals.atom 0 ((name (n 0 0)) ∷ [])) (goals.equal (app 1 (pair (v 1) (app 1 (pair (app 2 unit) (v 2))))) (v 3))) (named 0 (codes "a") ∷ variable (types.base 0) (codes "X") ∷ variable (types.list (types.base 0)) (codes "Y") ∷ variable (types.list (types.base 0)) (codes "_1") ∷ []) ∷ []) (codes "id" ∷ codes "exp" ∷ codes "ty" ∷ codes "f" ∷ codes "g" ∷ codes "h" ∷ codes "s" ∷ codes "p0" ∷ codes "X" ∷ codes "Y" ∷ codes "a" ∷ codes "n1" ∷ codes "_1" ∷ [])) 0
    ≡ codes "% cut 1\n% query 1: 0 answers, 1 cut, 0 stuck\n% cut 1\n% query 2: 0 answers, 1 cut, 0 stuck\n"
unfolding swap_name name_eq name_before unify ending canonical digits
sampled_valid_00005 = refl

sampled_valid_00006 : program_report (programs (signature (codes "id" ∷ codes "nm" ∷ []) (codes "exp" ∷ codes "ty" ∷ []) (constructor (codes "var") ((types.names 0) ∷ []) 0 ∷ constructor (codes "app") ((types.base 0) ∷ (types.base 0) ∷ []) 0 ∷ constructor (codes "lam") ((types.abs 0 (types.base 0)) ∷ []) 0 ∷ constructor (codes "con") ((types.names 1) ∷ []) 0 ∷ constructor (codes "mu") ((types.abs 1 (types.base 0)) ∷ []) 0 ∷ constructor (codes "o") [] 1 ∷ constructor (codes "arr") ((types.base 1) ∷ (types.base 1) ∷ []) 1 ∷ []) (((types.names 0) ∷ (types.names 1) ∷ []) ∷ [])) ([] ∷ []) (query (goals.fresh (name (n 1 0)) (app 5 (name (n 1 0)))) (named 1 (codes "m") ∷ []) ∷ query (goals.both (goals.equal (app 3 (pair (app 2 (name (n 0 0))) (app 2 (name (n 0 1))))) (v 2)) (goals.atom 0 ((name (n 0 1)) ∷ (name (n 1 3)) ∷ []))) (named 0 (codes "b") ∷ named 0 (codes "n1") ∷ variable (types.base 0) (codes "X") ∷ named 1 (codes "k") ∷ []) ∷ []) (codes "id" ∷ codes "nm" ∷ codes "exp" ∷ codes "ty" ∷ codes "var" ∷ codes "app" ∷ codes "lam" ∷ codes "con" ∷ codes "mu" ∷ codes "o" ∷ codes "arr" ∷ codes "p0" ∷ codes "m" ∷ codes "b" ∷ codes "n1" ∷ codes "X" ∷ codes "k" ∷ [])) 2
    ≡ codes "% query 1: 0 answers, 0 cut, 0 stuck\n% query 2: 0 answers, 0 cut, 0 stuck\n"
unfolding swap_name name_eq name_before unify ending canonical digits
sampled_valid_00006 = refl

sampled_valid_00007 : program_report (programs (signature (codes "id" ∷ codes "nm" ∷ codes "tv" ∷ []) (codes "exp" ∷ codes "ty" ∷ []) (constructor (codes "var") ((types.names 0) ∷ []) 0 ∷ constructor (codes "app") ((types.base 0) ∷ (types.base 0) ∷ []) 0 ∷ constructor (codes "lam") ((types.abs 0 (types.base 0)) ∷ []) 0 ∷ constructor (codes "o") [] 1 ∷ constructor (codes "arr") ((types.base 1) ∷ (types.base 1) ∷ []) 1 ∷ []) (((types.pair (types.base 0) (types.list (types.base 1))) ∷ (types.abs 1 (types.base 0)) ∷ []) ∷ ((types.names 1) ∷ []) ∷ [])) ((clause 0 ((v 0) ∷ (abs (n 1 1) (app 4 (v 2))) ∷ []) goals.succeed (variable (types.pair (types.base 0) (types.list (types.base 1))) (codes "X") ∷ named 1 (codes "n2") ∷ variable (types.abs 0 (types.base 0)) (codes "Y") ∷ []) ∷ []) ∷ (clause 1 ((v 0) ∷ []) goals.succeed (variable (types.names 1) (codes "X") ∷ []) ∷ []) ∷ []) (query (goals.both (goals.atom 1 ((name (n 1 0)) ∷ [])) (goals.equal (app 5 unit) (app 5 unit))) (named 1 (codes "k") ∷ []) ∷ query (goals.atom 0 ((v 0) ∷ (abs (n 1 2) (app 2 (name (n 0 3)))) ∷ [])) (variable (types.pair (types.base 0) (types.list (types.base 1))) (codes "X") ∷ named 1 (codes "m") ∷ named 1 (codes "n2") ∷ named 0 (codes "a") ∷ []) ∷ []) (codes "id" ∷ codes "nm" ∷ codes "tv" ∷ codes "exp" ∷ codes "ty" ∷ codes "var" ∷ codes "app" ∷ codes "lam" ∷ codes "o" ∷ codes "arr" ∷ codes "p0" ∷ codes "p1" ∷ codes "X" ∷ codes "n2" ∷ codes "Y" ∷ codes "k" ∷ codes "m" ∷ codes "a" ∷ [])) 0
    ≡ codes "% cut 1\n% query 1: 0 answers, 1 cut, 0 stuck\n% cut 1\n% query 2: 0 answers, 1 cut, 0 stuck\n"
unfolding swap_name name_eq name_before unify ending canonical digits
sampled_valid_00007 = refl

sampled_valid_00008 : program_report (programs (signature (codes "id" ∷ codes "nm" ∷ []) (codes "exp" ∷ codes "ty" ∷ []) (constructor (codes "g") [] 0 ∷ constructor (codes "f") ((types.base 1) ∷ []) 0 ∷ constructor (codes "h") ((types.base 1) ∷ (types.base 0) ∷ (types.list (types.abs 0 (types.base 0))) ∷ []) 0 ∷ constructor (codes "s") [] 1 ∷ constructor (codes "z") ((types.names 0) ∷ []) 1 ∷ constructor (codes "q") ((types.base 0) ∷ (types.abs 0 (types.names 1)) ∷ []) 1 ∷ []) (((types.pair (types.pair (types.base 0) (types.base 0)) (types.names 0)) ∷ (types.base 0) ∷ []) ∷ (types.unit ∷ (types.abs 0 (types.abs 1 (types.base 1))) ∷ []) ∷ ((types.base 1) ∷ (types.names 1) ∷ []) ∷ [])) ((clause 0 ((pair (pair (v 0) (v 0)) (v 1)) ∷ (v 2) ∷ []) goals.succeed (variable (types.base 0) (codes "X") ∷ variable (types.names 0) (codes "Y") ∷ variable (types.base 0) (codes "_1") ∷ []) ∷ []) ∷ (clause 1 ((v 0) ∷ (v 1) ∷ []) (goals.both (goals.atom 0 ((pair (pair (v 2) (app 2 unit)) (v 3)) ∷ (v 4) ∷ [])) (goals.atom 0 ((pair (v 5) (v 6)) ∷ (v 4) ∷ []))) (variable types.unit (codes "X") ∷ variable (types.abs 0 (types.abs 1 (types.base 1))) (codes "Y") ∷ variable (types.base 0) (codes "_1") ∷ variable (types.names 0) (codes "_") ∷ variable (types.base 0) (codes "Z") ∷ variable (types.pair (types.base 0) (types.base 0)) (codes "U") ∷ variable (types.names 0) (codes "_") ∷ []) ∷ clause 1 (unit ∷ (v 0) ∷ []) (goals.atom 0 ((pair (v 1) (v 2)) ∷ (app 4 (pair (v 3) (pair (v 4) (v 5)))) ∷ [])) (variable (types.abs 0 (types.abs 1 (types.base 1))) (codes "X") ∷ variable (types.pair (types.base 0) (types.base 0)) (codes "Y") ∷ variable (types.names 0) (codes "_1") ∷ variable (types.base 1) (codes "Z") ∷ variable (types.base 0) (codes "U") ∷ variable (types.list (types.abs 0 (types.base 0))) (codes "_") ∷ []) ∷ []) ∷ (clause 2 ((app 6 (v 0)) ∷ (v 1) ∷ []) (goals.both (goals.atom 0 ((pair (v 2) (v 3)) ∷ (app 3 (v 4)) ∷ [])) (goals.atom 0 ((pair (pair (v 5) (v 6)) (v 3)) ∷ (app 4 (pair (v 4) (pair (app 2 unit) (v 7)))) ∷ []))) (variable (types.names 0) (codes "X") ∷ variable (types.names 1) (codes "Y") ∷ variable (types.pair (types.base 0) (types.base 0)) (codes "_1") ∷ variable (types.names 0) (codes "Z") ∷ variable (types.base 1) (codes "U") ∷ variable (types.base 0) (codes "_") ∷ variable (types.base 0) (codes "_") ∷ variable (types.list (types.abs 0 (types.base 0))) (codes "_") ∷ []) ∷ clause 2 ((app 6 (v 0)) ∷ (v 1) ∷ []) goals.succeed (variable (types.names 0) (codes "X") ∷ variable (types.names 1) (codes "Y") ∷ []) ∷ clause 2 ((app 5 unit) ∷ (v 0) ∷ []) goals.succeed (variable (types.names 1) (codes "X") ∷ []) ∷ []) ∷ []) (query (goals.exists (record { num = 0 }) (goals.both (goals.atom 2 ((app 7 (pair (v 0) (abs (n 0 1) (v 2)))) ∷ (name (n 1 3)) ∷ [])) (goals.equal (v 4) (name (n 0 1))))) (some_variable (types.base 0) (codes "Q") ∷ named 0 (codes "a") ∷ variable (types.names 1) (codes "Y") ∷ named 1 (codes "k") ∷ variable (types.names 0) (codes "_1") ∷ []) ∷ query (goals.both (goals.atom 0 ((pair (pair (v 0) (v 1)) (v 2)) ∷ (v 0) ∷ [])) (goals.atom 0 ((pair (pair (v 3) (v 1)) (name (n 0 4))) ∷ (app 3 (app 7 (pair (v 1) (v 5)))) ∷ []))) (variable (types.base 0) (codes "X") ∷ variable (types.base 0) (codes "Y") ∷ variable (types.names 0) (codes "_1") ∷ variable (types.base 0) (codes "Z") ∷ named 0 (codes "a") ∷ variable (types.abs 0 (types.names 1)) (codes "_") ∷ []) ∷ []) (codes "id" ∷ codes "nm" ∷ codes "exp" ∷ codes "ty" ∷ codes "g" ∷ codes "f" ∷ codes "h" ∷ codes "s" ∷ codes "z" ∷ codes "q" ∷ codes "p0" ∷ codes "p1" ∷ codes "p2" ∷ codes "X" ∷ codes "Y" ∷ codes "_1" ∷ codes "Z" ∷ codes "U" ∷ codes "_" ∷ codes "Q" ∷ codes "a" ∷ codes "k" ∷ [])) 3
    ≡ codes "% query 1: 0 answers, 0 cut, 0 stuck\nX = _2, Y = _2, _1 = _3, Z = _2\n% query 2: 1 answers, 0 cut, 0 stuck\n"
unfolding swap_name name_eq name_before unify ending canonical digits
sampled_valid_00008 = refl

sampled_valid_00009 : program_report (programs (signature (codes "id" ∷ []) (codes "nat" ∷ []) (constructor (codes "z") [] 0 ∷ constructor (codes "s") ((types.base 0) ∷ []) 0 ∷ []) (((types.list (types.names 0)) ∷ (types.list (types.names 0)) ∷ (types.list (types.names 0)) ∷ []) ∷ ((types.names 0) ∷ (types.list (types.names 0)) ∷ []) ∷ ((types.list (types.names 0)) ∷ []) ∷ ((types.list (types.names 0)) ∷ (types.base 0) ∷ []) ∷ ((types.abs 0 (types.names 0)) ∷ (types.names 0) ∷ []) ∷ ((types.abs 0 (types.list (types.names 0))) ∷ (types.list (types.names 0)) ∷ []) ∷ [])) ((clause 0 ((app 0 unit) ∷ (v 0) ∷ (v 0) ∷ []) goals.succeed (variable (types.list (types.names 0)) (codes "L") ∷ []) ∷ clause 0 ((app 1 (pair (v 0) (v 1))) ∷ (v 2) ∷ (app 1 (pair (v 0) (v 3))) ∷ []) (goals.atom 0 ((v 1) ∷ (v 2) ∷ (v 3) ∷ [])) (variable (types.names 0) (codes "X") ∷ variable (types.list (types.names 0)) (codes "L") ∷ variable (types.list (types.names 0)) (codes "M") ∷ variable (types.list (types.names 0)) (codes "N") ∷ []) ∷ []) ∷ (clause 1 ((v 0) ∷ (app 0 unit) ∷ []) goals.succeed (variable (types.names 0) (codes "X") ∷ []) ∷ clause 1 ((v 0) ∷ (app 1 (pair (v 1) (v 2))) ∷ []) (goals.both (goals.fresh (v 0) (v 1)) (goals.atom 1 ((v 0) ∷ (v 2) ∷ []))) (variable (types.names 0) (codes "X") ∷ variable (types.names 0) (codes "Y") ∷ variable (types.list (types.names 0)) (codes "L") ∷ []) ∷ []) ∷ (clause 2 ((app 0 unit) ∷ []) goals.succeed [] ∷ clause 2 ((app 1 (pair (v 0) (v 1))) ∷ []) (goals.both (goals.atom 1 ((v 0) ∷ (v 1) ∷ [])) (goals.atom 2 ((v 1) ∷ []))) (variable (types.names 0) (codes "X") ∷ variable (types.list (types.names 0)) (codes "L") ∷ []) ∷ []) ∷ (clause 3 ((app 0 unit) ∷ (app 2 unit) ∷ []) goals.succeed [] ∷ clause 3 ((app 1 (pair (v 0) (v 1))) ∷ (app 3 (v 2)) ∷ []) (goals.atom 3 ((v 1) ∷ (v 2) ∷ [])) (variable (types.names 0) (codes "X") ∷ variable (types.list (types.names 0)) (codes "L") ∷ variable (types.base 0) (codes "N") ∷ []) ∷ []) ∷ (clause 4 ((abs (n 0 0) (v 1)) ∷ (v 1) ∷ []) (goals.fresh (name (n 0 0)) (v 1)) (named 0 (codes "x") ∷ variable (types.names 0) (codes "Y") ∷ []) ∷ []) ∷ (clause 5 ((abs (n 0 0) (app 1 (pair (name (n 0 0)) (v 1)))) ∷ (v 1) ∷ []) (goals.fresh (name (n 0 0)) (v 1)) (named 0 (codes "x") ∷ variable (types.list (types.names 0)) (codes "L") ∷ []) ∷ clause 5 ((abs (n 0 0) (v 1)) ∷ (v 1) ∷ []) (goals.fresh (name (n 0 0)) (v 1)) (named 0 (codes "x") ∷ variable (types.list (types.names 0)) (codes "L") ∷ []) ∷ []) ∷ []) (query (goals.atom 2 ((app 1 (pair (name (n 0 0)) (app 1 (pair (name (n 0 0)) (app 0 unit))))) ∷ [])) (named 0 (codes "a") ∷ []) ∷ query (goals.both (goals.atom 1 ((v 0) ∷ (app 0 unit) ∷ [])) (goals.atom 5 ((abs (n 0 1) (app 1 (pair (name (n 0 2)) (v 3)))) ∷ (app 0 unit) ∷ []))) (variable (types.names 0) (codes "X") ∷ named 0 (codes "n1") ∷ named 0 (codes "b") ∷ variable (types.list (types.names 0)) (codes "Y") ∷ []) ∷ []) (codes "id" ∷ codes "nat" ∷ codes "z" ∷ codes "s" ∷ codes "app" ∷ codes "L" ∷ codes "X" ∷ codes "M" ∷ codes "N" ∷ codes "dist" ∷ codes "Y" ∷ codes "all" ∷ codes "len" ∷ codes "pick" ∷ codes "x" ∷ codes "abs" ∷ codes "a" ∷ codes "n1" ∷ codes "b" ∷ [])) 3
    ≡ codes "% query 1: 0 answers, 0 cut, 0 stuck\n% query 2: 0 answers, 0 cut, 0 stuck\n"
unfolding swap_name name_eq name_before unify ending canonical digits
sampled_valid_00009 = refl

sampled_valid_00010 : program_report (programs (signature (codes "id" ∷ []) (codes "exp" ∷ []) (constructor (codes "var") ((types.names 0) ∷ []) 0 ∷ constructor (codes "app") ((types.base 0) ∷ (types.base 0) ∷ []) 0 ∷ constructor (codes "lam") ((types.abs 0 (types.base 0)) ∷ []) 0 ∷ []) (((types.names 0) ∷ []) ∷ ((types.base 0) ∷ (types.names 0) ∷ (types.abs 0 (types.base 0)) ∷ []) ∷ [])) ((clause 0 ((v 0) ∷ []) (goals.both (goals.fresh (name (n 0 1)) (v 0)) (goals.both (goals.atom 1 ((app 4 (abs (n 0 1) (v 2))) ∷ (v 0) ∷ (v 3) ∷ [])) (goals.equal (app 1 (pair (v 2) (v 4))) (v 4)))) (variable (types.names 0) (codes "X") ∷ named 0 (codes "b") ∷ variable (types.base 0) (codes "Y") ∷ variable (types.abs 0 (types.base 0)) (codes "_1") ∷ variable (types.list (types.base 0)) (codes "Z") ∷ []) ∷ []) ∷ [] ∷ []) (query (goals.both (goals.atom 0 ((name (n 0 0)) ∷ [])) (goals.fresh (v 1) (pair (app 4 (v 2)) (app 4 (v 3))))) (named 0 (codes "n1") ∷ variable (types.names 0) (codes "X") ∷ variable (types.abs 0 (types.base 0)) (codes "Y") ∷ variable (types.abs 0 (types.base 0)) (codes "_1") ∷ []) ∷ query (goals.atom 1 ((v 0) ∷ (v 1) ∷ (abs (n 0 2) (v 0)) ∷ [])) (variable (types.base 0) (codes "X") ∷ variable (types.names 0) (codes "Y") ∷ named 0 (codes "b") ∷ []) ∷ []) (codes "id" ∷ codes "exp" ∷ codes "var" ∷ codes "app" ∷ codes "lam" ∷ codes "p0" ∷ codes "p1" ∷ codes "X" ∷ codes "b" ∷ codes "Y" ∷ codes "_1" ∷ codes "Z" ∷ codes "n1" ∷ [])) 4
    ≡ codes "% query 1: 0 answers, 0 cut, 0 stuck\n% query 2: 0 answers, 0 cut, 0 stuck\n"
unfolding swap_name name_eq name_before unify ending canonical digits
sampled_valid_00010 = refl

sampled_valid_00012 : program_report (programs (signature (codes "id" ∷ []) (codes "exp" ∷ codes "ty" ∷ []) (constructor (codes "var") ((types.names 0) ∷ []) 0 ∷ constructor (codes "app") ((types.base 0) ∷ (types.base 0) ∷ []) 0 ∷ constructor (codes "lam") ((types.abs 0 (types.base 0)) ∷ []) 0 ∷ constructor (codes "o") [] 1 ∷ constructor (codes "arr") ((types.base 1) ∷ (types.base 1) ∷ []) 1 ∷ []) (((types.pair (types.names 0) (types.base 1)) ∷ (types.list (types.pair (types.names 0) (types.base 1))) ∷ []) ∷ ((types.list (types.pair (types.names 0) (types.base 1))) ∷ (types.base 0) ∷ (types.base 1) ∷ []) ∷ [])) ((clause 0 ((v 0) ∷ (app 1 (pair (v 0) (v 1))) ∷ []) goals.succeed (variable (types.pair (types.names 0) (types.base 1)) (codes "P") ∷ variable (types.list (types.pair (types.names 0) (types.base 1))) (codes "L") ∷ []) ∷ clause 0 ((v 0) ∷ (app 1 (pair (v 1) (v 2))) ∷ []) (goals.atom 0 ((v 0) ∷ (v 2) ∷ [])) (variable (types.pair (types.names 0) (types.base 1)) (codes "P") ∷ variable (types.pair (types.names 0) (types.base 1)) (codes "Q") ∷ variable (types.list (types.pair (types.names 0) (types.base 1))) (codes "L") ∷ []) ∷ []) ∷ (clause 1 ((v 0) ∷ (app 2 (v 1)) ∷ (v 2) ∷ []) (goals.atom 0 ((pair (v 1) (v 2)) ∷ (v 0) ∷ [])) (variable (types.list (types.pair (types.names 0) (types.base 1))) (codes "G") ∷ variable (types.names 0) (codes "X") ∷ variable (types.base 1) (codes "T") ∷ []) ∷ clause 1 ((v 0) ∷ (app 3 (pair (v 1) (v 2))) ∷ (v 3) ∷ []) (goals.both (goals.atom 1 ((v 0) ∷ (v 1) ∷ (app 6 (pair (v 4) (v 3))) ∷ [])) (goals.atom 1 ((v 0) ∷ (v 2) ∷ (v 4) ∷ []))) (variable (types.list (types.pair (types.names 0) (types.base 1))) (codes "G") ∷ variable (types.base 0) (codes "M") ∷ variable (types.base 0) (codes "N") ∷ variable (types.base 1) (codes "U") ∷ variable (types.base 1) (codes "T") ∷ []) ∷ clause 1 ((v 0) ∷ (app 4 (abs (n 0 1) (v 2))) ∷ (app 6 (pair (v 3) (v 4))) ∷ []) (goals.both (goals.fresh (name (n 0 1)) (v 0)) (goals.atom 1 ((app 1 (pair (pair (name (n 0 1)) (v 3)) (v 0))) ∷ (v 2) ∷ (v 4) ∷ []))) (variable (types.list (types.pair (types.names 0) (types.base 1))) (codes "G") ∷ named 0 (codes "x") ∷ variable (types.base 0) (codes "M") ∷ variable (types.base 1) (codes "T") ∷ variable (types.base 1) (codes "U") ∷ []) ∷ []) ∷ []) (query (goals.both (goals.atom 1 ((app 0 unit) ∷ (app 4 (v 0)) ∷ (app 6 (pair (app 6 (pair (v 1) (v 2))) (app 6 (pair (v 3) (app 5 unit))))) ∷ [])) (goals.fresh (v 4) (app 3 (pair (app 4 (abs (n 0 5) (app 2 (name (n 0 6))))) (app 2 (name (n 0 5))))))) (variable (types.abs 0 (types.base 0)) (codes "X") ∷ variable (types.base 1) (codes "Y") ∷ variable (types.base 1) (codes "_1") ∷ variable (types.base 1) (codes "Z") ∷ variable (types.names 0) (codes "_") ∷ named 0 (codes "b") ∷ named 0 (codes "a") ∷ []) ∷ query (goals.atom 0 ((pair (v 0) (v 1)) ∷ (app 1 (pair (pair (name (n 0 2)) (v 1)) (v 3))) ∷ [])) (variable (types.names 0) (codes "X") ∷ variable (types.base 1) (codes "Y") ∷ named 0 (codes "n1") ∷ variable (types.list (types.pair (types.names 0) (types.base 1))) (codes "_1") ∷ []) ∷ []) (codes "id" ∷ codes "exp" ∷ codes "var" ∷ codes "app" ∷ codes "lam" ∷ codes "ty" ∷ codes "o" ∷ codes "arr" ∷ codes "mem" ∷ codes "P" ∷ codes "L" ∷ codes "Q" ∷ codes "tc" ∷ codes "G" ∷ codes "X" ∷ codes "T" ∷ codes "M" ∷ codes "N" ∷ codes "U" ∷ codes "x" ∷ codes "Y" ∷ codes "_1" ∷ codes "Z" ∷ codes "_" ∷ codes "b" ∷ codes "a" ∷ codes "n1" ∷ [])) 1
    ≡ codes "% cut 1\n% query 1: 0 answers, 1 cut, 0 stuck\nX = n1, Y = _2, _1 = _3\n% cut 1\n% query 2: 1 answers, 1 cut, 0 stuck\n"
unfolding swap_name name_eq name_before unify ending canonical digits
sampled_valid_00012 = refl

sampled_valid_00013 : program_report (programs (signature (codes "id" ∷ codes "nm" ∷ []) (codes "exp" ∷ []) (constructor (codes "s") [] 0 ∷ []) ((types.unit ∷ (types.names 0) ∷ []) ∷ [] ∷ [])) ((clause 0 (unit ∷ (v 0) ∷ []) (goals.atom 1 []) (variable (types.names 0) (codes "X") ∷ []) ∷ []) ∷ (clause 1 [] goals.succeed [] ∷ clause 1 [] (goals.both (goals.atom 0 ((v 0) ∷ (v 1) ∷ [])) (goals.atom 0 (unit ∷ (v 1) ∷ []))) (variable types.unit (codes "X") ∷ variable (types.names 0) (codes "Y") ∷ []) ∷ []) ∷ []) (query (goals.both (goals.atom 1 []) (goals.atom 0 (unit ∷ (name (n 0 0)) ∷ []))) (named 0 (codes "n1") ∷ []) ∷ query (goals.atom 0 ((v 0) ∷ (v 1) ∷ [])) (variable types.unit (codes "X") ∷ variable (types.names 0) (codes "Y") ∷ []) ∷ []) (codes "id" ∷ codes "nm" ∷ codes "exp" ∷ codes "s" ∷ codes "p0" ∷ codes "p1" ∷ codes "X" ∷ codes "Y" ∷ codes "n1" ∷ [])) 4
    ≡ codes "yes\nyes\n% cut 2\nyes\nyes\n% cut 4\n% query 1: 4 answers, 6 cut, 0 stuck\nX = (), Y = _1\nX = (), Y = _1\n% cut 2\n% query 2: 2 answers, 2 cut, 0 stuck\n"
unfolding swap_name name_eq name_before unify ending canonical digits
sampled_valid_00013 = refl

sampled_valid_00014 : program_report (programs (signature (codes "id" ∷ []) (codes "exp" ∷ []) (constructor (codes "var") ((types.names 0) ∷ []) 0 ∷ constructor (codes "app") ((types.base 0) ∷ (types.base 0) ∷ []) 0 ∷ constructor (codes "lam") ((types.abs 0 (types.base 0)) ∷ []) 0 ∷ []) (((types.names 0) ∷ (types.base 0) ∷ []) ∷ ((types.base 0) ∷ []) ∷ ((types.base 0) ∷ []) ∷ ((types.abs 0 (types.base 0)) ∷ (types.names 0) ∷ (types.base 0) ∷ []) ∷ ((types.base 0) ∷ (types.base 0) ∷ []) ∷ ((types.base 0) ∷ (types.names 0) ∷ (types.names 0) ∷ []) ∷ ((types.base 0) ∷ (types.base 0) ∷ []) ∷ [])) ((clause 0 ((v 0) ∷ (app 2 (v 0)) ∷ []) goals.succeed (variable (types.names 0) (codes "X") ∷ []) ∷ clause 0 ((v 0) ∷ (app 3 (pair (v 1) (v 2))) ∷ []) (goals.either (goals.atom 0 ((v 0) ∷ (v 1) ∷ [])) (goals.atom 0 ((v 0) ∷ (v 2) ∷ []))) (variable (types.names 0) (codes "X") ∷ variable (types.base 0) (codes "M") ∷ variable (types.base 0) (codes "N") ∷ []) ∷ clause 0 ((v 0) ∷ (app 4 (abs (n 0 1) (v 2))) ∷ []) (goals.both (goals.fresh (name (n 0 1)) (v 0)) (goals.atom 0 ((v 0) ∷ (v 2) ∷ []))) (variable (types.names 0) (codes "X") ∷ named 0 (codes "y") ∷ variable (types.base 0) (codes "M") ∷ []) ∷ []) ∷ (clause 1 ((app 4 (abs (n 0 0) (app 2 (name (n 0 0))))) ∷ []) goals.succeed (named 0 (codes "x") ∷ []) ∷ clause 1 ((app 3 (pair (v 0) (v 1))) ∷ []) (goals.both (goals.atom 1 ((v 0) ∷ [])) (goals.atom 1 ((v 1) ∷ []))) (variable (types.base 0) (codes "M") ∷ variable (types.base 0) (codes "N") ∷ []) ∷ []) ∷ (clause 2 ((v 0) ∷ []) (goals.new (n 0 1) (goals.both (goals.equal (app 4 (abs (n 0 1) (v 0))) (app 4 (abs (n 0 1) (v 0)))) (goals.atom 1 ((v 0) ∷ [])))) (variable (types.base 0) (codes "M") ∷ brought_name 0 (codes "z") ∷ []) ∷ []) ∷ (clause 3 ((v 0) ∷ (v 1) ∷ (v 2) ∷ []) (goals.new (n 0 3) (goals.both (goals.equal (v 0) (abs (n 0 3) (v 4))) (goals.both (goals.equal (v 2) (v 4)) (goals.equal (v 1) (v 1))))) (variable (types.abs 0 (types.base 0)) (codes "F") ∷ variable (types.names 0) (codes "X") ∷ variable (types.base 0) (codes "N") ∷ brought_name 0 (codes "y") ∷ variable (types.base 0) (codes "M") ∷ []) ∷ clause 3 ((v 0) ∷ (v 1) ∷ (v 2) ∷ []) (goals.either (goals.exists (record { num = 3 }) (goals.both (goals.equal (v 3) (v 2)) (goals.fresh (v 1) (v 2)))) (goals.equal (v 0) (v 0))) (variable (types.abs 0 (types.base 0)) (codes "F") ∷ variable (types.names 0) (codes "X") ∷ variable (types.base 0) (codes "N") ∷ some_variable (types.base 0) (codes "M") ∷ []) ∷ []) ∷ (clause 4 ((v 0) ∷ (v 0) ∷ []) goals.succeed (variable (types.base 0) (codes "M") ∷ []) ∷ clause 4 ((app 4 (abs (n 0 0) (v 1))) ∷ (app 4 (abs (n 0 0) (v 2))) ∷ []) (goals.atom 4 ((v 1) ∷ (v 2) ∷ [])) (named 0 (codes "x") ∷ variable (types.base 0) (codes "M") ∷ variable (types.base 0) (codes "N") ∷ []) ∷ clause 4 ((app 3 (pair (v 0) (v 1))) ∷ (app 3 (pair (v 2) (v 3))) ∷ []) (goals.both (goals.atom 4 ((v 0) ∷ (v 2) ∷ [])) (goals.atom 4 ((v 1) ∷ (v 3) ∷ []))) (variable (types.base 0) (codes "M") ∷ variable (types.base 0) (codes "N") ∷ variable (types.base 0) (codes "P") ∷ variable (types.base 0) (codes "Q") ∷ []) ∷ []) ∷ (clause 5 ((app 2 (v 0)) ∷ (v 0) ∷ (v 1) ∷ []) (goals.fresh (v 0) (v 1)) (variable (types.names 0) (codes "X") ∷ variable (types.names 0) (codes "Y") ∷ []) ∷ clause 5 ((app 4 (abs (n 0 0) (v 1))) ∷ (v 2) ∷ (v 3) ∷ []) (goals.both (goals.fresh (name (n 0 0)) (v 2)) (goals.both (goals.fresh (name (n 0 0)) (v 3)) (goals.either (goals.atom 5 ((v 1) ∷ (v 2) ∷ (v 3) ∷ [])) (goals.atom 5 ((v 1) ∷ (v 3) ∷ (v 2) ∷ []))))) (named 0 (codes "x") ∷ variable (types.base 0) (codes "M") ∷ variable (types.names 0) (codes "X") ∷ variable (types.names 0) (codes "Y") ∷ []) ∷ []) ∷ (clause 6 ((app 4 (abs (n 0 0) (app 4 (abs (n 0 1) (v 2))))) ∷ (v 3) ∷ []) (goals.both (goals.fresh (name (n 0 0)) (v 3)) (goals.both (goals.fresh (name (n 0 1)) (v 3)) (goals.equal (v 2) (v 3)))) (named 0 (codes "x") ∷ named 0 (codes "y") ∷ variable (types.base 0) (codes "M") ∷ variable (types.base 0) (codes "N") ∷ []) ∷ clause 6 ((app 4 (abs (n 0 0) (app 4 (abs (n 0 1) (v 2))))) ∷ (app 4 (abs (n 0 1) (app 4 (abs (n 0 0) (v 2))))) ∷ []) goals.succeed (named 0 (codes "x") ∷ named 0 (codes "y") ∷ variable (types.base 0) (codes "M") ∷ []) ∷ clause 6 ((v 0) ∷ (app 4 (abs (n 0 1) (susp (swap_of (n 0 1) (n 0 2) ∷ []) (record { num = 0 })))) ∷ []) (goals.both (goals.fresh (name (n 0 1)) (v 0)) (goals.both (goals.fresh (name (n 0 2)) (v 0)) (goals.both (goals.fresh (name (n 0 2)) (susp (swap_of (n 0 1) (n 0 2) ∷ []) (record { num = 0 }))) (goals.exists (record { num = 3 }) (goals.both (goals.equal (v 3) (app 3 (pair (v 0) (susp (swap_of (n 0 1) (n 0 2) ∷ []) (record { num = 0 }))))) (goals.fresh (name (n 0 1)) (v 3))))))) (variable (types.base 0) (codes "M") ∷ named 0 (codes "x") ∷ named 0 (codes "y") ∷ some_variable (types.base 0) (codes "N") ∷ []) ∷ []) ∷ []) (query (goals.both (goals.atom 4 ((app 2 (name (n 0 0))) ∷ (app 2 (name (n 0 1))) ∷ [])) (goals.equal (v 2) (app 1 (pair (app 4 (v 3)) (v 4))))) (named 0 (codes "n1") ∷ named 0 (codes "b") ∷ variable (types.list (types.base 0)) (codes "_") ∷ variable (types.abs 0 (types.base 0)) (codes "X") ∷ variable (types.list (types.base 0)) (codes "Y") ∷ []) ∷ query (goals.atom 0 ((name (n 0 1)) ∷ (app 3 (pair (susp (swap_of (n 0 1) (n 0 2) ∷ []) (record { num = 3 })) (app 2 (name (n 0 0))))) ∷ [])) (named 0 (codes "a") ∷ named 0 (codes "n1") ∷ named 0 (codes "b") ∷ variable (types.base 0) (codes "X") ∷ []) ∷ []) (codes "id" ∷ codes "exp" ∷ codes "var" ∷ codes "app" ∷ codes "lam" ∷ codes "free" ∷ codes "X" ∷ codes "M" ∷ codes "N" ∷ codes "y" ∷ codes "notin" ∷ codes "x" ∷ codes "closed" ∷ codes "z" ∷ codes "inst" ∷ codes "F" ∷ codes "eqv" ∷ codes "P" ∷ codes "Q" ∷ codes "var2" ∷ codes "Y" ∷ codes "two" ∷ codes "n1" ∷ codes "b" ∷ codes "_" ∷ codes "a" ∷ [])) 2
    ≡ codes "% query 1: 0 answers, 0 cut, 0 stuck\nX = var(b)\n% cut 3\n% query 2: 1 answers, 3 cut, 0 stuck\n"
unfolding swap_name name_eq name_before unify ending canonical digits
sampled_valid_00014 = refl

sampled_valid_00015 : program_report (programs (signature (codes "id" ∷ []) (codes "exp" ∷ codes "ty" ∷ []) (constructor (codes "var") ((types.names 0) ∷ []) 0 ∷ constructor (codes "app") ((types.base 0) ∷ (types.base 0) ∷ []) 0 ∷ constructor (codes "lam") ((types.abs 0 (types.base 0)) ∷ []) 0 ∷ constructor (codes "o") [] 1 ∷ constructor (codes "arr") ((types.base 1) ∷ (types.base 1) ∷ []) 1 ∷ []) (((types.pair (types.names 0) (types.base 1)) ∷ (types.list (types.pair (types.names 0) (types.base 1))) ∷ []) ∷ ((types.list (types.pair (types.names 0) (types.base 1))) ∷ (types.base 0) ∷ (types.base 1) ∷ []) ∷ [])) ((clause 0 ((v 0) ∷ (app 1 (pair (v 0) (v 1))) ∷ []) goals.succeed (variable (types.pair (types.names 0) (types.base 1)) (codes "P") ∷ variable (types.list (types.pair (types.names 0) (types.base 1))) (codes "L") ∷ []) ∷ clause 0 ((v 0) ∷ (app 1 (pair (v 1) (v 2))) ∷ []) (goals.atom 0 ((v 0) ∷ (v 2) ∷ [])) (variable (types.pair (types.names 0) (types.base 1)) (codes "P") ∷ variable (types.pair (types.names 0) (types.base 1)) (codes "Q") ∷ variable (types.list (types.pair (types.names 0) (types.base 1))) (codes "L") ∷ []) ∷ []) ∷ (clause 1 ((v 0) ∷ (app 2 (v 1)) ∷ (v 2) ∷ []) (goals.atom 0 ((pair (v 1) (v 2)) ∷ (v 0) ∷ [])) (variable (types.list (types.pair (types.names 0) (types.base 1))) (codes "G") ∷ variable (types.names 0) (codes "X") ∷ variable (types.base 1) (codes "T") ∷ []) ∷ clause 1 ((v 0) ∷ (app 3 (pair (v 1) (v 2))) ∷ (v 3) ∷ []) (goals.both (goals.atom 1 ((v 0) ∷ (v 1) ∷ (app 6 (pair (v 4) (v 3))) ∷ [])) (goals.atom 1 ((v 0) ∷ (v 2) ∷ (v 4) ∷ []))) (variable (types.list (types.pair (types.names 0) (types.base 1))) (codes "G") ∷ variable (types.base 0) (codes "M") ∷ variable (types.base 0) (codes "N") ∷ variable (types.base 1) (codes "U") ∷ variable (types.base 1) (codes "T") ∷ []) ∷ clause 1 ((v 0) ∷ (app 4 (abs (n 0 1) (v 2))) ∷ (app 6 (pair (v 3) (v 4))) ∷ []) (goals.both (goals.fresh (name (n 0 1)) (v 0)) (goals.atom 1 ((app 1 (pair (pair (name (n 0 1)) (v 3)) (v 0))) ∷ (v 2) ∷ (v 4) ∷ []))) (variable (types.list (types.pair (types.names 0) (types.base 1))) (codes "G") ∷ named 0 (codes "x") ∷ variable (types.base 0) (codes "M") ∷ variable (types.base 1) (codes "T") ∷ variable (types.base 1) (codes "U") ∷ []) ∷ []) ∷ []) (query (goals.both (goals.fresh (name (n 0 0)) (v 1)) (goals.atom 1 ((app 1 (pair (susp (swap_of (n 0 2) (n 0 3) ∷ []) (record { num = 4 })) (susp (swap_of (n 0 2) (n 0 3) ∷ []) (record { num = 5 })))) ∷ (v 6) ∷ (v 1) ∷ []))) (named 0 (codes "b") ∷ variable (types.base 1) (codes "X") ∷ named 0 (codes "a") ∷ named 0 (codes "n1") ∷ variable (types.pair (types.names 0) (types.base 1)) (codes "_") ∷ variable (types.list (types.pair (types.names 0) (types.base 1))) (codes "Y") ∷ variable (types.base 0) (codes "_1") ∷ []) ∷ query (goals.both (goals.atom 1 ((v 0) ∷ (app 4 (abs (n 0 1) (v 2))) ∷ (app 6 (pair (app 5 unit) (app 6 (pair (v 3) (v 4))))) ∷ [])) (goals.equal (app 6 (pair (app 5 unit) (app 6 (pair (v 4) (v 5))))) (app 5 unit))) (variable (types.list (types.pair (types.names 0) (types.base 1))) (codes "_") ∷ named 0 (codes "b") ∷ variable (types.base 0) (codes "X") ∷ variable (types.base 1) (codes "_") ∷ variable (types.base 1) (codes "Y") ∷ variable (types.base 1) (codes "_1") ∷ []) ∷ []) (codes "id" ∷ codes "exp" ∷ codes "var" ∷ codes "app" ∷ codes "lam" ∷ codes "ty" ∷ codes "o" ∷ codes "arr" ∷ codes "mem" ∷ codes "P" ∷ codes "L" ∷ codes "Q" ∷ codes "tc" ∷ codes "G" ∷ codes "X" ∷ codes "T" ∷ codes "M" ∷ codes "N" ∷ codes "U" ∷ codes "x" ∷ codes "b" ∷ codes "a" ∷ codes "n1" ∷ codes "_" ∷ codes "Y" ∷ codes "_1" ∷ [])) 2
    ≡ codes "X = _2, Y = _3, _1 = var(_4) where b # _2\n% cut 7\n% query 1: 1 answers, 7 cut, 0 stuck\n% cut 3\n% query 2: 0 answers, 3 cut, 0 stuck\n"
unfolding swap_name name_eq name_before unify ending canonical digits
sampled_valid_00015 = refl

sampled_valid_00017 : program_report (programs (signature (codes "id" ∷ []) (codes "exp" ∷ []) (constructor (codes "var") ((types.names 0) ∷ []) 0 ∷ constructor (codes "app") ((types.base 0) ∷ (types.base 0) ∷ []) 0 ∷ constructor (codes "lam") ((types.abs 0 (types.base 0)) ∷ []) 0 ∷ []) (((types.names 0) ∷ (types.base 0) ∷ []) ∷ ((types.base 0) ∷ []) ∷ ((types.base 0) ∷ []) ∷ ((types.abs 0 (types.base 0)) ∷ (types.names 0) ∷ (types.base 0) ∷ []) ∷ ((types.base 0) ∷ (types.base 0) ∷ []) ∷ ((types.base 0) ∷ (types.names 0) ∷ (types.names 0) ∷ []) ∷ ((types.base 0) ∷ (types.base 0) ∷ []) ∷ [])) ((clause 0 ((v 0) ∷ (app 2 (v 0)) ∷ []) goals.succeed (variable (types.names 0) (codes "X") ∷ []) ∷ clause 0 ((v 0) ∷ (app 3 (pair (v 1) (v 2))) ∷ []) (goals.either (goals.atom 0 ((v 0) ∷ (v 1) ∷ [])) (goals.atom 0 ((v 0) ∷ (v 2) ∷ []))) (variable (types.names 0) (codes "X") ∷ variable (types.base 0) (codes "M") ∷ variable (types.base 0) (codes "N") ∷ []) ∷ clause 0 ((v 0) ∷ (app 4 (abs (n 0 1) (v 2))) ∷ []) (goals.both (goals.fresh (name (n 0 1)) (v 0)) (goals.atom 0 ((v 0) ∷ (v 2) ∷ []))) (variable (types.names 0) (codes "X") ∷ named 0 (codes "y") ∷ variable (types.base 0) (codes "M") ∷ []) ∷ []) ∷ (clause 1 ((app 4 (abs (n 0 0) (app 2 (name (n 0 0))))) ∷ []) goals.succeed (named 0 (codes "x") ∷ []) ∷ clause 1 ((app 3 (pair (v 0) (v 1))) ∷ []) (goals.both (goals.atom 1 ((v 0) ∷ [])) (goals.atom 1 ((v 1) ∷ []))) (variable (types.base 0) (codes "M") ∷ variable (types.base 0) (codes "N") ∷ []) ∷ []) ∷ (clause 2 ((v 0) ∷ []) (goals.new (n 0 1) (goals.both (goals.equal (app 4 (abs (n 0 1) (v 0))) (app 4 (abs (n 0 1) (v 0)))) (goals.atom 1 ((v 0) ∷ [])))) (variable (types.base 0) (codes "M") ∷ brought_name 0 (codes "z") ∷ []) ∷ []) ∷ (clause 3 ((v 0) ∷ (v 1) ∷ (v 2) ∷ []) (goals.new (n 0 3) (goals.both (goals.equal (v 0) (abs (n 0 3) (v 4))) (goals.both (goals.equal (v 2) (v 4)) (goals.equal (v 1) (v 1))))) (variable (types.abs 0 (types.base 0)) (codes "F") ∷ variable (types.names 0) (codes "X") ∷ variable (types.base 0) (codes "N") ∷ brought_name 0 (codes "y") ∷ variable (types.base 0) (codes "M") ∷ []) ∷ clause 3 ((v 0) ∷ (v 1) ∷ (v 2) ∷ []) (goals.either (goals.exists (record { num = 3 }) (goals.both (goals.equal (v 3) (v 2)) (goals.fresh (v 1) (v 2)))) (goals.equal (v 0) (v 0))) (variable (types.abs 0 (types.base 0)) (codes "F") ∷ variable (types.names 0) (codes "X") ∷ variable (types.base 0) (codes "N") ∷ some_variable (types.base 0) (codes "M") ∷ []) ∷ []) ∷ (clause 4 ((v 0) ∷ (v 0) ∷ []) goals.succeed (variable (types.base 0) (codes "M") ∷ []) ∷ clause 4 ((app 4 (abs (n 0 0) (v 1))) ∷ (app 4 (abs (n 0 0) (v 2))) ∷ []) (goals.atom 4 ((v 1) ∷ (v 2) ∷ [])) (named 0 (codes "x") ∷ variable (types.base 0) (codes "M") ∷ variable (types.base 0) (codes "N") ∷ []) ∷ clause 4 ((app 3 (pair (v 0) (v 1))) ∷ (app 3 (pair (v 2) (v 3))) ∷ []) (goals.both (goals.atom 4 ((v 0) ∷ (v 2) ∷ [])) (goals.atom 4 ((v 1) ∷ (v 3) ∷ []))) (variable (types.base 0) (codes "M") ∷ variable (types.base 0) (codes "N") ∷ variable (types.base 0) (codes "P") ∷ variable (types.base 0) (codes "Q") ∷ []) ∷ []) ∷ (clause 5 ((app 2 (v 0)) ∷ (v 0) ∷ (v 1) ∷ []) (goals.fresh (v 0) (v 1)) (variable (types.names 0) (codes "X") ∷ variable (types.names 0) (codes "Y") ∷ []) ∷ clause 5 ((app 4 (abs (n 0 0) (v 1))) ∷ (v 2) ∷ (v 3) ∷ []) (goals.both (goals.fresh (name (n 0 0)) (v 2)) (goals.both (goals.fresh (name (n 0 0)) (v 3)) (goals.either (goals.atom 5 ((v 1) ∷ (v 2) ∷ (v 3) ∷ [])) (goals.atom 5 ((v 1) ∷ (v 3) ∷ (v 2) ∷ []))))) (named 0 (codes "x") ∷ variable (types.base 0) (codes "M") ∷ variable (types.names 0) (codes "X") ∷ variable (types.names 0) (codes "Y") ∷ []) ∷ []) ∷ (clause 6 ((app 4 (abs (n 0 0) (app 4 (abs (n 0 1) (v 2))))) ∷ (v 3) ∷ []) (goals.both (goals.fresh (name (n 0 0)) (v 3)) (goals.both (goals.fresh (name (n 0 1)) (v 3)) (goals.equal (v 2) (v 3)))) (named 0 (codes "x") ∷ named 0 (codes "y") ∷ variable (types.base 0) (codes "M") ∷ variable (types.base 0) (codes "N") ∷ []) ∷ clause 6 ((app 4 (abs (n 0 0) (app 4 (abs (n 0 1) (v 2))))) ∷ (app 4 (abs (n 0 1) (app 4 (abs (n 0 0) (v 2))))) ∷ []) goals.succeed (named 0 (codes "x") ∷ named 0 (codes "y") ∷ variable (types.base 0) (codes "M") ∷ []) ∷ clause 6 ((v 0) ∷ (app 4 (abs (n 0 1) (susp (swap_of (n 0 1) (n 0 2) ∷ []) (record { num = 0 })))) ∷ []) (goals.both (goals.fresh (name (n 0 1)) (v 0)) (goals.both (goals.fresh (name (n 0 2)) (v 0)) (goals.both (goals.fresh (name (n 0 2)) (susp (swap_of (n 0 1) (n 0 2) ∷ []) (record { num = 0 }))) (goals.exists (record { num = 3 }) (goals.both (goals.equal (v 3) (app 3 (pair (v 0) (susp (swap_of (n 0 1) (n 0 2) ∷ []) (record { num = 0 }))))) (goals.fresh (name (n 0 1)) (v 3))))))) (variable (types.base 0) (codes "M") ∷ named 0 (codes "x") ∷ named 0 (codes "y") ∷ some_variable (types.base 0) (codes "N") ∷ []) ∷ []) ∷ []) (query (goals.atom 0 ((name (n 0 0)) ∷ (app 3 (pair (app 3 (pair (v 1) (v 1))) (app 2 (v 2)))) ∷ [])) (named 0 (codes "n1") ∷ variable (types.base 0) (codes "X") ∷ variable (types.names 0) (codes "Y") ∷ []) ∷ query (goals.both (goals.atom 3 ((v 0) ∷ (name (n 0 1)) ∷ (app 3 (pair (v 2) (v 2))) ∷ [])) (goals.atom 1 ((app 3 (pair (v 3) (app 2 (name (n 0 1))))) ∷ []))) (variable (types.abs 0 (types.base 0)) (codes "X") ∷ named 0 (codes "a") ∷ variable (types.base 0) (codes "Y") ∷ variable (types.base 0) (codes "_1") ∷ []) ∷ []) (codes "id" ∷ codes "exp" ∷ codes "var" ∷ codes "app" ∷ codes "lam" ∷ codes "free" ∷ codes "X" ∷ codes "M" ∷ codes "N" ∷ codes "y" ∷ codes "notin" ∷ codes "x" ∷ codes "closed" ∷ codes "z" ∷ codes "inst" ∷ codes "F" ∷ codes "eqv" ∷ codes "P" ∷ codes "Q" ∷ codes "var2" ∷ codes "Y" ∷ codes "two" ∷ codes "n1" ∷ codes "a" ∷ codes "_1" ∷ [])) 3
    ≡ codes "X = var(n1), Y = _2\n% cut 3\nX = var(n1), Y = _2\n% cut 3\nX = _2, Y = n1\n% query 1: 3 answers, 6 cut, 0 stuck\n% cut 6\n% query 2: 0 answers, 6 cut, 0 stuck\n"
unfolding swap_name name_eq name_before unify ending canonical digits
sampled_valid_00017 = refl

sampled_valid_00018 : program_report (programs (signature (codes "id" ∷ []) (codes "exp" ∷ []) (constructor (codes "var") ((types.names 0) ∷ []) 0 ∷ constructor (codes "app") ((types.base 0) ∷ (types.base 0) ∷ []) 0 ∷ constructor (codes "lam") ((types.abs 0 (types.base 0)) ∷ []) 0 ∷ []) (((types.base 0) ∷ (types.names 0) ∷ (types.base 0) ∷ (types.base 0) ∷ []) ∷ [])) ((clause 0 ((app 2 (v 0)) ∷ (v 0) ∷ (v 1) ∷ (v 1) ∷ []) goals.succeed (variable (types.names 0) (codes "X") ∷ variable (types.base 0) (codes "E") ∷ []) ∷ clause 0 ((app 2 (v 0)) ∷ (v 1) ∷ (v 2) ∷ (app 2 (v 0)) ∷ []) (goals.fresh (v 1) (v 0)) (variable (types.names 0) (codes "Y") ∷ variable (types.names 0) (codes "X") ∷ variable (types.base 0) (codes "E") ∷ []) ∷ clause 0 ((app 3 (pair (v 0) (v 1))) ∷ (v 2) ∷ (v 3) ∷ (app 3 (pair (v 4) (v 5))) ∷ []) (goals.both (goals.atom 0 ((v 0) ∷ (v 2) ∷ (v 3) ∷ (v 4) ∷ [])) (goals.atom 0 ((v 1) ∷ (v 2) ∷ (v 3) ∷ (v 5) ∷ []))) (variable (types.base 0) (codes "M") ∷ variable (types.base 0) (codes "N") ∷ variable (types.names 0) (codes "X") ∷ variable (types.base 0) (codes "E") ∷ variable (types.base 0) (codes "M2") ∷ variable (types.base 0) (codes "N2") ∷ []) ∷ clause 0 ((app 4 (abs (n 0 0) (v 1))) ∷ (v 2) ∷ (v 3) ∷ (app 4 (abs (n 0 0) (v 4))) ∷ []) (goals.both (goals.fresh (name (n 0 0)) (v 2)) (goals.both (goals.fresh (name (n 0 0)) (v 3)) (goals.atom 0 ((v 1) ∷ (v 2) ∷ (v 3) ∷ (v 4) ∷ [])))) (named 0 (codes "y") ∷ variable (types.base 0) (codes "M") ∷ variable (types.names 0) (codes "X") ∷ variable (types.base 0) (codes "E") ∷ variable (types.base 0) (codes "M2") ∷ []) ∷ []) ∷ []) (query (goals.atom 0 ((app 2 (name (n 0 0))) ∷ (v 1) ∷ (app 3 (pair (app 2 (name (n 0 0))) (app 2 (name (n 0 2))))) ∷ (v 3) ∷ [])) (named 0 (codes "b") ∷ variable (types.names 0) (codes "X") ∷ named 0 (codes "a") ∷ variable (types.base 0) (codes "Y") ∷ []) ∷ query (goals.fresh (name (n 0 0)) (name (n 0 1))) (named 0 (codes "b") ∷ named 0 (codes "n1") ∷ []) ∷ []) (codes "id" ∷ codes "exp" ∷ codes "var" ∷ codes "app" ∷ codes "lam" ∷ codes "subst" ∷ codes "X" ∷ codes "E" ∷ codes "Y" ∷ codes "M" ∷ codes "N" ∷ codes "M2" ∷ codes "N2" ∷ codes "y" ∷ codes "b" ∷ codes "a" ∷ codes "n1" ∷ [])) 4
    ≡ codes "X = b, Y = app(var(b),var(a))\n% stuck 1\n% query 1: 1 answers, 0 cut, 1 stuck\nyes\n% query 2: 1 answers, 0 cut, 0 stuck\n"
unfolding swap_name name_eq name_before unify ending canonical digits
sampled_valid_00018 = refl

sampled_valid_00019 : program_report (programs (signature (codes "id" ∷ []) (codes "exp" ∷ codes "ty" ∷ []) (constructor (codes "var") ((types.names 0) ∷ []) 0 ∷ constructor (codes "app") ((types.base 0) ∷ (types.base 0) ∷ []) 0 ∷ constructor (codes "lam") ((types.abs 0 (types.base 0)) ∷ []) 0 ∷ constructor (codes "o") [] 1 ∷ constructor (codes "arr") ((types.base 1) ∷ (types.base 1) ∷ []) 1 ∷ []) (((types.pair (types.names 0) (types.base 1)) ∷ (types.list (types.pair (types.names 0) (types.base 1))) ∷ []) ∷ ((types.list (types.pair (types.names 0) (types.base 1))) ∷ (types.base 0) ∷ (types.base 1) ∷ []) ∷ [])) ((clause 0 ((v 0) ∷ (app 1 (pair (v 0) (v 1))) ∷ []) goals.succeed (variable (types.pair (types.names 0) (types.base 1)) (codes "P") ∷ variable (types.list (types.pair (types.names 0) (types.base 1))) (codes "L") ∷ []) ∷ clause 0 ((v 0) ∷ (app 1 (pair (v 1) (v 2))) ∷ []) (goals.atom 0 ((v 0) ∷ (v 2) ∷ [])) (variable (types.pair (types.names 0) (types.base 1)) (codes "P") ∷ variable (types.pair (types.names 0) (types.base 1)) (codes "Q") ∷ variable (types.list (types.pair (types.names 0) (types.base 1))) (codes "L") ∷ []) ∷ []) ∷ (clause 1 ((v 0) ∷ (app 2 (v 1)) ∷ (v 2) ∷ []) (goals.atom 0 ((pair (v 1) (v 2)) ∷ (v 0) ∷ [])) (variable (types.list (types.pair (types.names 0) (types.base 1))) (codes "G") ∷ variable (types.names 0) (codes "X") ∷ variable (types.base 1) (codes "T") ∷ []) ∷ clause 1 ((v 0) ∷ (app 3 (pair (v 1) (v 2))) ∷ (v 3) ∷ []) (goals.both (goals.atom 1 ((v 0) ∷ (v 1) ∷ (app 6 (pair (v 4) (v 3))) ∷ [])) (goals.atom 1 ((v 0) ∷ (v 2) ∷ (v 4) ∷ []))) (variable (types.list (types.pair (types.names 0) (types.base 1))) (codes "G") ∷ variable (types.base 0) (codes "M") ∷ variable (types.base 0) (codes "N") ∷ variable (types.base 1) (codes "U") ∷ variable (types.base 1) (codes "T") ∷ []) ∷ clause 1 ((v 0) ∷ (app 4 (abs (n 0 1) (v 2))) ∷ (app 6 (pair (v 3) (v 4))) ∷ []) (goals.both (goals.fresh (name (n 0 1)) (v 0)) (goals.atom 1 ((app 1 (pair (pair (name (n 0 1)) (v 3)) (v 0))) ∷ (v 2) ∷ (v 4) ∷ []))) (variable (types.list (types.pair (types.names 0) (types.base 1))) (codes "G") ∷ named 0 (codes "x") ∷ variable (types.base 0) (codes "M") ∷ variable (types.base 1) (codes "T") ∷ variable (types.base 1) (codes "U") ∷ []) ∷ []) ∷ []) (query (goals.atom 0 ((pair (name (n 0 0)) (app 5 unit)) ∷ (app 0 unit) ∷ [])) (named 0 (codes "n1") ∷ []) ∷ query (goals.atom 0 ((pair (name (n 0 2)) (susp (swap_of (n 0 0) (n 0 1) ∷ []) (record { num = 3 }))) ∷ (app 0 unit) ∷ [])) (named 0 (codes "a") ∷ named 0 (codes "n1") ∷ named 0 (codes "b") ∷ variable (types.base 1) (codes "X") ∷ []) ∷ []) (codes "id" ∷ codes "exp" ∷ codes "var" ∷ codes "app" ∷ codes "lam" ∷ codes "ty" ∷ codes "o" ∷ codes "arr" ∷ codes "mem" ∷ codes "P" ∷ codes "L" ∷ codes "Q" ∷ codes "tc" ∷ codes "G" ∷ codes "X" ∷ codes "T" ∷ codes "M" ∷ codes "N" ∷ codes "U" ∷ codes "x" ∷ codes "n1" ∷ codes "a" ∷ codes "b" ∷ [])) 1
    ≡ codes "% query 1: 0 answers, 0 cut, 0 stuck\n% query 2: 0 answers, 0 cut, 0 stuck\n"
unfolding swap_name name_eq name_before unify ending canonical digits
sampled_valid_00019 = refl

sampled_valid_00020 : program_report (programs (signature (codes "id" ∷ codes "nm" ∷ codes "tv" ∷ []) (codes "exp" ∷ codes "ty" ∷ []) (constructor (codes "z") [] 0 ∷ constructor (codes "s") ((types.abs 2 (types.pair (types.base 0) (types.base 0))) ∷ (types.names 0) ∷ []) 0 ∷ constructor (codes "h") [] 1 ∷ []) (((types.abs 2 (types.base 1)) ∷ (types.abs 1 (types.base 0)) ∷ (types.base 1) ∷ []) ∷ [] ∷ [])) ([] ∷ (clause 1 [] goals.succeed [] ∷ clause 1 [] goals.succeed [] ∷ []) ∷ []) (query (goals.both (goals.atom 1 []) (goals.atom 1 [])) [] ∷ query (goals.both (goals.atom 1 []) (goals.atom 0 ((abs (n 2 0) (app 4 unit)) ∷ (abs (n 1 1) (app 2 unit)) ∷ (app 4 unit) ∷ []))) (named 2 (codes "u") ∷ named 1 (codes "n2") ∷ []) ∷ []) (codes "id" ∷ codes "nm" ∷ codes "tv" ∷ codes "exp" ∷ codes "ty" ∷ codes "z" ∷ codes "s" ∷ codes "h" ∷ codes "p0" ∷ codes "p1" ∷ codes "u" ∷ codes "n2" ∷ [])) 4
    ≡ codes "yes\nyes\nyes\nyes\n% query 1: 4 answers, 0 cut, 0 stuck\n% query 2: 0 answers, 0 cut, 0 stuck\n"
unfolding swap_name name_eq name_before unify ending canonical digits
sampled_valid_00020 = refl

sampled_valid_00021 : program_report (programs (signature (codes "id" ∷ codes "nm" ∷ []) (codes "exp" ∷ []) (constructor (codes "var") ((types.names 0) ∷ []) 0 ∷ constructor (codes "con") ((types.names 1) ∷ []) 0 ∷ constructor (codes "app") ((types.base 0) ∷ (types.base 0) ∷ []) 0 ∷ constructor (codes "lam") ((types.abs 0 (types.base 0)) ∷ []) 0 ∷ constructor (codes "mu") ((types.abs 1 (types.base 0)) ∷ []) 0 ∷ []) (((types.base 0) ∷ (types.names 0) ∷ (types.base 0) ∷ (types.base 0) ∷ []) ∷ ((types.base 0) ∷ (types.names 1) ∷ (types.names 1) ∷ (types.base 0) ∷ []) ∷ ((types.names 0) ∷ (types.names 1) ∷ (types.base 0) ∷ []) ∷ ((types.base 0) ∷ (types.list (types.pair (types.names 0) (types.names 1))) ∷ []) ∷ [])) ((clause 0 ((app 2 (v 0)) ∷ (v 0) ∷ (v 1) ∷ (v 1) ∷ []) goals.succeed (variable (types.names 0) (codes "X") ∷ variable (types.base 0) (codes "E") ∷ []) ∷ clause 0 ((app 2 (v 0)) ∷ (v 1) ∷ (v 2) ∷ (app 2 (v 0)) ∷ []) (goals.fresh (v 0) (v 1)) (variable (types.names 0) (codes "Y") ∷ variable (types.names 0) (codes "X") ∷ variable (types.base 0) (codes "E") ∷ []) ∷ clause 0 ((app 3 (v 0)) ∷ (v 1) ∷ (v 2) ∷ (app 3 (v 0)) ∷ []) goals.succeed (variable (types.names 1) (codes "C") ∷ variable (types.names 0) (codes "X") ∷ variable (types.base 0) (codes "E") ∷ []) ∷ clause 0 ((app 4 (pair (v 0) (v 1))) ∷ (v 2) ∷ (v 3) ∷ (app 4 (pair (v 4) (v 5))) ∷ []) (goals.both (goals.atom 0 ((v 0) ∷ (v 2) ∷ (v 3) ∷ (v 4) ∷ [])) (goals.atom 0 ((v 1) ∷ (v 2) ∷ (v 3) ∷ (v 5) ∷ []))) (variable (types.base 0) (codes "M") ∷ variable (types.base 0) (codes "N") ∷ variable (types.names 0) (codes "X") ∷ variable (types.base 0) (codes "E") ∷ variable (types.base 0) (codes "M2") ∷ variable (types.base 0) (codes "N2") ∷ []) ∷ clause 0 ((app 5 (abs (n 0 0) (v 1))) ∷ (v 2) ∷ (v 3) ∷ (app 5 (abs (n 0 0) (v 4))) ∷ []) (goals.both (goals.fresh (name (n 0 0)) (v 2)) (goals.both (goals.fresh (name (n 0 0)) (v 3)) (goals.atom 0 ((v 1) ∷ (v 2) ∷ (v 3) ∷ (v 4) ∷ [])))) (named 0 (codes "y") ∷ variable (types.base 0) (codes "M") ∷ variable (types.names 0) (codes "X") ∷ variable (types.base 0) (codes "E") ∷ variable (types.base 0) (codes "M2") ∷ []) ∷ clause 0 ((app 6 (abs (n 1 0) (v 1))) ∷ (v 2) ∷ (v 3) ∷ (app 6 (abs (n 1 0) (v 4))) ∷ []) (goals.both (goals.fresh (name (n 1 0)) (v 3)) (goals.atom 0 ((v 1) ∷ (v 2) ∷ (v 3) ∷ (v 4) ∷ []))) (named 1 (codes "k") ∷ variable (types.base 0) (codes "M") ∷ variable (types.names 0) (codes "X") ∷ variable (types.base 0) (codes "E") ∷ variable (types.base 0) (codes "M2") ∷ []) ∷ []) ∷ (clause 1 ((app 3 (v 0)) ∷ (v 0) ∷ (v 1) ∷ (app 3 (v 1)) ∷ []) goals.succeed (variable (types.names 1) (codes "C") ∷ variable (types.names 1) (codes "D") ∷ []) ∷ clause 1 ((app 3 (v 0)) ∷ (v 1) ∷ (v 2) ∷ (app 3 (v 0)) ∷ []) (goals.fresh (v 0) (v 1)) (variable (types.names 1) (codes "E") ∷ variable (types.names 1) (codes "C") ∷ variable (types.names 1) (codes "D") ∷ []) ∷ clause 1 ((app 2 (v 0)) ∷ (v 1) ∷ (v 2) ∷ (app 2 (v 0)) ∷ []) goals.succeed (variable (types.names 0) (codes "X") ∷ variable (types.names 1) (codes "C") ∷ variable (types.names 1) (codes "D") ∷ []) ∷ clause 1 ((app 6 (abs (n 1 0) (v 1))) ∷ (v 2) ∷ (v 3) ∷ (app 6 (abs (n 1 0) (v 4))) ∷ []) (goals.both (goals.fresh (name (n 1 0)) (v 2)) (goals.both (goals.fresh (name (n 1 0)) (v 3)) (goals.atom 1 ((v 1) ∷ (v 2) ∷ (v 3) ∷ (v 4) ∷ [])))) (named 1 (codes "k") ∷ variable (types.base 0) (codes "M") ∷ variable (types.names 1) (codes "C") ∷ variable (types.names 1) (codes "D") ∷ variable (types.base 0) (codes "N") ∷ []) ∷ clause 1 ((app 5 (abs (n 0 0) (v 1))) ∷ (v 2) ∷ (v 3) ∷ (app 5 (abs (n 0 0) (v 4))) ∷ []) (goals.atom 1 ((v 1) ∷ (v 2) ∷ (v 3) ∷ (v 4) ∷ [])) (named 0 (codes "y") ∷ variable (types.base 0) (codes "M") ∷ variable (types.names 1) (codes "C") ∷ variable (types.names 1) (codes "D") ∷ variable (types.base 0) (codes "N") ∷ []) ∷ []) ∷ (clause 2 ((v 0) ∷ (v 1) ∷ (v 2) ∷ []) (goals.both (goals.fresh (v 0) (v 2)) (goals.fresh (v 1) (v 2))) (variable (types.names 0) (codes "X") ∷ variable (types.names 1) (codes "C") ∷ variable (types.base 0) (codes "M") ∷ []) ∷ clause 2 ((v 0) ∷ (v 1) ∷ (v 2) ∷ []) (goals.exists (record { num = 3 }) (goals.both (goals.equal (v 2) (app 4 (pair (v 3) (v 3)))) (goals.either (goals.fresh (v 0) (v 3)) (goals.fresh (v 1) (v 3))))) (variable (types.names 0) (codes "X") ∷ variable (types.names 1) (codes "C") ∷ variable (types.base 0) (codes "M") ∷ some_variable (types.base 0) (codes "N") ∷ []) ∷ []) ∷ (clause 3 ((v 0) ∷ (app 0 unit) ∷ []) goals.succeed (variable (types.base 0) (codes "M") ∷ []) ∷ clause 3 ((app 5 (abs (n 0 0) (v 1))) ∷ (app 1 (pair (pair (v 2) (v 3)) (v 4))) ∷ []) (goals.both (goals.fresh (name (n 0 0)) (v 4)) (goals.both (goals.fresh (name (n 0 0)) (v 2)) (goals.new (n 1 5) (goals.both (goals.equal (app 6 (abs (n 1 5) (v 1))) (app 6 (abs (n 1 5) (v 1)))) (goals.atom 3 ((v 1) ∷ (v 4) ∷ [])))))) (named 0 (codes "x") ∷ variable (types.base 0) (codes "M") ∷ variable (types.names 0) (codes "Y") ∷ variable (types.names 1) (codes "C") ∷ variable (types.list (types.pair (types.names 0) (types.names 1))) (codes "L") ∷ brought_name 1 (codes "k") ∷ []) ∷ []) ∷ []) (query (goals.either (goals.both (goals.atom 2 ((name (n 0 0)) ∷ (name (n 1 1)) ∷ (v 2) ∷ [])) (goals.atom 3 ((app 2 (name (n 0 3))) ∷ (v 4) ∷ []))) (goals.atom 0 ((app 5 (abs (n 0 0) (v 2))) ∷ (v 5) ∷ (app 4 (pair (app 4 (pair (app 3 (name (n 1 1))) (v 6))) (app 4 (pair (v 6) (v 2))))) ∷ (v 2) ∷ []))) (named 0 (codes "b") ∷ named 1 (codes "m") ∷ variable (types.base 0) (codes "X") ∷ named 0 (codes "a") ∷ variable (types.list (types.pair (types.names 0) (types.names 1))) (codes "_") ∷ variable (types.names 0) (codes "Y") ∷ variable (types.base 0) (codes "_1") ∷ []) ∷ query (goals.atom 0 ((app 6 (v 0)) ∷ (name (n 0 1)) ∷ (v 2) ∷ (v 2) ∷ [])) (variable (types.abs 1 (types.base 0)) (codes "X") ∷ named 0 (codes "b") ∷ variable (types.base 0) (codes "Y") ∷ []) ∷ []) (codes "id" ∷ codes "nm" ∷ codes "exp" ∷ codes "var" ∷ codes "con" ∷ codes "app" ∷ codes "lam" ∷ codes "mu" ∷ codes "sub" ∷ codes "X" ∷ codes "E" ∷ codes "Y" ∷ codes "C" ∷ codes "M" ∷ codes "N" ∷ codes "M2" ∷ codes "N2" ∷ codes "y" ∷ codes "k" ∷ codes "ren" ∷ codes "D" ∷ codes "fresh2" ∷ codes "gen" ∷ codes "x" ∷ codes "L" ∷ codes "b" ∷ codes "m" ∷ codes "a" ∷ codes "_" ∷ codes "_1" ∷ [])) 2
    ≡ codes "X = _2, Y = _3, _1 = _4 where b # _2, m # _2\nX = app(_2,_2), Y = _3, _1 = _4 where b # _2\nX = app(_2,_2), Y = _3, _1 = _4 where m # _2\n% cut 1\n% query 1: 3 answers, 1 cut, 0 stuck\n% stuck 1\nX = n1\\con(_2), Y = mu(n1\\con(_2))\n% cut 3\n% query 2: 1 answers, 3 cut, 1 stuck\n"
unfolding swap_name name_eq name_before unify ending canonical digits
sampled_valid_00021 = refl

sampled_valid_00022 : program_report (programs (signature (codes "id" ∷ codes "nm" ∷ []) (codes "exp" ∷ codes "ty" ∷ []) (constructor (codes "var") ((types.names 0) ∷ []) 0 ∷ constructor (codes "app") ((types.base 0) ∷ (types.base 0) ∷ []) 0 ∷ constructor (codes "lam") ((types.abs 0 (types.base 0)) ∷ []) 0 ∷ constructor (codes "o") [] 1 ∷ []) (((types.list (types.base 1)) ∷ (types.names 0) ∷ (types.base 0) ∷ []) ∷ ((types.base 0) ∷ []) ∷ ((types.names 0) ∷ (types.base 0) ∷ []) ∷ [])) ((clause 0 ((app 0 unit) ∷ (v 0) ∷ (v 1) ∷ []) (goals.atom 1 ((app 4 (v 2)) ∷ [])) (variable (types.names 0) (codes "X") ∷ variable (types.base 0) (codes "Y") ∷ variable (types.abs 0 (types.base 0)) (codes "_") ∷ []) ∷ []) ∷ (clause 1 ((v 0) ∷ []) goals.succeed (variable (types.base 0) (codes "X") ∷ []) ∷ clause 1 ((app 4 (abs (n 0 0) (v 1))) ∷ []) (goals.both (goals.equal (app 5 unit) (v 2)) (goals.atom 1 ((app 4 (v 3)) ∷ []))) (named 0 (codes "a") ∷ variable (types.base 0) (codes "X") ∷ variable (types.base 1) (codes "Y") ∷ variable (types.abs 0 (types.base 0)) (codes "_1") ∷ []) ∷ []) ∷ (clause 2 ((v 0) ∷ (v 1) ∷ []) goals.succeed (variable (types.names 0) (codes "X") ∷ variable (types.base 0) (codes "Y") ∷ []) ∷ clause 2 ((v 0) ∷ (app 4 (abs (n 0 1) (app 2 (v 0)))) ∷ []) (goals.both (goals.fresh (name (n 0 1)) (v 0)) (goals.both (goals.atom 1 ((app 3 (pair (v 2) (v 2))) ∷ [])) (goals.atom 2 ((v 0) ∷ (v 2) ∷ [])))) (variable (types.names 0) (codes "X") ∷ named 0 (codes "b") ∷ variable (types.base 0) (codes "Y") ∷ []) ∷ []) ∷ []) (query (goals.atom 1 ((app 2 (name (n 0 0))) ∷ [])) (named 0 (codes "b") ∷ []) ∷ query (goals.atom 2 ((name (n 0 0)) ∷ (app 3 (pair (app 2 (name (n 0 1))) (app 2 (v 2)))) ∷ [])) (named 0 (codes "b") ∷ named 0 (codes "a") ∷ variable (types.names 0) (codes "X") ∷ []) ∷ []) (codes "id" ∷ codes "nm" ∷ codes "exp" ∷ codes "ty" ∷ codes "var" ∷ codes "app" ∷ codes "lam" ∷ codes "o" ∷ codes "p0" ∷ codes "p1" ∷ codes "p2" ∷ codes "X" ∷ codes "Y" ∷ codes "b" ∷ codes "a" ∷ codes "_1" ∷ codes "_" ∷ [])) 3
    ≡ codes "yes\n% query 1: 1 answers, 0 cut, 0 stuck\nX = _2\n% query 2: 1 answers, 0 cut, 0 stuck\n"
unfolding swap_name name_eq name_before unify ending canonical digits
sampled_valid_00022 = refl

sampled_valid_00023 : program_report (programs (signature (codes "id" ∷ []) (codes "nat" ∷ []) (constructor (codes "z") [] 0 ∷ constructor (codes "s") ((types.base 0) ∷ []) 0 ∷ []) (((types.list (types.names 0)) ∷ (types.list (types.names 0)) ∷ (types.list (types.names 0)) ∷ []) ∷ ((types.names 0) ∷ (types.list (types.names 0)) ∷ []) ∷ ((types.list (types.names 0)) ∷ []) ∷ ((types.list (types.names 0)) ∷ (types.base 0) ∷ []) ∷ ((types.abs 0 (types.names 0)) ∷ (types.names 0) ∷ []) ∷ ((types.abs 0 (types.list (types.names 0))) ∷ (types.list (types.names 0)) ∷ []) ∷ [])) ((clause 0 ((app 0 unit) ∷ (v 0) ∷ (v 0) ∷ []) goals.succeed (variable (types.list (types.names 0)) (codes "L") ∷ []) ∷ clause 0 ((app 1 (pair (v 0) (v 1))) ∷ (v 2) ∷ (app 1 (pair (v 0) (v 3))) ∷ []) (goals.atom 0 ((v 1) ∷ (v 2) ∷ (v 3) ∷ [])) (variable (types.names 0) (codes "X") ∷ variable (types.list (types.names 0)) (codes "L") ∷ variable (types.list (types.names 0)) (codes "M") ∷ variable (types.list (types.names 0)) (codes "N") ∷ []) ∷ []) ∷ (clause 1 ((v 0) ∷ (app 0 unit) ∷ []) goals.succeed (variable (types.names 0) (codes "X") ∷ []) ∷ clause 1 ((v 0) ∷ (app 1 (pair (v 1) (v 2))) ∷ []) (goals.both (goals.fresh (v 0) (v 1)) (goals.atom 1 ((v 0) ∷ (v 2) ∷ []))) (variable (types.names 0) (codes "X") ∷ variable (types.names 0) (codes "Y") ∷ variable (types.list (types.names 0)) (codes "L") ∷ []) ∷ []) ∷ (clause 2 ((app 0 unit) ∷ []) goals.succeed [] ∷ clause 2 ((app 1 (pair (v 0) (v 1))) ∷ []) (goals.both (goals.atom 1 ((v 0) ∷ (v 1) ∷ [])) (goals.atom 2 ((v 1) ∷ []))) (variable (types.names 0) (codes "X") ∷ variable (types.list (types.names 0)) (codes "L") ∷ []) ∷ []) ∷ (clause 3 ((app 0 unit) ∷ (app 2 unit) ∷ []) goals.succeed [] ∷ clause 3 ((app 1 (pair (v 0) (v 1))) ∷ (app 3 (v 2)) ∷ []) (goals.atom 3 ((v 1) ∷ (v 2) ∷ [])) (variable (types.names 0) (codes "X") ∷ variable (types.list (types.names 0)) (codes "L") ∷ variable (types.base 0) (codes "N") ∷ []) ∷ []) ∷ (clause 4 ((abs (n 0 0) (v 1)) ∷ (v 1) ∷ []) (goals.fresh (name (n 0 0)) (v 1)) (named 0 (codes "x") ∷ variable (types.names 0) (codes "Y") ∷ []) ∷ []) ∷ (clause 5 ((abs (n 0 0) (app 1 (pair (name (n 0 0)) (v 1)))) ∷ (v 1) ∷ []) (goals.fresh (name (n 0 0)) (v 1)) (named 0 (codes "x") ∷ variable (types.list (types.names 0)) (codes "L") ∷ []) ∷ clause 5 ((abs (n 0 0) (v 1)) ∷ (v 1) ∷ []) (goals.fresh (name (n 0 0)) (v 1)) (named 0 (codes "x") ∷ variable (types.list (types.names 0)) (codes "L") ∷ []) ∷ []) ∷ []) (query (goals.atom 2 ((app 0 unit) ∷ [])) [] ∷ query (goals.both (goals.fresh (name (n 0 0)) (app 3 (app 3 (app 2 unit)))) (goals.atom 3 ((v 1) ∷ (app 3 (app 3 (app 2 unit))) ∷ []))) (named 0 (codes "b") ∷ variable (types.list (types.names 0)) (codes "X") ∷ []) ∷ []) (codes "id" ∷ codes "nat" ∷ codes "z" ∷ codes "s" ∷ codes "app" ∷ codes "L" ∷ codes "X" ∷ codes "M" ∷ codes "N" ∷ codes "dist" ∷ codes "Y" ∷ codes "all" ∷ codes "len" ∷ codes "pick" ∷ codes "x" ∷ codes "abs" ∷ codes "b" ∷ [])) 2
    ≡ codes "yes\n% query 1: 1 answers, 0 cut, 0 stuck\n% cut 1\n% query 2: 0 answers, 1 cut, 0 stuck\n"
unfolding swap_name name_eq name_before unify ending canonical digits
sampled_valid_00023 = refl

sampled_valid_00024 : program_report (programs (signature (codes "id" ∷ []) (codes "exp" ∷ codes "ty" ∷ []) (constructor (codes "var") ((types.names 0) ∷ []) 0 ∷ constructor (codes "app") ((types.base 0) ∷ (types.base 0) ∷ []) 0 ∷ constructor (codes "lam") ((types.abs 0 (types.base 0)) ∷ []) 0 ∷ constructor (codes "o") [] 1 ∷ constructor (codes "arr") ((types.base 1) ∷ (types.base 1) ∷ []) 1 ∷ []) (((types.pair (types.names 0) (types.base 1)) ∷ (types.list (types.pair (types.names 0) (types.base 1))) ∷ []) ∷ ((types.list (types.pair (types.names 0) (types.base 1))) ∷ (types.base 0) ∷ (types.base 1) ∷ []) ∷ [])) ((clause 0 ((v 0) ∷ (app 1 (pair (v 0) (v 1))) ∷ []) goals.succeed (variable (types.pair (types.names 0) (types.base 1)) (codes "P") ∷ variable (types.list (types.pair (types.names 0) (types.base 1))) (codes "L") ∷ []) ∷ clause 0 ((v 0) ∷ (app 1 (pair (v 1) (v 2))) ∷ []) (goals.atom 0 ((v 0) ∷ (v 2) ∷ [])) (variable (types.pair (types.names 0) (types.base 1)) (codes "P") ∷ variable (types.pair (types.names 0) (types.base 1)) (codes "Q") ∷ variable (types.list (types.pair (types.names 0) (types.base 1))) (codes "L") ∷ []) ∷ []) ∷ (clause 1 ((v 0) ∷ (app 2 (v 1)) ∷ (v 2) ∷ []) (goals.atom 0 ((pair (v 1) (v 2)) ∷ (v 0) ∷ [])) (variable (types.list (types.pair (types.names 0) (types.base 1))) (codes "G") ∷ variable (types.names 0) (codes "X") ∷ variable (types.base 1) (codes "T") ∷ []) ∷ clause 1 ((v 0) ∷ (app 3 (pair (v 1) (v 2))) ∷ (v 3) ∷ []) (goals.both (goals.atom 1 ((v 0) ∷ (v 1) ∷ (app 6 (pair (v 4) (v 3))) ∷ [])) (goals.atom 1 ((v 0) ∷ (v 2) ∷ (v 4) ∷ []))) (variable (types.list (types.pair (types.names 0) (types.base 1))) (codes "G") ∷ variable (types.base 0) (codes "M") ∷ variable (types.base 0) (codes "N") ∷ variable (types.base 1) (codes "U") ∷ variable (types.base 1) (codes "T") ∷ []) ∷ clause 1 ((v 0) ∷ (app 4 (abs (n 0 1) (v 2))) ∷ (app 6 (pair (v 3) (v 4))) ∷ []) (goals.both (goals.fresh (name (n 0 1)) (v 0)) (goals.atom 1 ((app 1 (pair (pair (name (n 0 1)) (v 3)) (v 0))) ∷ (v 2) ∷ (v 4) ∷ []))) (variable (types.list (types.pair (types.names 0) (types.base 1))) (codes "G") ∷ named 0 (codes "x") ∷ variable (types.base 0) (codes "M") ∷ variable (types.base 1) (codes "T") ∷ variable (types.base 1) (codes "U") ∷ []) ∷ []) ∷ []) (query (goals.atom 1 ((app 0 unit) ∷ (v 0) ∷ (app 5 unit) ∷ [])) (variable (types.base 0) (codes "X") ∷ []) ∷ query (goals.both (goals.atom 1 ((app 1 (pair (pair (name (n 0 1)) (susp (swap_of (n 0 0) (n 0 1) ∷ []) (record { num = 2 }))) (susp (swap_of (n 0 0) (n 0 1) ∷ []) (record { num = 3 })))) ∷ (app 2 (v 4)) ∷ (v 5) ∷ [])) (goals.atom 0 ((v 6) ∷ (app 1 (pair (v 7) (v 3))) ∷ []))) (named 0 (codes "a") ∷ named 0 (codes "n1") ∷ variable (types.base 1) (codes "X") ∷ variable (types.list (types.pair (types.names 0) (types.base 1))) (codes "Y") ∷ variable (types.names 0) (codes "_1") ∷ variable (types.base 1) (codes "Z") ∷ variable (types.pair (types.names 0) (types.base 1)) (codes "_") ∷ variable (types.pair (types.names 0) (types.base 1)) (codes "_") ∷ []) ∷ []) (codes "id" ∷ codes "exp" ∷ codes "var" ∷ codes "app" ∷ codes "lam" ∷ codes "ty" ∷ codes "o" ∷ codes "arr" ∷ codes "mem" ∷ codes "P" ∷ codes "L" ∷ codes "Q" ∷ codes "tc" ∷ codes "G" ∷ codes "X" ∷ codes "T" ∷ codes "M" ∷ codes "N" ∷ codes "U" ∷ codes "x" ∷ codes "a" ∷ codes "n1" ∷ codes "Y" ∷ codes "_1" ∷ codes "Z" ∷ codes "_" ∷ [])) 1
    ≡ codes "% cut 2\n% query 1: 0 answers, 2 cut, 0 stuck\n% cut 1\n% query 2: 0 answers, 1 cut, 0 stuck\n"
unfolding swap_name name_eq name_before unify ending canonical digits
sampled_valid_00024 = refl

sampled_valid_00025 : program_report (programs (signature (codes "id" ∷ []) (codes "exp" ∷ codes "ty" ∷ []) (constructor (codes "var") ((types.names 0) ∷ []) 0 ∷ constructor (codes "lam") ((types.abs 0 (types.base 0)) ∷ []) 0 ∷ constructor (codes "o") [] 1 ∷ constructor (codes "arr") ((types.base 1) ∷ (types.base 1) ∷ []) 1 ∷ []) (((types.base 1) ∷ []) ∷ [] ∷ [])) ((clause 0 ((app 5 (pair (app 4 unit) (app 4 unit))) ∷ []) goals.succeed [] ∷ []) ∷ (clause 1 [] (goals.atom 1 []) [] ∷ clause 1 [] (goals.both (goals.atom 0 ((v 0) ∷ [])) (goals.atom 0 ((app 4 unit) ∷ []))) (variable (types.base 1) (codes "X") ∷ named 0 (codes "b") ∷ []) ∷ clause 1 [] (goals.atom 0 ((app 5 (pair (v 0) (v 1))) ∷ [])) (variable (types.base 1) (codes "_") ∷ variable (types.base 1) (codes "X") ∷ []) ∷ []) ∷ []) (query (goals.equal (name (n 0 0)) (name (n 0 1))) (named 0 (codes "b") ∷ named 0 (codes "a") ∷ []) ∷ query (goals.atom 0 ((app 4 unit) ∷ [])) [] ∷ []) (codes "id" ∷ codes "exp" ∷ codes "ty" ∷ codes "var" ∷ codes "lam" ∷ codes "o" ∷ codes "arr" ∷ codes "p0" ∷ codes "p1" ∷ codes "X" ∷ codes "b" ∷ codes "_" ∷ codes "a" ∷ [])) 0
    ≡ codes "% query 1: 0 answers, 0 cut, 0 stuck\n% cut 1\n% query 2: 0 answers, 1 cut, 0 stuck\n"
unfolding swap_name name_eq name_before unify ending canonical digits
sampled_valid_00025 = refl

sampled_valid_00026 : program_report (programs (signature (codes "id" ∷ codes "nm" ∷ codes "tv" ∷ []) (codes "exp" ∷ []) (constructor (codes "var") ((types.names 0) ∷ []) 0 ∷ constructor (codes "app") ((types.base 0) ∷ (types.base 0) ∷ []) 0 ∷ constructor (codes "lam") ((types.abs 0 (types.base 0)) ∷ []) 0 ∷ constructor (codes "con") ((types.names 1) ∷ []) 0 ∷ constructor (codes "mu") ((types.abs 1 (types.base 0)) ∷ []) 0 ∷ []) (((types.base 0) ∷ (types.base 0) ∷ []) ∷ ((types.base 0) ∷ (types.base 0) ∷ []) ∷ [] ∷ [])) ((clause 0 ((app 3 (pair (v 0) (app 6 (v 1)))) ∷ (v 0) ∷ []) (goals.atom 2 []) (variable (types.base 0) (codes "X") ∷ variable (types.abs 1 (types.base 0)) (codes "Y") ∷ []) ∷ []) ∷ [] ∷ (clause 2 [] (goals.both (goals.atom 1 ((app 3 (pair (v 0) (v 0))) ∷ (v 1) ∷ [])) (goals.atom 2 [])) (variable (types.base 0) (codes "X") ∷ variable (types.base 0) (codes "Y") ∷ []) ∷ clause 2 [] goals.succeed [] ∷ clause 2 [] (goals.atom 2 []) [] ∷ []) ∷ []) (query (goals.both (goals.either (goals.both (goals.atom 1 ((v 0) ∷ (app 6 (abs (n 1 1) (v 0))) ∷ [])) (goals.equal (pair (susp (swap_of (n 0 2) (n 0 3) ∷ []) (record { num = 0 })) (app 4 (v 4))) (pair (app 3 (pair (v 0) (app 5 (name (n 1 5))))) (app 4 (v 6))))) (goals.atom 2 [])) (goals.both (goals.atom 0 ((app 2 (name (n 0 3))) ∷ (app 5 (v 7)) ∷ [])) (goals.atom 2 []))) (variable (types.base 0) (codes "X") ∷ named 1 (codes "n2") ∷ named 0 (codes "n1") ∷ named 0 (codes "b") ∷ variable (types.abs 0 (types.base 0)) (codes "_") ∷ named 1 (codes "m") ∷ variable (types.abs 0 (types.base 0)) (codes "Y") ∷ variable (types.names 1) (codes "_1") ∷ []) ∷ query (goals.atom 0 ((v 0) ∷ (v 1) ∷ [])) (variable (types.base 0) (codes "_") ∷ variable (types.base 0) (codes "X") ∷ []) ∷ []) (codes "id" ∷ codes "nm" ∷ codes "tv" ∷ codes "exp" ∷ codes "var" ∷ codes "app" ∷ codes "lam" ∷ codes "con" ∷ codes "mu" ∷ codes "p0" ∷ codes "p1" ∷ codes "p2" ∷ codes "X" ∷ codes "Y" ∷ codes "n2" ∷ codes "n1" ∷ codes "b" ∷ codes "_" ∷ codes "m" ∷ codes "_1" ∷ [])) 0
    ≡ codes "% cut 2\n% query 1: 0 answers, 2 cut, 0 stuck\n% cut 1\n% query 2: 0 answers, 1 cut, 0 stuck\n"
unfolding swap_name name_eq name_before unify ending canonical digits
sampled_valid_00026 = refl

sampled_valid_00027 : program_report (programs (signature (codes "id" ∷ []) (codes "exp" ∷ []) (constructor (codes "var") ((types.names 0) ∷ []) 0 ∷ constructor (codes "app") ((types.base 0) ∷ (types.base 0) ∷ []) 0 ∷ constructor (codes "lam") ((types.abs 0 (types.base 0)) ∷ []) 0 ∷ []) (((types.base 0) ∷ (types.names 0) ∷ (types.base 0) ∷ (types.base 0) ∷ []) ∷ [])) ((clause 0 ((app 2 (v 0)) ∷ (v 0) ∷ (v 1) ∷ (v 1) ∷ []) goals.succeed (variable (types.names 0) (codes "X") ∷ variable (types.base 0) (codes "E") ∷ []) ∷ clause 0 ((app 2 (v 0)) ∷ (v 1) ∷ (v 2) ∷ (app 2 (v 0)) ∷ []) (goals.fresh (v 1) (v 0)) (variable (types.names 0) (codes "Y") ∷ variable (types.names 0) (codes "X") ∷ variable (types.base 0) (codes "E") ∷ []) ∷ clause 0 ((app 3 (pair (v 0) (v 1))) ∷ (v 2) ∷ (v 3) ∷ (app 3 (pair (v 4) (v 5))) ∷ []) (goals.both (goals.atom 0 ((v 0) ∷ (v 2) ∷ (v 3) ∷ (v 4) ∷ [])) (goals.atom 0 ((v 1) ∷ (v 2) ∷ (v 3) ∷ (v 5) ∷ []))) (variable (types.base 0) (codes "M") ∷ variable (types.base 0) (codes "N") ∷ variable (types.names 0) (codes "X") ∷ variable (types.base 0) (codes "E") ∷ variable (types.base 0) (codes "M2") ∷ variable (types.base 0) (codes "N2") ∷ []) ∷ clause 0 ((app 4 (abs (n 0 0) (v 1))) ∷ (v 2) ∷ (v 3) ∷ (app 4 (abs (n 0 0) (v 4))) ∷ []) (goals.both (goals.fresh (name (n 0 0)) (v 2)) (goals.both (goals.fresh (name (n 0 0)) (v 3)) (goals.atom 0 ((v 1) ∷ (v 2) ∷ (v 3) ∷ (v 4) ∷ [])))) (named 0 (codes "y") ∷ variable (types.base 0) (codes "M") ∷ variable (types.names 0) (codes "X") ∷ variable (types.base 0) (codes "E") ∷ variable (types.base 0) (codes "M2") ∷ []) ∷ []) ∷ []) (query (goals.atom 0 ((app 4 (abs (n 0 0) (v 1))) ∷ (name (n 0 0)) ∷ (app 3 (pair (app 4 (v 2)) (v 1))) ∷ (app 2 (v 3)) ∷ [])) (named 0 (codes "n1") ∷ variable (types.base 0) (codes "X") ∷ variable (types.abs 0 (types.base 0)) (codes "Y") ∷ variable (types.names 0) (codes "_1") ∷ []) ∷ query (goals.both (goals.atom 0 ((app 4 (v 0)) ∷ (v 1) ∷ (app 2 (v 1)) ∷ (v 2) ∷ [])) (goals.atom 0 ((v 2) ∷ (name (n 0 3)) ∷ (v 2) ∷ (v 2) ∷ []))) (variable (types.abs 0 (types.base 0)) (codes "X") ∷ variable (types.names 0) (codes "Y") ∷ variable (types.base 0) (codes "_1") ∷ named 0 (codes "a") ∷ []) ∷ []) (codes "id" ∷ codes "exp" ∷ codes "var" ∷ codes "app" ∷ codes "lam" ∷ codes "subst" ∷ codes "X" ∷ codes "E" ∷ codes "Y" ∷ codes "M" ∷ codes "N" ∷ codes "M2" ∷ codes "N2" ∷ codes "y" ∷ codes "n1" ∷ codes "_1" ∷ codes "a" ∷ [])) 1
    ≡ codes "% query 1: 0 answers, 0 cut, 0 stuck\n% cut 1\n% query 2: 0 answers, 1 cut, 0 stuck\n"
unfolding swap_name name_eq name_before unify ending canonical digits
sampled_valid_00027 = refl

sampled_valid_00028 : program_report (programs (signature (codes "id" ∷ []) (codes "exp" ∷ []) (constructor (codes "var") ((types.names 0) ∷ []) 0 ∷ constructor (codes "lam") ((types.abs 0 (types.base 0)) ∷ []) 0 ∷ []) ([] ∷ [])) ((clause 0 [] goals.succeed [] ∷ clause 0 [] goals.succeed [] ∷ clause 0 [] (goals.atom 0 []) [] ∷ []) ∷ []) (query (goals.both (goals.atom 0 []) (goals.atom 0 [])) [] ∷ query (goals.both (goals.equal (name (n 0 0)) (name (n 0 1))) (goals.equal (name (n 0 1)) (name (n 0 2)))) (named 0 (codes "b") ∷ named 0 (codes "a") ∷ named 0 (codes "n1") ∷ []) ∷ []) (codes "id" ∷ codes "exp" ∷ codes "var" ∷ codes "lam" ∷ codes "p0" ∷ codes "b" ∷ codes "a" ∷ codes "n1" ∷ [])) 4
    ≡ codes "yes\nyes\nyes\nyes\nyes\nyes\nyes\nyes\n% cut 1\nyes\nyes\nyes\nyes\nyes\nyes\nyes\nyes\n% cut 1\nyes\nyes\nyes\nyes\nyes\nyes\nyes\nyes\n% cut 1\nyes\nyes\nyes\nyes\nyes\nyes\nyes\nyes\n% cut 1\nyes\nyes\nyes\nyes\nyes\nyes\nyes\nyes\n% cut 1\nyes\nyes\nyes\nyes\nyes\nyes\nyes\nyes\n% cut 1\nyes\nyes\nyes\nyes\nyes\nyes\nyes\nyes\n% cut 1\nyes\nyes\nyes\nyes\nyes\nyes\nyes\nyes\n% cut 2\n% query 1: 64 answers, 9 cut, 0 stuck\n% query 2: 0 answers, 0 cut, 0 stuck\n"
unfolding swap_name name_eq name_before unify ending canonical digits
sampled_valid_00028 = refl

sampled_valid_00029 : program_report (programs (signature (codes "id" ∷ []) (codes "exp" ∷ codes "ty" ∷ []) (constructor (codes "f") [] 0 ∷ constructor (codes "g") ((types.abs 0 (types.pair (types.base 0) (types.base 1))) ∷ (types.list (types.names 0)) ∷ (types.base 1) ∷ []) 0 ∷ constructor (codes "q") [] 1 ∷ constructor (codes "h") ((types.base 0) ∷ (types.names 0) ∷ (types.base 1) ∷ []) 1 ∷ []) (((types.names 0) ∷ []) ∷ [])) ((clause 0 ((v 0) ∷ []) goals.succeed (variable (types.names 0) (codes "X") ∷ []) ∷ []) ∷ []) (query (goals.both (goals.atom 0 ((name (n 0 0)) ∷ [])) (goals.new (n 0 1) (goals.both (goals.either (goals.both (goals.equal (v 2) (pair (app 3 (pair (v 3) (pair (v 4) (v 5)))) (susp (swap_of (n 0 0) (n 0 6) ∷ []) (record { num = 5 })))) (goals.new (n 0 7) (goals.equal (abs (n 0 0) (app 5 (pair (v 8) (pair (name (n 0 9)) (v 5))))) (abs (n 0 6) (app 4 unit))))) (goals.both (goals.atom 0 ((name (n 0 9)) ∷ [])) (goals.fresh (v 10) (name (n 0 9))))) (goals.atom 0 ((name (n 0 6)) ∷ []))))) (named 0 (codes "b") ∷ brought_name 0 (codes "c") ∷ variable (types.pair (types.base 0) (types.base 1)) (codes "X") ∷ variable (types.abs 0 (types.pair (types.base 0) (types.base 1))) (codes "Y") ∷ variable (types.list (types.names 0)) (codes "_1") ∷ variable (types.base 1) (codes "Z") ∷ named 0 (codes "a") ∷ brought_name 0 (codes "c") ∷ variable (types.base 0) (codes "_") ∷ named 0 (codes "n1") ∷ variable (types.names 0) (codes "_") ∷ []) ∷ query (goals.both (goals.atom 0 ((v 0) ∷ [])) (goals.atom 0 ((v 1) ∷ []))) (variable (types.names 0) (codes "X") ∷ variable (types.names 0) (codes "Y") ∷ []) ∷ []) (codes "id" ∷ codes "exp" ∷ codes "ty" ∷ codes "f" ∷ codes "g" ∷ codes "q" ∷ codes "h" ∷ codes "p0" ∷ codes "X" ∷ codes "b" ∷ codes "c" ∷ codes "Y" ∷ codes "_1" ∷ codes "Z" ∷ codes "a" ∷ codes "_" ∷ codes "n1" ∷ [])) 3
    ≡ codes "% stuck 1\n% query 1: 0 answers, 0 cut, 1 stuck\nX = _2, Y = _3\n% query 2: 1 answers, 0 cut, 0 stuck\n"
unfolding swap_name name_eq name_before unify ending canonical digits
sampled_valid_00029 = refl

sampled_valid_00031 : program_report (programs (signature (codes "id" ∷ codes "nm" ∷ codes "tv" ∷ []) (codes "exp" ∷ codes "ty" ∷ []) (constructor (codes "q") [] 0 ∷ constructor (codes "h") ((types.base 1) ∷ (types.base 0) ∷ (types.names 2) ∷ []) 0 ∷ constructor (codes "g") ((types.base 1) ∷ (types.pair (types.base 0) (types.base 1)) ∷ []) 0 ∷ constructor (codes "s") ((types.names 2) ∷ []) 1 ∷ constructor (codes "z") ((types.abs 0 (types.base 0)) ∷ []) 1 ∷ []) (((types.base 1) ∷ (types.base 1) ∷ (types.list (types.names 0)) ∷ []) ∷ ((types.abs 1 (types.abs 1 (types.base 1))) ∷ []) ∷ (types.unit ∷ []) ∷ [])) ((clause 0 ((app 6 (abs (n 0 0) (v 1))) ∷ (v 2) ∷ (app 0 unit) ∷ []) goals.succeed (named 0 (codes "b") ∷ variable (types.base 0) (codes "X") ∷ variable (types.base 1) (codes "Y") ∷ []) ∷ clause 0 ((v 0) ∷ (app 6 (v 1)) ∷ (app 0 unit) ∷ []) goals.succeed (variable (types.base 1) (codes "X") ∷ variable (types.abs 0 (types.base 0)) (codes "Y") ∷ []) ∷ []) ∷ (clause 1 ((abs (n 1 0) (v 1)) ∷ []) goals.succeed (named 1 (codes "m") ∷ variable (types.abs 1 (types.base 1)) (codes "X") ∷ []) ∷ []) ∷ (clause 2 (unit ∷ []) (goals.atom 2 (unit ∷ [])) [] ∷ []) ∷ []) (query (goals.both (goals.atom 0 ((app 6 (abs (n 0 0) (app 2 unit))) ∷ (v 1) ∷ (app 0 unit) ∷ [])) (goals.both (goals.atom 2 (unit ∷ [])) (goals.atom 2 (unit ∷ [])))) (named 0 (codes "a") ∷ variable (types.base 1) (codes "X") ∷ []) ∷ query (goals.both (goals.atom 2 ((v 0) ∷ [])) (goals.both (goals.atom 0 ((app 6 (abs (n 0 1) (v 2))) ∷ (app 5 (name (n 2 3))) ∷ (app 1 (pair (susp (swap_of (n 0 4) (n 0 1) ∷ []) (record { num = 5 })) (susp (swap_of (n 0 4) (n 0 1) ∷ []) (record { num = 6 })))) ∷ [])) (goals.equal (name (n 2 7)) (name (n 2 3))))) (variable types.unit (codes "X") ∷ named 0 (codes "n1") ∷ variable (types.base 0) (codes "Y") ∷ named 2 (codes "u") ∷ named 0 (codes "b") ∷ variable (types.names 0) (codes "_1") ∷ variable (types.list (types.names 0)) (codes "Z") ∷ named 2 (codes "w") ∷ []) ∷ []) (codes "id" ∷ codes "nm" ∷ codes "tv" ∷ codes "exp" ∷ codes "ty" ∷ codes "q" ∷ codes "h" ∷ codes "g" ∷ codes "s" ∷ codes "z" ∷ codes "p0" ∷ codes "p1" ∷ codes "p2" ∷ codes "m" ∷ codes "X" ∷ codes "b" ∷ codes "Y" ∷ codes "a" ∷ codes "n1" ∷ codes "u" ∷ codes "_1" ∷ codes "Z" ∷ codes "w" ∷ [])) 2
    ≡ codes "% cut 2\n% query 1: 0 answers, 2 cut, 0 stuck\n% cut 1\n% query 2: 0 answers, 1 cut, 0 stuck\n"
unfolding swap_name name_eq name_before unify ending canonical digits
sampled_valid_00031 = refl

sampled_valid_00032 : program_report (programs (signature (codes "id" ∷ []) (codes "exp" ∷ codes "ty" ∷ []) (constructor (codes "q") [] 0 ∷ constructor (codes "f") ((types.list (types.pair (types.base 1) (types.base 0))) ∷ (types.base 1) ∷ []) 0 ∷ constructor (codes "s") [] 1 ∷ constructor (codes "z") ((types.pair (types.base 1) (types.base 0)) ∷ (types.names 0) ∷ []) 1 ∷ constructor (codes "g") ((types.names 0) ∷ types.unit ∷ []) 1 ∷ []) (((types.pair (types.base 1) (types.abs 0 (types.base 0))) ∷ (types.names 0) ∷ (types.abs 0 (types.base 1)) ∷ []) ∷ [] ∷ [])) ((clause 0 ((v 0) ∷ (v 1) ∷ (abs (n 0 2) (app 5 (pair (v 3) (v 4)))) ∷ []) (goals.both (goals.fresh (name (n 0 2)) (v 0)) (goals.both (goals.fresh (name (n 0 2)) (v 1)) (goals.both (goals.fresh (name (n 0 2)) (v 3)) (goals.both (goals.fresh (name (n 0 2)) (v 4)) (goals.both (goals.equal (v 5) (v 5)) (goals.atom 0 ((pair (v 5) (v 6)) ∷ (v 1) ∷ (v 7) ∷ []))))))) (variable (types.pair (types.base 1) (types.abs 0 (types.base 0))) (codes "X") ∷ variable (types.names 0) (codes "Y") ∷ named 0 (codes "b") ∷ variable (types.pair (types.base 1) (types.base 0)) (codes "_1") ∷ variable (types.names 0) (codes "Z") ∷ variable (types.base 1) (codes "U") ∷ variable (types.abs 0 (types.base 0)) (codes "_") ∷ variable (types.abs 0 (types.base 1)) (codes "_") ∷ []) ∷ []) ∷ [] ∷ []) (query (goals.both (goals.either (goals.both (goals.atom 1 []) (goals.fresh (v 0) (app 3 (pair (v 1) (v 2))))) (goals.both (goals.fresh (name (n 0 3)) (app 4 unit)) (goals.equal (name (n 0 4)) (name (n 0 3))))) (goals.atom 1 [])) (variable (types.names 0) (codes "X") ∷ variable (types.list (types.pair (types.base 1) (types.base 0))) (codes "Y") ∷ variable (types.base 1) (codes "_1") ∷ named 0 (codes "a") ∷ named 0 (codes "n1") ∷ []) ∷ query (goals.fresh (name (n 0 0)) (name (n 0 1))) (named 0 (codes "a") ∷ named 0 (codes "n1") ∷ []) ∷ []) (codes "id" ∷ codes "exp" ∷ codes "ty" ∷ codes "q" ∷ codes "f" ∷ codes "s" ∷ codes "z" ∷ codes "g" ∷ codes "p0" ∷ codes "p1" ∷ codes "X" ∷ codes "Y" ∷ codes "b" ∷ codes "_1" ∷ codes "Z" ∷ codes "U" ∷ codes "_" ∷ codes "a" ∷ codes "n1" ∷ [])) 3
    ≡ codes "% query 1: 0 answers, 0 cut, 0 stuck\nyes\n% query 2: 1 answers, 0 cut, 0 stuck\n"
unfolding swap_name name_eq name_before unify ending canonical digits
sampled_valid_00032 = refl

sampled_valid_00033 : program_report (programs (signature (codes "id" ∷ codes "nm" ∷ []) (codes "exp" ∷ codes "ty" ∷ []) (constructor (codes "g") [] 0 ∷ constructor (codes "f") ((types.base 1) ∷ []) 0 ∷ constructor (codes "z") ((types.base 1) ∷ []) 0 ∷ constructor (codes "h") [] 1 ∷ constructor (codes "s") ((types.pair (types.pair (types.base 0) (types.base 1)) (types.base 0)) ∷ (types.base 1) ∷ []) 1 ∷ constructor (codes "q") ((types.list (types.names 1)) ∷ []) 1 ∷ []) ([] ∷ ((types.names 1) ∷ (types.base 0) ∷ []) ∷ [])) ((clause 0 [] goals.succeed [] ∷ clause 0 [] (goals.atom 0 []) [] ∷ clause 0 [] goals.succeed [] ∷ clause 0 [] (goals.equal (app 5 unit) (app 6 (pair (v 0) (v 1)))) (variable (types.pair (types.pair (types.base 0) (types.base 1)) (types.base 0)) (codes "X") ∷ variable (types.base 1) (codes "Y") ∷ []) ∷ []) ∷ (clause 1 ((v 0) ∷ (v 1) ∷ []) goals.succeed (variable (types.names 1) (codes "X") ∷ variable (types.base 0) (codes "Y") ∷ []) ∷ clause 1 ((v 0) ∷ (app 3 (v 1)) ∷ []) (goals.atom 1 ((v 0) ∷ (app 2 unit) ∷ [])) (variable (types.names 1) (codes "X") ∷ variable (types.base 1) (codes "Y") ∷ []) ∷ clause 1 ((v 0) ∷ (v 1) ∷ []) (goals.equal (app 1 (pair (v 1) (app 0 unit))) (app 1 (pair (app 2 unit) (app 0 unit)))) (variable (types.names 1) (codes "X") ∷ variable (types.base 0) (codes "Y") ∷ []) ∷ []) ∷ []) (query (goals.both (goals.atom 1 ((name (n 1 0)) ∷ (v 1) ∷ [])) (goals.either (goals.equal (app 0 unit) (app 1 (pair (app 6 (pair (pair (v 2) (v 1)) (v 3))) (app 0 unit)))) (goals.both (goals.atom 0 []) (goals.atom 0 [])))) (named 1 (codes "k") ∷ variable (types.base 0) (codes "X") ∷ variable (types.pair (types.base 0) (types.base 1)) (codes "Y") ∷ variable (types.base 1) (codes "_1") ∷ []) ∷ query (goals.both (goals.atom 1 ((name (n 1 0)) ∷ (app 3 (v 1)) ∷ [])) (goals.atom 0 [])) (named 1 (codes "m") ∷ variable (types.base 1) (codes "X") ∷ []) ∷ []) (codes "id" ∷ codes "nm" ∷ codes "exp" ∷ codes "ty" ∷ codes "g" ∷ codes "f" ∷ codes "z" ∷ codes "h" ∷ codes "s" ∷ codes "q" ∷ codes "p0" ∷ codes "p1" ∷ codes "X" ∷ codes "Y" ∷ codes "k" ∷ codes "_1" ∷ codes "m" ∷ [])) 0
    ≡ codes "% cut 1\n% query 1: 0 answers, 1 cut, 0 stuck\n% cut 1\n% query 2: 0 answers, 1 cut, 0 stuck\n"
unfolding swap_name name_eq name_before unify ending canonical digits
sampled_valid_00033 = refl

sampled_valid_00034 : program_report (programs (signature (codes "id" ∷ []) (codes "exp" ∷ codes "ty" ∷ []) (constructor (codes "var") ((types.names 0) ∷ []) 0 ∷ constructor (codes "app") ((types.base 0) ∷ (types.base 0) ∷ []) 0 ∷ constructor (codes "lam") ((types.abs 0 (types.base 0)) ∷ []) 0 ∷ constructor (codes "o") [] 1 ∷ constructor (codes "arr") ((types.base 1) ∷ (types.base 1) ∷ []) 1 ∷ []) (((types.pair (types.names 0) (types.base 1)) ∷ (types.list (types.pair (types.names 0) (types.base 1))) ∷ []) ∷ ((types.list (types.pair (types.names 0) (types.base 1))) ∷ (types.base 0) ∷ (types.base 1) ∷ []) ∷ [])) ((clause 0 ((v 0) ∷ (app 1 (pair (v 0) (v 1))) ∷ []) goals.succeed (variable (types.pair (types.names 0) (types.base 1)) (codes "P") ∷ variable (types.list (types.pair (types.names 0) (types.base 1))) (codes "L") ∷ []) ∷ clause 0 ((v 0) ∷ (app 1 (pair (v 1) (v 2))) ∷ []) (goals.atom 0 ((v 0) ∷ (v 2) ∷ [])) (variable (types.pair (types.names 0) (types.base 1)) (codes "P") ∷ variable (types.pair (types.names 0) (types.base 1)) (codes "Q") ∷ variable (types.list (types.pair (types.names 0) (types.base 1))) (codes "L") ∷ []) ∷ []) ∷ (clause 1 ((v 0) ∷ (app 2 (v 1)) ∷ (v 2) ∷ []) (goals.atom 0 ((pair (v 1) (v 2)) ∷ (v 0) ∷ [])) (variable (types.list (types.pair (types.names 0) (types.base 1))) (codes "G") ∷ variable (types.names 0) (codes "X") ∷ variable (types.base 1) (codes "T") ∷ []) ∷ clause 1 ((v 0) ∷ (app 3 (pair (v 1) (v 2))) ∷ (v 3) ∷ []) (goals.both (goals.atom 1 ((v 0) ∷ (v 1) ∷ (app 6 (pair (v 4) (v 3))) ∷ [])) (goals.atom 1 ((v 0) ∷ (v 2) ∷ (v 4) ∷ []))) (variable (types.list (types.pair (types.names 0) (types.base 1))) (codes "G") ∷ variable (types.base 0) (codes "M") ∷ variable (types.base 0) (codes "N") ∷ variable (types.base 1) (codes "U") ∷ variable (types.base 1) (codes "T") ∷ []) ∷ clause 1 ((v 0) ∷ (app 4 (abs (n 0 1) (v 2))) ∷ (app 6 (pair (v 3) (v 4))) ∷ []) (goals.both (goals.fresh (name (n 0 1)) (v 0)) (goals.atom 1 ((app 1 (pair (pair (name (n 0 1)) (v 3)) (v 0))) ∷ (v 2) ∷ (v 4) ∷ []))) (variable (types.list (types.pair (types.names 0) (types.base 1))) (codes "G") ∷ named 0 (codes "x") ∷ variable (types.base 0) (codes "M") ∷ variable (types.base 1) (codes "T") ∷ variable (types.base 1) (codes "U") ∷ []) ∷ []) ∷ []) (query (goals.atom 0 ((pair (name (n 0 1)) (susp (swap_of (n 0 2) (n 0 2) ∷ []) (record { num = 3 }))) ∷ (app 1 (pair (v 4) (app 1 (pair (v 4) (v 5))))) ∷ [])) (named 0 (codes "b") ∷ named 0 (codes "n1") ∷ named 0 (codes "a") ∷ variable (types.base 1) (codes "X") ∷ variable (types.pair (types.names 0) (types.base 1)) (codes "Y") ∷ variable (types.list (types.pair (types.names 0) (types.base 1))) (codes "_1") ∷ []) ∷ query (goals.atom 1 ((app 1 (pair (v 0) (app 1 (pair (v 0) (app 0 unit))))) ∷ (app 3 (pair (app 3 (pair (v 1) (v 2))) (app 2 (v 3)))) ∷ (app 5 unit) ∷ [])) (variable (types.pair (types.names 0) (types.base 1)) (codes "X") ∷ variable (types.base 0) (codes "Y") ∷ variable (types.base 0) (codes "_1") ∷ variable (types.names 0) (codes "Z") ∷ []) ∷ []) (codes "id" ∷ codes "exp" ∷ codes "var" ∷ codes "app" ∷ codes "lam" ∷ codes "ty" ∷ codes "o" ∷ codes "arr" ∷ codes "mem" ∷ codes "P" ∷ codes "L" ∷ codes "Q" ∷ codes "tc" ∷ codes "G" ∷ codes "X" ∷ codes "T" ∷ codes "M" ∷ codes "N" ∷ codes "U" ∷ codes "x" ∷ codes "b" ∷ codes "n1" ∷ codes "a" ∷ codes "Y" ∷ codes "_1" ∷ codes "Z" ∷ [])) 4
    ≡ codes "X = _2, Y = (n1,_2), _1 = _3\nX = _2, Y = (n1,_2), _1 = _3\nX = _2, Y = _3, _1 = [(n1,_2)|_4]\nX = _2, Y = _3, _1 = [_4,(n1,_2)|_5]\n% cut 1\n% query 1: 4 answers, 1 cut, 0 stuck\n% cut 14\n% query 2: 0 answers, 14 cut, 0 stuck\n"
unfolding swap_name name_eq name_before unify ending canonical digits
sampled_valid_00034 = refl

sampled_valid_00037 : program_report (programs (signature (codes "id" ∷ []) (codes "exp" ∷ []) (constructor (codes "s") ((types.names 0) ∷ []) 0 ∷ []) ((types.unit ∷ []) ∷ [])) ((clause 0 ((v 0) ∷ []) goals.succeed (variable types.unit (codes "X") ∷ []) ∷ clause 0 ((v 0) ∷ []) goals.succeed (variable types.unit (codes "X") ∷ []) ∷ clause 0 ((v 0) ∷ []) goals.succeed (variable types.unit (codes "X") ∷ []) ∷ clause 0 (unit ∷ []) goals.succeed [] ∷ []) ∷ []) (query (goals.both (goals.atom 0 (unit ∷ [])) (goals.both (goals.atom 0 (unit ∷ [])) (goals.atom 0 (unit ∷ [])))) (named 0 (codes "a") ∷ named 0 (codes "n1") ∷ []) ∷ query (goals.equal (app 2 (name (n 0 0))) (app 2 (v 1))) (named 0 (codes "b") ∷ variable (types.names 0) (codes "X") ∷ []) ∷ []) (codes "id" ∷ codes "exp" ∷ codes "s" ∷ codes "p0" ∷ codes "X" ∷ codes "a" ∷ codes "n1" ∷ codes "b" ∷ [])) 4
    ≡ codes "yes\nyes\nyes\nyes\nyes\nyes\nyes\nyes\nyes\nyes\nyes\nyes\nyes\nyes\nyes\nyes\nyes\nyes\nyes\nyes\nyes\nyes\nyes\nyes\nyes\nyes\nyes\nyes\nyes\nyes\nyes\nyes\nyes\nyes\nyes\nyes\nyes\nyes\nyes\nyes\nyes\nyes\nyes\nyes\nyes\nyes\nyes\nyes\nyes\nyes\nyes\nyes\nyes\nyes\nyes\nyes\nyes\nyes\nyes\nyes\nyes\nyes\nyes\nyes\n% query 1: 64 answers, 0 cut, 0 stuck\nX = b\n% query 2: 1 answers, 0 cut, 0 stuck\n"
unfolding swap_name name_eq name_before unify ending canonical digits
sampled_valid_00037 = refl

sampled_valid_00038 : program_report (programs (signature (codes "id" ∷ codes "nm" ∷ []) (codes "exp" ∷ []) (constructor (codes "var") ((types.names 0) ∷ []) 0 ∷ constructor (codes "lam") ((types.abs 0 (types.base 0)) ∷ []) 0 ∷ constructor (codes "con") ((types.names 1) ∷ []) 0 ∷ constructor (codes "mu") ((types.abs 1 (types.base 0)) ∷ []) 0 ∷ []) (((types.list (types.pair (types.base 0) (types.base 0))) ∷ (types.base 0) ∷ []) ∷ ((types.base 0) ∷ []) ∷ [])) ((clause 0 ((app 0 unit) ∷ (v 0) ∷ []) goals.succeed (variable (types.base 0) (codes "X") ∷ []) ∷ []) ∷ [] ∷ []) (query (goals.both (goals.atom 0 ((app 0 unit) ∷ (app 5 (v 0)) ∷ [])) (goals.both (goals.atom 1 ((v 1) ∷ [])) (goals.equal (v 2) (pair (app 3 (v 3)) (app 4 (name (n 1 4))))))) (variable (types.abs 1 (types.base 0)) (codes "X") ∷ variable (types.base 0) (codes "Y") ∷ variable (types.pair (types.base 0) (types.base 0)) (codes "_1") ∷ variable (types.abs 0 (types.base 0)) (codes "Z") ∷ named 1 (codes "n2") ∷ []) ∷ query (goals.atom 1 ((app 5 (v 0)) ∷ [])) (variable (types.abs 1 (types.base 0)) (codes "X") ∷ []) ∷ []) (codes "id" ∷ codes "nm" ∷ codes "exp" ∷ codes "var" ∷ codes "lam" ∷ codes "con" ∷ codes "mu" ∷ codes "p0" ∷ codes "p1" ∷ codes "X" ∷ codes "Y" ∷ codes "_1" ∷ codes "Z" ∷ codes "n2" ∷ [])) 2
    ≡ codes "% query 1: 0 answers, 0 cut, 0 stuck\n% query 2: 0 answers, 0 cut, 0 stuck\n"
unfolding swap_name name_eq name_before unify ending canonical digits
sampled_valid_00038 = refl

sampled_valid_00039 : program_report (programs (signature (codes "id" ∷ codes "nm" ∷ []) (codes "exp" ∷ []) (constructor (codes "var") ((types.names 0) ∷ []) 0 ∷ constructor (codes "lam") ((types.abs 0 (types.base 0)) ∷ []) 0 ∷ constructor (codes "con") ((types.names 1) ∷ []) 0 ∷ constructor (codes "mu") ((types.abs 1 (types.base 0)) ∷ []) 0 ∷ []) (((types.names 1) ∷ (types.pair (types.pair (types.base 0) (types.base 0)) (types.names 1)) ∷ (types.pair (types.base 0) (types.base 0)) ∷ []) ∷ [] ∷ ((types.list (types.base 0)) ∷ []) ∷ [])) ((clause 0 ((v 0) ∷ (pair (pair (v 1) (v 1)) (v 0)) ∷ (pair (app 2 (v 2)) (app 3 (abs (n 0 3) (v 4)))) ∷ []) (goals.both (goals.fresh (name (n 0 3)) (v 1)) (goals.both (goals.fresh (name (n 0 3)) (v 0)) (goals.both (goals.fresh (name (n 0 3)) (v 2)) (goals.fresh (name (n 0 3)) (v 4))))) (variable (types.names 1) (codes "X") ∷ variable (types.base 0) (codes "Y") ∷ variable (types.names 0) (codes "_1") ∷ named 0 (codes "b") ∷ variable (types.base 0) (codes "Z") ∷ []) ∷ []) ∷ [] ∷ (clause 2 ((v 0) ∷ []) goals.succeed (variable (types.list (types.base 0)) (codes "_") ∷ []) ∷ clause 2 ((app 1 (pair (app 2 (v 0)) (app 1 (pair (v 1) (v 2))))) ∷ []) (goals.equal (v 2) (app 1 (pair (v 3) (v 2)))) (variable (types.names 0) (codes "X") ∷ variable (types.base 0) (codes "Y") ∷ variable (types.list (types.base 0)) (codes "_1") ∷ variable (types.base 0) (codes "Z") ∷ []) ∷ []) ∷ []) (query (goals.atom 0 ((name (n 1 0)) ∷ (pair (v 1) (name (n 1 0))) ∷ (pair (app 4 (v 2)) (app 5 (v 3))) ∷ [])) (named 1 (codes "n2") ∷ variable (types.pair (types.base 0) (types.base 0)) (codes "X") ∷ variable (types.names 1) (codes "Y") ∷ variable (types.abs 1 (types.base 0)) (codes "_1") ∷ []) ∷ query (goals.both (goals.atom 1 []) (goals.atom 2 ((app 1 (pair (v 0) (app 1 (pair (v 0) (v 1))))) ∷ []))) (variable (types.base 0) (codes "X") ∷ variable (types.list (types.base 0)) (codes "Y") ∷ []) ∷ []) (codes "id" ∷ codes "nm" ∷ codes "exp" ∷ codes "var" ∷ codes "lam" ∷ codes "con" ∷ codes "mu" ∷ codes "p0" ∷ codes "p1" ∷ codes "p2" ∷ codes "_" ∷ codes "X" ∷ codes "Y" ∷ codes "_1" ∷ codes "Z" ∷ codes "b" ∷ codes "n2" ∷ [])) 2
    ≡ codes "% query 1: 0 answers, 0 cut, 0 stuck\n% query 2: 0 answers, 0 cut, 0 stuck\n"
unfolding swap_name name_eq name_before unify ending canonical digits
sampled_valid_00039 = refl
