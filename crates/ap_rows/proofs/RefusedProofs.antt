-- Worked rows of ground proofs that are none: each differs from a valid one in one thing.
use Rattle.std.proofs.Common.{subst, ◌≡◌, ◌≤◌, zero, suc, true, false, [], ◌∷◌, map, refl, sym, arith}
use Rattle.std.specs.Prelude.{Some, None, codes}
use Rattle.ap_defs.specs.Permutations.{name_eq}
use Rattle.ap_defs.specs.Terms.{app, name, unit}
use Rattle.ap_defs.specs.Types as types
use Rattle.ap_defs.specs.Types.{NominalSignature}
use Rattle.ap_defs.specs.Goals as goals
use Rattle.ap_defs.specs.Goals.{NominalClause, NominalGoal, NominalProgram}
use Rattle.ap_defs.specs.Derivations as nodes
use Rattle.ap_defs.specs.Derivations.{GroundProof, height}
use Rattle.ap_defs.specs.GroundProofs.{AlphaEach, Environment, Instantiates, IsDerivable, IsValid, environment, instance}
use Rattle.ap_defs.specs.Renaming.{local_names}
use Rattle.ap_rows.proofs.GroundRows.{even_program, even_query, names_are_apart, two_more_is_even, zero_is_even}
use Rattle.ap_rows.proofs.Programs.{clause, n, named, program, query, signature, v}

-- an environment in which each name stands for itself
abbrev plain : Environment
plain = record { names = λ a. a; terms = λ x. unit }

the_clause : (c d : NominalClause) → Some c ≡ Some d → c ≡ d
the_clause c d h = cc

-- `even(s(z))` isn't proved by the clause `even(z)`: the head's argument differs
head_differs : IsValid even_program [] (nodes.atom 1 [] [] nodes.succeed) (goals.atom 0 (app 3 (app 2 unit) ∷ [])) plain → ⊥
head_differs h =
    let same = the_clause zero_is_even h.0 h.1 in
    let heads = subst (λ c. AlphaEach (app 3 (app 2 unit) ∷ []) (map (instance (environment c.locals [] [])) c.args)) (sym same) h.3 in
    absurd (let e : false ≡ true = heads.0 in cc)

-- the predicate has no third clause
no_third_clause : IsValid even_program [] (nodes.atom 3 [] [] nodes.succeed) (goals.atom 0 (app 2 unit ∷ [])) plain → ⊥
no_third_clause h = absurd (let e : None ≡ Some h.0 = h.1 in cc)

-- `apart(X, Y)` isn't proved with a number for X
ill_typed : IsValid even_program [] (nodes.atom 1 [] (app 2 unit ∷ name (n 0 1) ∷ []) nodes.fresh) (goals.atom 1 (app 2 unit ∷ name (n 0 1) ∷ [])) plain → ⊥
ill_typed h =
    let same = the_clause names_are_apart h.0 h.1 in
    let node = subst (λ c. Instantiates even_program.signature.constructors c.locals [] (app 2 unit ∷ name (n 0 1) ∷ [])) (sym same) h.2 in
    absurd node.types.0

-- `two :- a # b.`
abbrev two_names : NominalClause
two_names = clause 0 [] (goals.fresh (name (n 0 0)) (name (n 0 1))) (named 0 (codes "a") ∷ named 0 (codes "b") ∷ [])

abbrev two_program : NominalProgram
two_program = program (signature (codes "id" ∷ []) [] [] ([] ∷ [])) ((two_names ∷ []) ∷ []) (query (goals.atom 0 []) []) []

-- both names of the clause by one
one_name_twice : IsValid two_program [] (nodes.atom 1 (n 0 7 ∷ n 0 7 ∷ []) [] nodes.fresh) (goals.atom 0 []) plain → ⊥
unfolding name_eq
one_name_twice h =
    let same = the_clause two_names h.0 h.1 in
    let node = subst (λ c. Instantiates two_program.signature.constructors c.locals (n 0 7 ∷ n 0 7 ∷ []) []) (sym same) h.2 in
    absurd (let e : true ≡ false = node.different.0 in cc)

-- `even(s(s(z)))` has no proof of height 1
abbrev even_two : Environment
even_two = environment even_query.locals (local_names 0 even_query.locals) (app 2 unit ∷ [])

above_one : (d : GroundProof) (e : Environment) → IsValid even_program (types.var (types.base 0) ∷ []) d two_more_is_even.body e → suc (height d) ≤ 1 → ⊥
above_one (nodes.atom k names gs d) e h low = absurd (omega (arith, low))
above_one nodes.equal e h low = h
above_one nodes.fresh e h low = h
above_one nodes.succeed e h low = h
above_one (nodes.both d f) e h low = h
above_one (nodes.left d) e h low = h
above_one (nodes.right d) e h low = h
above_one (nodes.exists g d) e h low = h
above_one (nodes.new c d) e h low = h

no_low_proof : (d : GroundProof) → IsValid even_program (types.var (types.base 0) ∷ []) d even_query.goal even_two → height d ≤ 1 → ⊥
no_low_proof (nodes.atom zero names gs d) h low = absurd (let e : None ≡ Some h.0 = h.1 in cc)
no_low_proof (nodes.atom (suc zero) names gs d) h low =
    let same = the_clause zero_is_even h.0 h.1 in
    let heads = subst (λ c. AlphaEach (app 3 (app 3 (app 2 unit)) ∷ []) (map (instance (environment c.locals names gs)) c.args)) (sym same) h.3 in
    absurd (let e : false ≡ true = heads.0 in cc)
no_low_proof (nodes.atom (suc (suc zero)) names gs d) h low =
    let same = the_clause two_more_is_even h.0 h.1 in
    let body = subst (λ c. IsValid even_program (map (λ l. l.kind) c.locals) d c.body (environment c.locals names gs)) (sym same) h.4 in
    above_one d (environment two_more_is_even.locals names gs) body low
no_low_proof (nodes.atom (suc (suc (suc k))) names gs d) h low = absurd (let e : None ≡ Some h.0 = h.1 in cc)
no_low_proof nodes.equal h low = h
no_low_proof nodes.fresh h low = h
no_low_proof nodes.succeed h low = h
no_low_proof (nodes.both d f) h low = h
no_low_proof (nodes.left d) h low = h
no_low_proof (nodes.right d) h low = h
no_low_proof (nodes.exists g d) h low = h
no_low_proof (nodes.new c d) h low = h

height_too_small : IsDerivable even_program even_query (app 2 unit ∷ []) 1 → ⊥
height_too_small h = no_low_proof h.0 h.1 h.2

-- `new x (x # a)` isn't proved with `a` for x
free_name_is_not_new : IsValid even_program [] (nodes.new (n 0 1) nodes.fresh) (goals.new (n 0 0) (goals.fresh (name (n 0 0)) (name (n 0 1)))) plain → ⊥
unfolding name_eq
free_name_is_not_new h = h.1.apart (n 0 1) refl refl

-- `exists X (X = X)` isn't proved with a number for X, where X is a name
exists_of_another_type : IsValid even_program (types.var (types.names 0) ∷ []) (nodes.exists (app 2 unit) nodes.equal) (goals.exists (record { num = 0 }) (goals.equal (v 0) (v 0))) plain → ⊥
exists_of_another_type h = absurd h.0
