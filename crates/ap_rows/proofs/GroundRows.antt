-- Worked rows of ground proofs: what is derivable in nominal logic, and two proofs that are none.
use Rattle.std.proofs.Common.{◌≡◌, true, false, [], ◌∷◌, refl, arith}
use Rattle.std.specs.Prelude.{codes}
use Rattle.ap_defs.specs.Permutations.{name_eq}
use Rattle.ap_defs.specs.Terms.{app, name, unit}
use Rattle.ap_defs.specs.Types as types
use Rattle.ap_defs.specs.Types.{NominalSignature}
use Rattle.ap_defs.specs.Goals as goals
use Rattle.ap_defs.specs.Goals.{Clauses, NominalClause, NominalGoal, NominalProgram, NominalQuery}
use Rattle.ap_defs.specs.Derivations as nodes
use Rattle.ap_defs.specs.GroundProofs.{Environment, IsDerivable, IsFresh, IsNew, IsValid}
use Rattle.ap_rows.proofs.Programs.{clause, constructor, n, named, program, query, signature, v, variable}

-- natural numbers, which of them are even, and names that are apart
abbrev pub even_signature : NominalSignature
even_signature = signature (codes "id" ∷ []) (codes "nat" ∷ []) (constructor (codes "z") [] 0 ∷ constructor (codes "s") (types.base 0 ∷ []) 0 ∷ [])
    ((types.base 0 ∷ []) ∷ (types.names 0 ∷ types.names 0 ∷ []) ∷ [])

-- `even(z).`
abbrev pub zero_is_even : NominalClause
zero_is_even = clause 0 (app 2 unit ∷ []) goals.succeed []

-- `even(s(s(X))) :- even(X).`
abbrev pub two_more_is_even : NominalClause
two_more_is_even = clause 0 (app 3 (app 3 (v 0)) ∷ []) (goals.atom 0 (v 0 ∷ [])) (variable (types.base 0) (codes "X") ∷ [])

-- `apart(X, Y) :- X # Y.`
abbrev pub names_are_apart : NominalClause
names_are_apart = clause 1 (v 0 ∷ v 1 ∷ []) (goals.fresh (v 0) (v 1)) (variable (types.names 0) (codes "X") ∷ variable (types.names 0) (codes "Y") ∷ [])

abbrev pub even_clauses : Clauses
even_clauses = (zero_is_even ∷ two_more_is_even ∷ []) ∷ (names_are_apart ∷ []) ∷ []

-- `?- even(s(s(X))).`
abbrev pub even_query : NominalQuery
even_query = query (goals.atom 0 (app 3 (app 3 (v 0)) ∷ [])) (variable (types.base 0) (codes "X") ∷ [])

-- `?- apart(a, b).`
abbrev pub apart_query : NominalQuery
apart_query = query (goals.atom 1 (name (n 0 0) ∷ name (n 0 1) ∷ [])) (named 0 (codes "a") ∷ named 0 (codes "b") ∷ [])

abbrev pub even_program : NominalProgram
even_program = program even_signature even_clauses even_query []

-- it is derivable with `z` for X, by a proof of height 2
two_is_even : IsDerivable even_program even_query (app 2 unit ∷ []) 2
two_is_even = (
  nodes.atom 2 [] (app 2 unit ∷ []) (nodes.atom 1 [] [] nodes.succeed),
  (two_more_is_even, refl, record { sorts = tt; different = tt; types = ((refl, tt), tt) }, (refl, tt), (zero_is_even, refl, record { sorts = tt; different = tt; types = tt }, (refl, tt), tt)),
  omega arith,
)

-- different names are apart
names_apart : IsDerivable even_program apart_query [] 1
unfolding name_eq
names_apart = (
  nodes.atom 1 [] (name (n 0 0) ∷ name (n 0 1) ∷ []) nodes.fresh,
  (names_are_apart, refl, record { sorts = tt; different = tt; types = (refl, (refl, tt)) }, (refl, (refl, tt)), refl),
  omega arith,
)

-- and none from itself
no_name_apart : IsFresh (name (n 0 0)) (name (n 0 0)) → ⊥
unfolding name_eq
no_name_apart h = absurd (let e : false ≡ true = h in cc)

-- `new x (x # X)`, where X stands for the name `b`
abbrev new_goal : NominalGoal
new_goal = goals.new (n 0 0) (goals.fresh (name (n 0 0)) (v 1))

abbrev with_b : Environment
with_b = record { names = λ a. a; terms = λ x. name (n 0 2) }

-- any other name serves
a_new_name : IsValid even_program [] (nodes.new (n 0 3) nodes.fresh) new_goal with_b
unfolding name_eq
a_new_name = (refl, record { apart = λ b h. absurd (let e : false ≡ true = h in cc); fresh_for = λ x h. refl }, refl)

-- `b` does not
no_new_name : IsNew (n 0 2) new_goal with_b → ⊥
unfolding name_eq
no_new_name h = absurd (let e : false ≡ true = h.fresh_for (record { num = 1 }) refl in cc)
