-- The derivations of a query's answers by their paths.
use Rattle.std.specs.Prelude.{◌≡◌, ◌-◌, ℕ, List, [], ◌∷◌, Option, None, Some, flat_map, slice_get}
use Rattle.ap_defs.specs.Answers.{NominalOut, cut, derivation_in, found, stuck}
use Rattle.ap_defs.specs.Derivations.{NominalDerivation, succeed}
use Rattle.ap_defs.specs.Goals.{Clauses, NominalQuery}
use Rattle.ap_backchain.specs.Problems.{HasQuery, clauses_in, queries_in}
use Rattle.ap_backchain.specs.declared.problem.Problem.{Problem}
use Rattle.ap_checks.specs.Traces.{Traced, traced_query}
use Rattle.ap_derive.specs.Derived.{LeadsOn}

-- the path of an output, if it is an answer
abbrev pub answer_path : NominalOut → List (List ℕ)
answer_path (found path a) = path ∷ []
answer_path (cut path) = []
answer_path (stuck path) = []

-- the paths of the answers among outputs
abbrev pub answer_paths : List NominalOut → List (List ℕ)
answer_paths os = flat_map answer_path os

-- the path of a problem leads to an answer
pub record LeadsToAnswer (p : Problem) (path : List ℕ) : Type 0 where
  pub query : HasQuery p
  pub q : NominalQuery
  pub asked : slice_get (queries_in p) (p.query - 1) ≡ Some q
  pub leads : LeadsOn (clauses_in p) p.depth q path

-- the derivation of what is traced, and one of nothing where nothing is
abbrev pub derivation_traced : Option Traced → NominalDerivation
derivation_traced None = succeed
derivation_traced (Some r) = derivation_in r.state r.derivation

abbrev pub derivation_along : Clauses → ℕ → Option NominalQuery → List ℕ → NominalDerivation
derivation_along program depth None path = succeed
derivation_along program depth (Some q) path = derivation_traced (traced_query program depth q path)

-- the derivation to which a path of a problem leads
abbrev pub derivation_of_path : Problem → List ℕ → NominalDerivation
derivation_of_path p = derivation_along (clauses_in p) p.depth (slice_get (queries_in p) (p.query - 1))
