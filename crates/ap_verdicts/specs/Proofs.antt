-- The answers of a program's queries, each with its derivation.
use Rattle.std.specs.Prelude.{ℕ, suc, List, [], ◌∷◌, ◌++◌, take}
use Rattle.ap_defs.specs.Answers.{answer_in, derivation_in}
use Rattle.ap_defs.specs.Goals.{Clauses, NominalProgram, NominalQuery}
use Rattle.ap_defs.specs.Resolution as search
use Rattle.ap_defs.specs.Resolution.{Output, solve_query}
use Rattle.ap_defs.specs.Types.{NominalLocal}
use Rattle.ap_paths.specs.declared.limits.Limit.{Limit}
use Rattle.ap_paths.specs.declared.limits.Limit.TheVariants as limits
use Rattle.ap_bundle.specs.Bundles.{NominalBundle, NominalProved}

-- the answer and the derivation of each state that was found, for the query with this number and these identifiers
abbrev pub proofs_among : ℕ → List NominalLocal → List Output → List NominalProved
proofs_among k locals [] = []
proofs_among k locals (search.found path s d ∷ os) =
    record { query = k; answer = answer_in locals s d; derivation = derivation_in s d } ∷ proofs_among k locals os
proofs_among k locals (search.cut path ∷ os) = proofs_among k locals os
proofs_among k locals (search.stuck path ∷ os) = proofs_among k locals os
proofs_among k locals (search.chose path c ∷ os) = proofs_among k locals os

-- those of the query with this number, to a depth
abbrev pub query_proofs : Clauses → ℕ → ℕ → NominalQuery → List NominalProved
query_proofs program depth k q = proofs_among k q.locals (solve_query program depth q)

-- those of queries that are numbered from k on
abbrev pub proofs_from : Clauses → ℕ → ℕ → List NominalQuery → List NominalProved
proofs_from program depth k [] = []
proofs_from program depth k (q ∷ qs) = query_proofs program depth k q ++ proofs_from program depth (suc k) qs

-- those of a program, query by query
abbrev pub program_proofs : ℕ → NominalProgram → List NominalProved
program_proofs depth p = proofs_from p.clauses depth 1 p.queries

-- a text with those of its program to a depth
abbrev pub proofs_bundle : ℕ → List ℕ → NominalProgram → NominalBundle
proofs_bundle depth text p = record { text = text; proved = program_proofs depth p }

-- those that are wanted: the first so many, or all
abbrev pub wanted_proofs : Limit → List NominalProved → List NominalProved
wanted_proofs limits.All ds = ds
wanted_proofs (limits.First n) ds = take n ds

-- those of queries that are numbered from k on, so many of each
abbrev pub limited_proofs_from : Clauses → ℕ → Limit → ℕ → List NominalQuery → List NominalProved
limited_proofs_from program depth limit k [] = []
limited_proofs_from program depth limit k (q ∷ qs) =
    wanted_proofs limit (query_proofs program depth k q) ++ limited_proofs_from program depth limit (suc k) qs

-- those of a program, query by query, so many of each
abbrev pub limited_proofs : ℕ → Limit → NominalProgram → List NominalProved
limited_proofs depth limit p = limited_proofs_from p.clauses depth limit 1 p.queries

-- a text with those
abbrev pub limited_bundle : ℕ → Limit → List ℕ → NominalProgram → NominalBundle
limited_bundle depth limit text p = record { text = text; proved = limited_proofs depth limit p }
