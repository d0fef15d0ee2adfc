-- Derivations by the paths of answers.
use Rattle.std.specs.Prelude.{ℕ, List, [], ◌∷◌, Option, None, Some}
use Rattle.ap_defs.specs.Answers.{NominalAnswer, NominalOut, cut, derivation_in, found, stuck}
use Rattle.ap_defs.specs.Goals.{Clauses, NominalQuery}
use Rattle.ap_bundle.specs.Bundles.{NominalProved}
use Rattle.ap_checks.specs.Traces.{Traced, traced_query}
use Rattle.ap_derive.specs.Derived.{LeadsOn}

-- an answer to the query with this number, with the derivation of what is traced
abbrev pub proof_by : ℕ → NominalAnswer → Traced → NominalProved
proof_by k a r = record { query = k; answer = a; derivation = derivation_in r.state r.derivation }

-- an answer to the query with this number, with the derivation to which its path leads
abbrev pub with_traced : ℕ → NominalAnswer → Option Traced → List NominalProved
with_traced k a None = []
with_traced k a (Some r) = proof_by k a r ∷ []

-- the same of an output, if it is an answer
abbrev pub proof_at : Clauses → ℕ → ℕ → NominalQuery → NominalOut → List NominalProved
proof_at program depth k q (found path a) = with_traced k a (traced_query program depth q path)
proof_at program depth k q (cut path) = []
proof_at program depth k q (stuck path) = []

-- the whole path of an output leads to a state, if it is an answer
abbrev pub IsLed : Clauses → ℕ → NominalQuery → NominalOut → Type 0
IsLed program depth q (found path a) = LeadsOn program depth q path
IsLed program depth q (cut path) = Unit {0}
IsLed program depth q (stuck path) = Unit {0}
