-- The answers of a program are those of its queries, one after the other.
use Rattle.std.proofs.Common.{◌≡◌, ◌<◌, ◌+◌, ◌-◌, ℕ, zero, suc, List, [], ◌∷◌, ◌++◌, Some, length, drop, slice_get, refl, sym, ap, ◌∙◌, arith}
use Rattle.std.proofs.lemmas.List.{append_assoc}
use Rattle.ap_defs.specs.Goals.{Clauses, NominalProgram, NominalQuery}
use Rattle.ap_paths.specs.declared.limits.Limit.{Limit}
use Rattle.ap_bundle.specs.Bundles.{NominalProved}
use Rattle.ap_verdicts.specs.Proofs.{limited_proofs, limited_proofs_from, query_proofs, wanted_proofs}

-- those of the queries from a place on are those of the query there, and those of the queries after it
from_place : (program : Clauses) (depth : ℕ) (limit : Limit) (k : ℕ) (qs : List NominalQuery) (place : ℕ) → place < length qs
    → (q : NominalQuery) × (slice_get qs place ≡ Some q)
    × (limited_proofs_from program depth limit (k + place) (drop place qs) ≡ wanted_proofs limit (query_proofs program depth (k + place) q) ++ limited_proofs_from program depth limit (k + suc place) (drop (suc place) qs))
from_place program depth limit k [] place l = absurd (omega arith)
from_place program depth limit k (q ∷ qs) zero l =
    let e : k + 0 ≡ k = omega arith in
    let f : k + 1 ≡ suc k = omega arith in (q, refl, rw e (rw f refl))
from_place program depth limit k (q ∷ qs) (suc place) l =
    let e : k + suc place ≡ suc k + place = omega arith in
    let f : k + suc (suc place) ≡ suc k + suc place = omega arith in
    let rest = from_place program depth limit (suc k) qs place (omega arith) in (rest.0, rest.1, rw e (rw f rest.2))

pub one_more : (p : NominalProgram) (depth : ℕ) (limit : Limit) (place : ℕ) (old new : List NominalProved) → place < length p.queries
    → ((q : NominalQuery) → slice_get p.queries (place + 1 - 1) ≡ Some q → new ≡ old ++ wanted_proofs limit (query_proofs p.clauses depth (place + 1) q))
    → old ++ limited_proofs_from p.clauses depth limit (1 + place) (drop place p.queries) ≡ limited_proofs depth limit p
    → new ++ limited_proofs_from p.clauses depth limit (1 + (place + 1)) (drop (place + 1) p.queries) ≡ limited_proofs depth limit p
one_more p depth limit place old new l grown before =
    let here : place + 1 - 1 ≡ place = omega arith in
    let next : place + 1 ≡ suc place = omega arith in
    let first : 1 + place ≡ suc place = omega arith in
    let at = from_place p.clauses depth limit 1 p.queries place l in
    let rest = limited_proofs_from p.clauses depth limit (1 + suc place) (drop (suc place) p.queries) in
    let made : new ≡ old ++ wanted_proofs limit (query_proofs p.clauses depth (suc place) at.0) = rw next at (grown at.0 (rw here at.1)) in
    let goes : limited_proofs_from p.clauses depth limit (1 + place) (drop place p.queries) ≡ wanted_proofs limit (query_proofs p.clauses depth (suc place) at.0) ++ rest = at.2 ∙ ap (λ n. wanted_proofs limit (query_proofs p.clauses depth n at.0) ++ rest) first in
    rw next (ap (λ xs. xs ++ rest) made ∙ append_assoc old (wanted_proofs limit (query_proofs p.clauses depth (suc place) at.0)) rest ∙ ap (λ xs. old ++ xs) (sym goes) ∙ before)
