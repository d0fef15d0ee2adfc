-- The uses in the answers of the first queries, one query after the other.
use Rattle.std.proofs.Common.{◌≡◌, ◌<◌, ◌+◌, ◌-◌, ℕ, zero, suc, List, [], ◌∷◌, ◌++◌, take, None, Some, length, slice_get, sym, ap, ap₂, ◌∙◌, arith}
use Rattle.std.proofs.lemmas.List.{append-nil, append_assoc}
use Rattle.ap_defs.specs.Goals.{Clauses, NominalQuery}
use Rattle.ap_derive.specs.Tables.{added_rows}
use Rattle.ap_derive.specs.Uses.{use_table}
use Rattle.ap_derive.proofs.UseLemmas.{sum_of_tables}
use Rattle.ap_query_proofs.specs.QueryUses.{uses_of_query}
use Rattle.ap_program_proofs.specs.ProgramUses.{uses_of_queries}
use Rattle.ap_query_proofs.proofs.PathLemmas.{query_there}

-- with one query more
next_uses : (program : Clauses) (depth : ℕ) (qs : List NominalQuery) (place : ℕ) (q : NominalQuery) → slice_get qs place ≡ Some q
    → uses_of_queries program depth (take (suc place) qs) ≡ uses_of_queries program depth (take place qs) ++ uses_of_query program depth q
next_uses program depth [] place q h = absurd (let e : None ≡ Some q = h in cc)
next_uses program depth (r ∷ qs) zero q h =
    let e : Some r ≡ Some q = h in
    let same : r ≡ q = cc in append-nil (uses_of_query program depth r) ∙ ap (uses_of_query program depth) same
next_uses program depth (r ∷ qs) (suc place) q h =
    ap (λ us. uses_of_query program depth r ++ us) (next_uses program depth qs place q h)
    ∙ sym (append_assoc (uses_of_query program depth r) (uses_of_queries program depth (take place qs)) (uses_of_query program depth q))

pub one_more : (program : Clauses) (depth : ℕ) (qs : List NominalQuery) (place : ℕ) (old more new : List (List ℕ)) → place < length qs
    → ((q : NominalQuery) → slice_get qs (place + 1 - 1) ≡ Some q → more ≡ use_table program (uses_of_query program depth q)) → new ≡ added_rows old more
    → old ≡ use_table program (uses_of_queries program depth (take place qs)) → new ≡ use_table program (uses_of_queries program depth (take (place + 1) qs))
one_more program depth qs place old more new l counted sum before =
    let here : place + 1 - 1 ≡ place = omega arith in
    let next : place + 1 ≡ suc place = omega arith in
    let at = query_there qs place l in
    rw next (
    sum ∙ ap₂ added_rows before (counted at.0 (rw here at.1))
    ∙ sum_of_tables program (uses_of_queries program depth (take place qs)) (uses_of_query program depth at.0)
    ∙ ap (use_table program) (sym (next_uses program depth qs place at.0 at.1)))
