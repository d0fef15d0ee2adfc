-- The outputs of a query by its number.
use Rattle.std.proofs.Common.{◌≡◌, ◌≤◌, ◌<◌, ◌-◌, ℕ, zero, suc, List, [], ◌∷◌, None, Some, length, slice_get, refl, sym, ap, ◌∙◌, arith}
use Rattle.ap_defs.specs.Answers.{NominalOut, query_outs}
use Rattle.ap_defs.specs.Goals.{NominalProgram, NominalQuery}
use Rattle.ap_checks.specs.Checks.{query_at}
use Rattle.ap_cover.specs.Covers.{outs_asked, outs_of_query}
use Rattle.ap_covering.specs.Searched.{HasSearched}
use Rattle.ap_covering.specs.declared.searched.Searched.{Searched}

none_first : (qs : List NominalQuery) → query_at qs 0 ≡ None
none_first [] = refl
none_first (q ∷ qs) = refl

none_high : (qs : List NominalQuery) (k : ℕ) → length qs < k → query_at qs k ≡ None
none_high [] k h = refl
none_high (q ∷ qs) zero h = refl
none_high (q ∷ qs) (suc zero) h = absurd (omega arith)
none_high (q ∷ qs) (suc (suc k)) h = none_high qs (suc k) (omega arith)

query_place : (qs : List NominalQuery) (place : ℕ) → query_at qs (suc place) ≡ slice_get qs place
query_place [] place = refl
query_place (q ∷ qs) zero = refl
query_place (q ∷ qs) (suc place) = query_place qs place

query_there : (qs : List NominalQuery) (place : ℕ) → place < length qs → (q : NominalQuery) × (slice_get qs place ≡ Some q)
query_there [] place l = absurd (omega arith)
query_there (q ∷ qs) zero l = (q, refl)
query_there (q ∷ qs) (suc place) l = query_there qs place (omega arith)

module _ (p : NominalProgram) (depth : ℕ) where
  -- there is no query 0
  pub outs_none : [] ≡ outs_asked p depth 0
  outs_none = ap (λ o. outs_of_query o p depth) (sym (none_first p.queries))

  pub outs_high : (k : ℕ) → length p.queries < k → [] ≡ outs_asked p depth k
  outs_high k h = ap (λ o. outs_of_query o p depth) (sym (none_high p.queries k h))

  pub outs_found : (k : ℕ) (os : List NominalOut) → 1 ≤ k → k ≤ length p.queries
      → ((q : NominalQuery) → slice_get p.queries (k - 1) ≡ Some q → os ≡ query_outs p.clauses depth q) → os ≡ outs_asked p depth k
  outs_found k os least most found =
      let at = query_there p.queries (k - 1) (omega (arith, least, most)) in
      let next : suc (k - 1) ≡ k = omega (arith, least) in
      found at.0 at.1 ∙ ap (λ o. outs_of_query o p depth) (sym (sym (ap (query_at p.queries) next) ∙ query_place p.queries (k - 1) ∙ at.1))

-- what was searched last, for the same query, and for its own
pub again : (p : NominalProgram) (depth query : ℕ) (s : Searched) → s.query ≡ query → HasSearched p depth s.query s → HasSearched p depth query s
again p depth query s e h = record { asked = e; outs = h.outs ∙ ap (outs_asked p depth) e }

pub its_own : (p : NominalProgram) (depth query : ℕ) (s : Searched) → HasSearched p depth query s → HasSearched p depth s.query s
its_own p depth query s h = record { asked = refl; outs = h.outs ∙ ap (outs_asked p depth) (sym h.asked) }
