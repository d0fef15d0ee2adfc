-- The totals of a program are those of its queries, one after the other.
use Rattle.std.proofs.Common.{◌≡◌, ◌+◌, ◌-◌, ◌*◌, ◌<◌, ◌≤◌, ◌^◌, ℕ, zero, suc, Option, None, Some, List, [], ◌∷◌, drop, length, refl, sym, ap, ◌∙◌, arith, length-append}
use Rattle.std.specs.Prelude.{slice_get, sum_by}
use Rattle.std.proofs.lemmas.List.{drop_all}
use Rattle.std.proofs.lemmas.List.Sums.{sum_by-append}
use Rattle.ap_defs.specs.Answers.{NominalOut, query_outs}
use Rattle.ap_defs.specs.Goals.{NominalProgram, NominalQuery}
use Rattle.ap_defs.specs.Lines.{count_of, is_cut, is_found, is_stuck, query_lines, report_from}
use Rattle.ap_defs.specs.Types.{NominalLocal}
use Rattle.ap_answers.specs.Queries.{locals_at, query_locals}
use Rattle.ap_totals.specs.declared.totals.Totals.{Totals}
use Rattle.ap_totals.specs.Sums.{IsSumAtMost, HaveRoom, output_totals, sum_of_both, totals_at}
use Rattle.ap_text_commands.specs.WorkReports.{total_of, totals_of}
use Rattle.ap_totals.proofs.OutLemmas.{nothing_after, nothing_before, same_sums, same_totals}

-- the identifiers of the query at a place
locals_if : Option NominalQuery → List NominalLocal
locals_if None = []
locals_if (Some q) = q.locals

locals_there : (qs : List NominalQuery) (place : ℕ) → locals_at qs place ≡ locals_if (slice_get qs place)
unfolding locals_if
locals_there [] place = refl
locals_there (q ∷ qs) zero = refl
locals_there (q ∷ qs) (suc place) = locals_there qs place

locals_found : (p : NominalProgram) (k : ℕ) (q : NominalQuery) → 1 ≤ k → slice_get p.queries (k - 1) ≡ Some q → query_locals p k ≡ q.locals
unfolding locals_if
locals_found p zero q l e = absurd (omega arith)
locals_found p (suc place) q l e =
    let here : suc place - 1 ≡ place = omega arith in
    locals_there p.queries place ∙ ap locals_if (ap (slice_get p.queries) (sym here) ∙ e)

-- the totals of a query, by its outputs and its lines
pub of_one_query : (p : NominalProgram) (depth k : ℕ) (os : List NominalOut) (lines : List ℕ) (t : Totals) → 1 ≤ k
    → ((q : NominalQuery) → slice_get p.queries (k - 1) ≡ Some q → os ≡ query_outs p.clauses depth q)
    → lines ≡ query_lines p k (query_locals p k) os → t ≡ output_totals os (length lines)
    → (q : NominalQuery) → slice_get p.queries (k - 1) ≡ Some q → t ≡ totals_at p depth k q
of_one_query p depth k os lines t l are made is q asked =
    is ∙ ap (λ ls. output_totals os (length ls)) (made ∙ ap (λ ls. query_lines p k ls os) (locals_found p k q l asked))
    ∙ ap (λ xs. output_totals xs (length (query_lines p k q.locals xs))) (are q asked)

-- those of queries that are numbered from k on
abbrev pub totals_from : NominalProgram → ℕ → ℕ → List NominalQuery → Totals
totals_from p depth k qs = record {
  answers = total_of is_found p depth qs;
  cut = total_of is_cut p depth qs;
  stuck = total_of is_stuck p depth qs;
  bytes = length (report_from p depth k qs);
}

sum_first : (f : NominalQuery → ℕ) (q : NominalQuery) (qs : List NominalQuery) → sum_by f (q ∷ qs) ≡ f q + sum_by f qs
sum_first f q qs =
    let both : sum_by f (q ∷ qs) ≡ sum_by f (q ∷ []) + sum_by f qs = sum_by-append f (q ∷ []) qs in
    let one : sum_by f (q ∷ []) ≡ f q = omega arith in omega (arith, both, one)

first_query : (p : NominalProgram) (depth k : ℕ) (q : NominalQuery) (qs : List NominalQuery)
    → totals_from p depth k (q ∷ qs) ≡ sum_of_both (totals_at p depth k q) (totals_from p depth (suc k) qs)
first_query p depth k q qs =
    same_totals (totals_from p depth k (q ∷ qs)) (sum_of_both (totals_at p depth k q) (totals_from p depth (suc k) qs))
    (sum_first (λ r. count_of is_found (query_outs p.clauses depth r)) q qs)
    (sum_first (λ r. count_of is_cut (query_outs p.clauses depth r)) q qs)
    (sum_first (λ r. count_of is_stuck (query_outs p.clauses depth r)) q qs)
    (length-append (query_lines p k q.locals (query_outs p.clauses depth q)) (report_from p depth (suc k) qs))

-- those of the queries from a place on are those of the query there, and those of the queries after it
from_place : (p : NominalProgram) (depth k : ℕ) (qs : List NominalQuery) (place : ℕ) → place < length qs
    → (q : NominalQuery) × (slice_get qs place ≡ Some q)
    × (totals_from p depth (k + place) (drop place qs) ≡ sum_of_both (totals_at p depth (k + place) q) (totals_from p depth (k + suc place) (drop (suc place) qs)))
from_place p depth k [] place l = absurd (omega arith)
from_place p depth k (q ∷ qs) zero l =
    let e : k + 0 ≡ k = omega arith in
    let f : k + 1 ≡ suc k = omega arith in (q, refl, rw e (rw f (first_query p depth k q qs)))
from_place p depth k (q ∷ qs) (suc place) l =
    let e : k + suc place ≡ suc k + place = omega arith in
    let f : k + suc (suc place) ≡ suc k + suc place = omega arith in
    let rest = from_place p depth (suc k) qs place (omega arith) in (rest.0, rest.1, rw e (rw f rest.2))

three : (t u v : Totals) → sum_of_both (sum_of_both t u) v ≡ sum_of_both t (sum_of_both u v)
three t u v = same_sums (sum_of_both t u) v t (sum_of_both u v) (omega arith) (omega arith) (omega arith) (omega arith)

pub one_more : (p : NominalProgram) (depth place : ℕ) (t u v : Totals) → place < length p.queries
    → ((q : NominalQuery) → slice_get p.queries (place + 1 - 1) ≡ Some q → u ≡ totals_at p depth (place + 1) q)
    → v ≡ sum_of_both t u
    → sum_of_both t (totals_from p depth (1 + place) (drop place p.queries)) ≡ totals_of p depth
    → sum_of_both v (totals_from p depth (1 + (place + 1)) (drop (place + 1) p.queries)) ≡ totals_of p depth
one_more p depth place t u v l made is before =
    let here : place + 1 - 1 ≡ place = omega arith in
    let next : place + 1 ≡ suc place = omega arith in
    let first : 1 + place ≡ suc place = omega arith in
    let at = from_place p depth 1 p.queries place l in
    let rest = totals_from p depth (1 + suc place) (drop (suc place) p.queries) in
    let this : u ≡ totals_at p depth (suc place) at.0 = rw next at (made at.0 (rw here at.1)) in
    let goes : totals_from p depth (1 + place) (drop place p.queries) ≡ sum_of_both (totals_at p depth (suc place) at.0) rest =
    at.2 ∙ ap (λ n. sum_of_both (totals_at p depth n at.0) rest) first in
    rw next (ap (λ w. sum_of_both w rest) (is ∙ ap (sum_of_both t) this) ∙ three t (totals_at p depth (suc place) at.0) rest ∙ ap (sum_of_both t) (sym goes) ∙ before)

pub none_yet : (p : NominalProgram) (depth : ℕ) → sum_of_both (output_totals [] 0) (totals_from p depth 1 p.queries) ≡ totals_of p depth
none_yet p depth = nothing_before (totals_from p depth 1 p.queries)

pub none_left : (p : NominalProgram) (depth k place : ℕ) (t u : Totals) → length p.queries ≤ place
    → sum_of_both t (totals_from p depth k (drop place p.queries)) ≡ u → t ≡ u
none_left p depth k place t u l e =
    sym (nothing_after t) ∙ sym (ap (λ qs. sum_of_both t (totals_from p depth k qs)) (drop_all place p.queries l)) ∙ e

-- the totals of so many queries, and of one more
pub more_room : (place : ℕ) (t u : Totals) → place < 2 ^ 32 → IsSumAtMost (place * 2 ^ 64) t → IsSumAtMost (2 ^ 64) u → HaveRoom t u
more_room place t u l h k =
    (omega (arith, l, h.0, k.0), omega (arith, l, h.1, k.1), omega (arith, l, h.2, k.2), omega (arith, l, h.3, k.3))

pub at_most_more : (place : ℕ) (t u v : Totals) → v ≡ sum_of_both t u → IsSumAtMost (place * 2 ^ 64) t → IsSumAtMost (2 ^ 64) u → IsSumAtMost ((place + 1) * 2 ^ 64) v
at_most_more place t u v is h k =
    rw is (omega (arith, h.0, k.0), omega (arith, h.1, k.1), omega (arith, h.2, k.2), omega (arith, h.3, k.3))
