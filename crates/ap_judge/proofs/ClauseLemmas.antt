-- Clauses and queries by their numbers.
use Rattle.std.proofs.Common.{◌≡◌, ◌<◌, ◌≤◌, ◌-◌, ℕ, zero, suc, List, [], ◌∷◌, map, length, get_or, refl, sym, ap, ◌∙◌, arith}
use Rattle.std.specs.Prelude.{None, Some}
use Rattle.ap_defs.specs.declared.goals.Clause.{Clause}
use Rattle.ap_defs.specs.declared.goals.Query.{Query}
use Rattle.ap_defs.specs.declared.terms.Term.{Term}
use Rattle.ap_defs.specs.Goals.{NominalClause, NominalQuery, clause_of, clauses_of, program_in, query_of}
use Rattle.ap_defs.specs.GroundProofs.{clause_at}
use Rattle.ap_checks.specs.Checks.{query_at}

clauses_past : (css : List (List (Clause Term))) (q : ℕ) → length css ≤ q → clauses_of (program_in css) q ≡ []
clauses_past [] q h = refl
clauses_past (cs ∷ css) zero h = absurd (omega arith)
clauses_past (cs ∷ css) (suc q) h = clauses_past css q (omega arith)

clauses_there : (css : List (List (Clause Term))) (q : ℕ) (d : List (Clause Term)) → q < length css → clauses_of (program_in css) q ≡ map clause_of (get_or css q d)
clauses_there [] q d h = absurd (omega arith)
clauses_there (cs ∷ css) zero d h = refl
clauses_there (cs ∷ css) (suc q) d h = clauses_there css q d (omega arith)

pub clause_zero : (cs : List NominalClause) → clause_at cs 0 ≡ None
clause_zero [] = refl
clause_zero (c ∷ cs) = refl

clause_past : (cs : List (Clause Term)) (k : ℕ) → length cs < k → clause_at (map clause_of cs) k ≡ None
clause_past [] k h = refl
clause_past (c ∷ cs) zero h = absurd (omega arith)
clause_past (c ∷ cs) (suc zero) h = absurd (omega arith)
clause_past (c ∷ cs) (suc (suc k)) h = clause_past cs (suc k) (omega arith)

clause_next : (cs : List (Clause Term)) (i : ℕ) (d : Clause Term) → i < length cs → clause_at (map clause_of cs) (suc i) ≡ Some (clause_of (get_or cs i d))
clause_next [] i d h = absurd (omega arith)
clause_next (c ∷ cs) zero d h = refl
clause_next (c ∷ cs) (suc i) d h = clause_next cs i d (omega arith)

pub query_zero : (qs : List NominalQuery) → query_at qs 0 ≡ None
query_zero [] = refl
query_zero (q ∷ qs) = refl

pub query_past : (qs : List (Query Term)) (k : ℕ) → length qs < k → query_at (map query_of qs) k ≡ None
query_past [] k h = refl
query_past (q ∷ qs) zero h = absurd (omega arith)
query_past (q ∷ qs) (suc zero) h = absurd (omega arith)
query_past (q ∷ qs) (suc (suc k)) h = query_past qs (suc k) (omega arith)

query_next : (qs : List (Query Term)) (i : ℕ) (d : Query Term) → i < length qs → query_at (map query_of qs) (suc i) ≡ Some (query_of (get_or qs i d))
query_next [] i d h = absurd (omega arith)
query_next (q ∷ qs) zero d h = refl
query_next (q ∷ qs) (suc i) d h = query_next qs i d (omega arith)

-- As the lookups meet them.
pub no_predicate : (css : List (List (Clause Term))) (q k : ℕ) → length css ≤ q → clause_at (clauses_of (program_in css) q) k ≡ None
no_predicate css q k h = ap (λ cs. clause_at cs k) (clauses_past css q h)

module _ (css : List (List (Clause Term))) (q : ℕ) (cs d : List (Clause Term)) (h : q < length css) (e : cs ≡ get_or css q d) where
  same_clauses : clauses_of (program_in css) q ≡ map clause_of cs
  same_clauses = clauses_there css q d h ∙ ap (map clause_of) (sym e)

  pub no_clause : (k : ℕ) → length cs < k → clause_at (clauses_of (program_in css) q) k ≡ None
  no_clause k m = ap (λ ds. clause_at ds k) same_clauses ∙ clause_past cs k m

  pub clause_there : (k : ℕ) (c : Clause Term) → 0 < k → k ≤ length cs → c ≡ get_or cs (k - 1) c → clause_at (clauses_of (program_in css) q) k ≡ Some (clause_of c)
  clause_there k c l m f =
      let back : k ≡ suc (k - 1) = omega arith in
      ap (λ ds. clause_at ds k) same_clauses ∙ ap (clause_at (map clause_of cs)) back ∙ clause_next cs (k - 1) c (omega arith) ∙ ap (λ d. Some (clause_of d)) (sym f)

pub query_there : (qs : List (Query Term)) (k : ℕ) (q : Query Term) → 0 < k → k ≤ length qs → q ≡ get_or qs (k - 1) q → query_at (map query_of qs) k ≡ Some (query_of q)
query_there qs k q l m f =
    let back : k ≡ suc (k - 1) = omega arith in
    ap (query_at (map query_of qs)) back ∙ query_next qs (k - 1) q (omega arith) ∙ ap (λ d. Some (query_of d)) (sym f)
