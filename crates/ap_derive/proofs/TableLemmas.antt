-- Tables as they lie in memory, and clauses by their numbers.
use Rattle.std.proofs.Common.{◌≡◌, ◌<◌, ◌≤◌, ◌-◌, ◌+◌, ℕ, zero, suc, List, [], ◌∷◌, ◌++◌, map, length, set, get_or, replicate, refl, sym, ap, ap₂, ◌∙◌, arith}
use Rattle.std.specs.Prelude.{Some, None, Vec}
use Rattle.std.proofs.lemmas.List.{append-nil}
use Rattle.std.specs.Global.{Global}
use Rattle.ap_defs.specs.declared.goals.Clause.{Clause}
use Rattle.ap_defs.specs.declared.terms.Term.{Term}
use Rattle.ap_defs.specs.Goals.{NominalClause, clause_of, clauses_of, program_in}
use Rattle.ap_defs.specs.GroundProofs.{clause_at}
use Rattle.ap_derive.specs.Uses.{saturated, use_row, use_rows, use_table}
use Rattle.ap_derive.specs.Tables.{one_more, one_more_at, with_use_at}

-- noughts for clauses, and for those of each predicate
abbrev pub noughts : List (Clause Term) → List ℕ
noughts cs = replicate (length cs) 0

abbrev pub noughts_of : List (List (Clause Term)) → List (List ℕ)
noughts_of css = map noughts css

unused_from : (p k : ℕ) (cs : List (Clause Term)) → noughts cs ≡ use_row p k (map clause_of cs) []
unused_from p k [] = refl
unused_from p k (c ∷ cs) = ap (λ ns. 0 ∷ ns) (unused_from p (suc k) cs)

pub unused : (p : ℕ) (cs : List (Clause Term)) → replicate (length cs) 0 ≡ use_row p 1 (map clause_of cs) []
unused p cs = unused_from p 1 cs

unused_rows : (q : ℕ) (css : List (List (Clause Term))) → noughts_of css ≡ use_rows q (program_in css) []
unused_rows q [] = refl
unused_rows q (cs ∷ css) = ap₂ (λ r rs. r ∷ rs) (unused_from q 1 cs) (unused_rows (suc q) css)

pub unused_all : (css : List (List (Clause Term))) → noughts_of css ≡ use_table (program_in css) []
unused_all css = unused_rows 0 css

-- the noughts that are there, where no clauses are left
pub unused_whole : (rows : List (List ℕ)) (rest css : List (List (Clause Term))) → length rest ≡ 0 → rows ++ noughts_of rest ≡ noughts_of css
    → rows ≡ use_table (program_in css) []
unused_whole rows [] css h e = sym (append-nil rows) ∙ e ∙ unused_all css
unused_whole rows (cs ∷ rest) css h e = absurd (omega (arith, h))

-- one more at a place
more_there : (ns : List ℕ) (i : ℕ) (d : ℕ) → i < length ns → set ns i (saturated (get_or ns i d + 1)) ≡ one_more_at i ns
more_there [] i d h = absurd (omega arith)
more_there (n ∷ ns) zero d h = refl
more_there (n ∷ ns) (suc i) d h = ap (λ ms. n ∷ ms) (more_there ns i d (omega arith))

no_more : (ns : List ℕ) (i : ℕ) → length ns ≤ i → one_more_at i ns ≡ ns
no_more [] i h = refl
no_more (n ∷ ns) zero h = absurd (omega arith)
no_more (n ∷ ns) (suc i) h = ap (λ ms. n ∷ ms) (no_more ns i (omega arith))

pub more_past : (ns : List ℕ) (k : ℕ) → length ns < k → ns ≡ one_more k ns
more_past ns zero h = refl
more_past ns (suc i) h = sym (no_more ns i (omega arith))

pub more_at : (ns : List ℕ) (k old new : ℕ) → 0 < k → k ≤ length ns → old ≡ get_or ns (k - 1) old → new ≡ saturated (old + 1)
    → set ns (k - 1) new ≡ one_more k ns
more_at ns zero old new h l e f = absurd (omega arith)
more_at ns (suc i) old new h l e f =
    let same : suc i - 1 ≡ i = omega arith in
    ap₂ (set ns) same (f ∙ ap (λ m. saturated (m + 1)) (e ∙ ap (λ j. get_or ns j old) same)) ∙ more_there ns i old (omega arith)

pub use_none : (rows : List (Vec ℕ Global)) (p k : ℕ) → length rows ≤ p
    → map (λ (r : Vec ℕ Global). r.items) rows ≡ with_use_at p k (map (λ (r : Vec ℕ Global). r.items) rows)
use_none [] p k h = refl
use_none (r ∷ rs) zero k h = absurd (omega arith)
use_none (r ∷ rs) (suc p) k h = ap (λ rows. r.items ∷ rows) (use_none rs p k (omega arith))

pub use_there : (rows : List (Vec ℕ Global)) (p k : ℕ) (old new : Vec ℕ Global) → p < length rows → old ≡ get_or rows p old
    → new.items ≡ one_more k old.items → map (λ (r : Vec ℕ Global). r.items) (set rows p new) ≡ with_use_at p k (map (λ (r : Vec ℕ Global). r.items) rows)
use_there [] p k old new h e f = absurd (omega arith)
use_there (r ∷ rs) zero k old new h e f = ap (λ row. row ∷ map (λ (r : Vec ℕ Global). r.items) rs) (f ∙ ap (λ (r : Vec ℕ Global). one_more k r.items) e)
use_there (r ∷ rs) (suc p) k old new h e f = ap (λ rows. r.items ∷ rows) (use_there rs p k old new (omega arith) e f)

-- clauses by their numbers
clauses_past : (css : List (List (Clause Term))) (q : ℕ) → length css ≤ q → clauses_of (program_in css) q ≡ []
clauses_past [] q h = refl
clauses_past (cs ∷ css) zero h = absurd (omega arith)
clauses_past (cs ∷ css) (suc q) h = clauses_past css q (omega arith)

clauses_there : (css : List (List (Clause Term))) (q : ℕ) (d : List (Clause Term)) → q < length css → clauses_of (program_in css) q ≡ map clause_of (get_or css q d)
clauses_there [] q d h = absurd (omega arith)
clauses_there (cs ∷ css) zero d h = refl
clauses_there (cs ∷ css) (suc q) d h = clauses_there css q d (omega arith)

pub clause_zero : (cs : List NominalClause) → clause_at cs 0 ≡ None
clause_zero [] = refl
clause_zero (c ∷ cs) = refl

clause_past : (cs : List (Clause Term)) (k : ℕ) → length cs < k → clause_at (map clause_of cs) k ≡ None
clause_past [] k h = refl
clause_past (c ∷ cs) zero h = absurd (omega arith)
clause_past (c ∷ cs) (suc zero) h = absurd (omega arith)
clause_past (c ∷ cs) (suc (suc k)) h = clause_past cs (suc k) (omega arith)

clause_next : (cs : List (Clause Term)) (i : ℕ) (d : Clause Term) → i < length cs → clause_at (map clause_of cs) (suc i) ≡ Some (clause_of (get_or cs i d))
clause_next [] i d h = absurd (omega arith)
clause_next (c ∷ cs) zero d h = refl
clause_next (c ∷ cs) (suc i) d h = clause_next cs i d (omega arith)

pub no_predicate : (css : List (List (Clause Term))) (q k : ℕ) → length css ≤ q → clause_at (clauses_of (program_in css) q) k ≡ None
no_predicate css q k h = ap (λ cs. clause_at cs k) (clauses_past css q h)

module _ (css : List (List (Clause Term))) (q : ℕ) (cs d : List (Clause Term)) (h : q < length css) (e : cs ≡ get_or css q d) where
  same_clauses : clauses_of (program_in css) q ≡ map clause_of cs
  same_clauses = clauses_there css q d h ∙ ap (map clause_of) (sym e)

  pub no_clause : (k : ℕ) → length cs < k → clause_at (clauses_of (program_in css) q) k ≡ None
  no_clause k m = ap (λ ds. clause_at ds k) same_clauses ∙ clause_past cs k m

  pub clause_there : (k : ℕ) (c : Clause Term) → 0 < k → k ≤ length cs → c ≡ get_or cs (k - 1) c → clause_at (clauses_of (program_in css) q) k ≡ Some (clause_of c)
  clause_there k c l m f =
      let back : k ≡ suc (k - 1) = omega arith in
      ap (λ ds. clause_at ds k) same_clauses ∙ ap (clause_at (map clause_of cs)) back ∙ clause_next cs (k - 1) c (omega arith) ∙ ap (λ d. Some (clause_of d)) (sym f)
