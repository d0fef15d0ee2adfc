-- How often clauses are used, by lists of uses that are put together.
use Rattle.std.proofs.Common.{◌≡◌, ◌≢◌, ℕ, zero, suc, ◌+◌, ◌<◌, ◌≤◌, Bool, true, false, cond, List, [], ◌∷◌, ◌++◌, refl, sym, ap, ap₂, ◌∙◌, arith}
use Rattle.std.specs.Prelude.{◌==◌, ◌&&◌}
use Rattle.std.proofs.lemmas.Bool.Decides.{nat_tests}
use Rattle.ap_defs.specs.Goals.{NominalClause, Clauses}
use Rattle.ap_derive.specs.Uses.{ClauseUse, is_use, saturated, times_used, use_row, use_rows, use_table}
use Rattle.ap_derive.specs.Tables.{added_row, added_rows, one_more, one_more_at, with_use, with_use_at, with_uses}

-- sums that are cut off at the greatest number
pub sum_saturated : (m n : ℕ) → saturated (saturated m + n) ≡ saturated (m + n)
sum_saturated m n = omega arith

pub sums_saturated : (m n : ℕ) → saturated (saturated m + saturated n) ≡ saturated (m + n)
sums_saturated m n = omega arith

counts : (b : Bool) (m n s : ℕ) → s ≡ m + n → cond b (suc s) s ≡ cond b (suc m) m + n
counts true m n s h = omega (arith, h)
counts false m n s h = h

pub times_append : (p k : ℕ) (us vs : List ClauseUse) → times_used p k (us ++ vs) ≡ times_used p k us + times_used p k vs
times_append p k [] vs = omega arith
times_append p k (u ∷ us) vs = counts (is_use p k u) (times_used p k us) (times_used p k vs) (times_used p k (us ++ vs)) (times_append p k us vs)

another : (m n : ℕ) → m ≢ n → (m == n) ≡ false
another m n h = grind (arith, nat_tests)

itself : (m : ℕ) → (m == m) ≡ true
itself m = grind (arith, nat_tests)

and_false : (b c : Bool) → c ≡ false → (b && c) ≡ false
and_false true c h = h
and_false false c h = refl

other_predicate : (p k : ℕ) (u : ClauseUse) → u.pred ≢ p → is_use p k u ≡ false
other_predicate p k u h = ap (λ b. b && (u.number == k)) (another u.pred p h)

other_number : (p k : ℕ) (u : ClauseUse) → u.number ≢ k → is_use p k u ≡ false
other_number p k u h = and_false (u.pred == p) (u.number == k) (another u.number k h)

this_clause : (p k : ℕ) (u : ClauseUse) → u.pred ≡ p → u.number ≡ k → is_use p k u ≡ true
this_clause p k u h l = ap₂ (λ m n. (u.pred == m) && (u.number == n)) (sym h) (sym l) ∙ ap₂ (λ b c. b && c) (itself u.pred) (itself u.number)

one_use : (p k : ℕ) (us : List ClauseUse) (u : ClauseUse) (b : Bool) → is_use p k u ≡ b → times_used p k (us ++ u ∷ []) ≡ times_used p k us + cond b 1 0
one_use p k us u b h = times_append p k us (u ∷ []) ∙ ap (λ c. times_used p k us + cond c 1 0) h

no_use : (p k : ℕ) (us : List ClauseUse) (u : ClauseUse) → is_use p k u ≡ false → saturated (times_used p k (us ++ u ∷ [])) ≡ saturated (times_used p k us)
no_use p k us u h = ap saturated (one_use p k us u false h ∙ omega arith)

-- a row in which the use is of none of the clauses
row_without : (p k : ℕ) (cs : List NominalClause) (us : List ClauseUse) (u : ClauseUse) → ((j : ℕ) → k ≤ j → is_use p j u ≡ false)
    → use_row p k cs (us ++ u ∷ []) ≡ use_row p k cs us
row_without p k [] us u h = refl
row_without p k (c ∷ cs) us u h = ap₂ (λ n ns. n ∷ ns) (no_use p k us u (h k (omega arith))) (row_without p (suc k) cs us u (λ j l. h j (omega (arith, l))))

-- the row of the clause that is used, which stands at a place
row_with : (p k i : ℕ) (cs : List NominalClause) (us : List ClauseUse) (u : ClauseUse) → u.pred ≡ p → u.number ≡ k + i
    → one_more_at i (use_row p k cs us) ≡ use_row p k cs (us ++ u ∷ [])
row_with p k i [] us u h l = refl
row_with p k zero (c ∷ cs) us u h l =
    let here : u.number ≡ k = omega (arith, l) in
    ap₂ (λ n ns. n ∷ ns)
    (sum_saturated (times_used p k us) 1 ∙ ap saturated (sym (one_use p k us u true (this_clause p k u h here))))
    (sym (row_without p (suc k) cs us u (λ j m. other_number p j u (λ e. absurd (omega (arith, m, e, here))))))
row_with p k (suc i) (c ∷ cs) us u h l =
    ap₂ (λ n ns. n ∷ ns) (sym (no_use p k us u (other_number p k u (λ e. absurd (omega (arith, l, e))))))
    (row_with p (suc k) i cs us u h (omega (arith, l)))

row_of_number : (p k : ℕ) (cs : List NominalClause) (us : List ClauseUse) (u : ClauseUse) → u.pred ≡ p → u.number ≡ k
    → one_more k (use_row p 1 cs us) ≡ use_row p 1 cs (us ++ u ∷ [])
row_of_number p zero cs us u h l = sym (row_without p 1 cs us u (λ j m. other_number p j u (λ e. absurd (omega (arith, l, m, e)))))
row_of_number p (suc i) cs us u h l = row_with p 1 i cs us u h (omega (arith, l))

rows_without : (q : ℕ) (css : Clauses) (us : List ClauseUse) (u : ClauseUse) → u.pred < q → use_rows q css (us ++ u ∷ []) ≡ use_rows q css us
rows_without q [] us u h = refl
rows_without q (cs ∷ css) us u h =
    ap₂ (λ r rs. r ∷ rs) (row_without q 1 cs us u (λ j l. other_predicate q j u (λ e. absurd (omega (arith, h, e)))))
    (rows_without (suc q) css us u (omega (arith, h)))

rows_with : (q p : ℕ) (css : Clauses) (us : List ClauseUse) (u : ClauseUse) → u.pred ≡ q + p
    → with_use_at p u.number (use_rows q css us) ≡ use_rows q css (us ++ u ∷ [])
rows_with q p [] us u h = refl
rows_with q zero (cs ∷ css) us u h =
    let here : u.pred ≡ q = omega (arith, h) in
    ap₂ (λ r rs. r ∷ rs) (row_of_number q u.number cs us u here refl) (sym (rows_without (suc q) css us u (omega (arith, here))))
rows_with q (suc p) (cs ∷ css) us u h =
    ap₂ (λ r rs. r ∷ rs) (sym (row_without q 1 cs us u (λ j l. other_predicate q j u (λ e. absurd (omega (arith, h, e))))))
    (rows_with (suc q) p css us u (omega (arith, h)))

pub table_with : (program : Clauses) (us : List ClauseUse) (u : ClauseUse) → with_use u (use_table program us) ≡ use_table program (us ++ u ∷ [])
table_with program us u = rows_with 0 u.pred program us u (omega arith)

push_append : (us vs : List ClauseUse) (v : ClauseUse) → (us ++ v ∷ []) ++ vs ≡ us ++ v ∷ vs
push_append [] vs v = refl
push_append (u ∷ us) vs v = ap (λ ws. u ∷ ws) (push_append us vs v)

append_none : (us : List ClauseUse) → us ++ [] ≡ us
append_none [] = refl
append_none (u ∷ us) = ap (λ ws. u ∷ ws) (append_none us)

-- more uses of a table of uses
table_with_all : (program : Clauses) (us vs : List ClauseUse) → with_uses vs (use_table program us) ≡ use_table program (us ++ vs)
table_with_all program us [] = ap (use_table program) (sym (append_none us))
table_with_all program us (v ∷ vs) =
    ap (with_uses vs) (table_with program us v) ∙ table_with_all program (us ++ v ∷ []) vs ∙ ap (use_table program) (push_append us vs v)

pub table_from_none : (program : Clauses) (us : List ClauseUse) → with_uses us (use_table program []) ≡ use_table program us
table_from_none program us = table_with_all program [] us

pub with_uses_append : (us vs : List ClauseUse) (t : List (List ℕ)) → with_uses (us ++ vs) t ≡ with_uses vs (with_uses us t)
with_uses_append [] vs t = refl
with_uses_append (u ∷ us) vs t = with_uses_append us vs (with_use u t)

-- sums of tables of uses
sum_of_row : (p k : ℕ) (cs : List NominalClause) (us vs : List ClauseUse) → added_row (use_row p k cs us) (use_row p k cs vs) ≡ use_row p k cs (us ++ vs)
sum_of_row p k [] us vs = refl
sum_of_row p k (c ∷ cs) us vs =
    ap₂ (λ n ns. n ∷ ns) (sums_saturated (times_used p k us) (times_used p k vs) ∙ ap saturated (sym (times_append p k us vs))) (sum_of_row p (suc k) cs us vs)

sum_of_rows : (q : ℕ) (css : Clauses) (us vs : List ClauseUse) → added_rows (use_rows q css us) (use_rows q css vs) ≡ use_rows q css (us ++ vs)
sum_of_rows q [] us vs = refl
sum_of_rows q (cs ∷ css) us vs = ap₂ (λ r rs. r ∷ rs) (sum_of_row q 1 cs us vs) (sum_of_rows (suc q) css us vs)

pub sum_of_tables : (program : Clauses) (us vs : List ClauseUse) → added_rows (use_table program us) (use_table program vs) ≡ use_table program (us ++ vs)
sum_of_tables program us vs = sum_of_rows 0 program us vs
