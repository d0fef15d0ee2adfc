-- Tables of uses: one more use, and the sum of two.
use Rattle.std.specs.Prelude.{ℕ, zero, suc, ◌+◌, List, [], ◌∷◌, map, Vec}
use Rattle.std.specs.Global.{Global}
use Rattle.ap_derive.specs.Uses.{ClauseUse, saturated}

-- a table of the program, without where it lies in memory
abbrev pub counts_of : Vec (Vec ℕ Global) Global → List (List ℕ)
counts_of t = map (λ r. r.items) t.items

-- one more at a place from 0; none where there is no such place
abbrev pub one_more_at : ℕ → List ℕ → List ℕ
one_more_at i [] = []
one_more_at zero (n ∷ ns) = saturated (n + 1) ∷ ns
one_more_at (suc i) (n ∷ ns) = n ∷ one_more_at i ns

-- one more use of the clause with this number, from 1
abbrev pub one_more : ℕ → List ℕ → List ℕ
one_more zero ns = ns
one_more (suc i) ns = one_more_at i ns

abbrev pub with_use_at : ℕ → ℕ → List (List ℕ) → List (List ℕ)
with_use_at p k [] = []
with_use_at zero k (row ∷ rows) = one_more k row ∷ rows
with_use_at (suc p) k (row ∷ rows) = row ∷ with_use_at p k rows

-- with one more use, and with more of them
abbrev pub with_use : ClauseUse → List (List ℕ) → List (List ℕ)
with_use u t = with_use_at u.pred u.number t

abbrev pub with_uses : List ClauseUse → List (List ℕ) → List (List ℕ)
with_uses [] t = t
with_uses (u ∷ us) t = with_uses us (with_use u t)

-- the sums of rows, and of tables, place by place
abbrev pub added_row : List ℕ → List ℕ → List ℕ
added_row [] _ = []
added_row (m ∷ ms) [] = []
added_row (m ∷ ms) (n ∷ ns) = saturated (m + n) ∷ added_row ms ns

abbrev pub added_rows : List (List ℕ) → List (List ℕ) → List (List ℕ)
added_rows [] _ = []
added_rows (r ∷ rs) [] = []
added_rows (r ∷ rs) (s ∷ ss) = added_row r s ∷ added_rows rs ss
