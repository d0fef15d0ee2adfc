-- Runs that are taken one after another, of the query that was asked.
use Rattle.std.proofs.Common.{◌≡◌, ℕ, zero, suc, ◌+◌, ◌<◌, ◌≤◌, Some, List, [], ◌∷◌, ◌++◌, length, get_or, drop, refl, ap, ◌∙◌, add-one, arith}
use Rattle.std.specs.Prelude.{Option}
use Rattle.ap_paths.specs.Runs.{outs_of_run, outs_of_runs}
use Rattle.ap_paths.specs.declared.runs.Run.{Run}

pub asked_once : {X : Type 0} (o : Option X) (x y : X) → o ≡ Some x → o ≡ Some y → x ≡ y
asked_once o x y h k = cc

next_at : (rs : List Run) (i : ℕ) (d : Run) → i < length rs → outs_of_run (get_or rs i d) ++ outs_of_runs (drop (suc i) rs) ≡ outs_of_runs (drop i rs)
next_at [] i d l = absurd (omega arith)
next_at (r ∷ rs) zero d l = refl
next_at (r ∷ rs) (suc i) d l = next_at rs i d (omega arith)

-- the runs from a place on are the one there, and those behind it
pub next_run : (rs : List Run) (i : ℕ) (r : Run) → i < length rs → r ≡ get_or rs i r → outs_of_run r ++ outs_of_runs (drop (i + 1) rs) ≡ outs_of_runs (drop i rs)
next_run rs i r l is =
    ap (λ (x : Run). outs_of_run x ++ outs_of_runs (drop (i + 1) rs)) is
    ∙ ap (λ k. outs_of_run (get_or rs i r) ++ outs_of_runs (drop k rs)) (add-one i)
    ∙ next_at rs i r l

-- at the end none is left
pub no_run_left : (rs : List Run) (i : ℕ) → length rs ≤ i → [] ≡ outs_of_runs (drop i rs)
no_run_left [] zero l = refl
no_run_left [] (suc i) l = refl
no_run_left (r ∷ rs) zero l = absurd (omega arith)
no_run_left (r ∷ rs) (suc i) l = no_run_left rs i (omega arith)
