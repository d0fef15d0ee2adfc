-- What a limit takes of outputs.
use Rattle.std.proofs.Common.{◌≡◌, ℕ, zero, suc, ◌+◌, ◌<◌, ◌≤◌, Bool, true, false, if◌then◌else◌, List, [], ◌∷◌, ◌++◌, length, get_or, take, drop, replicate, append-nil, append_assoc, refl, sym, ap, ◌∙◌, subst, add-one, arith}
use Rattle.ap_defs.specs.declared.paths.Out.{Out}
use Rattle.ap_defs.specs.Answers.{NominalOut, cut, out_of, outs_of, stuck}
use Rattle.ap_paths.specs.declared.limits.Limit.{Limit}
use Rattle.ap_paths.specs.declared.limits.Limit.TheVariants as limits
use Rattle.ap_paths.specs.Limits.{is_answer_out, found_in, first_part, part}
use Rattle.ap_paths.specs.Runs.{outs_of_run, outs_of_runs}
use Rattle.ap_paths.specs.declared.runs.Run.{Run}
use Rattle.ap_paths.specs.declared.runs.Run.TheVariants as runs

pub found_both : (xs ys : List NominalOut) → found_in (xs ++ ys) ≡ found_in xs + found_in ys
found_both [] ys = omega arith
found_both (x ∷ xs) ys = omega (arith, found_both xs ys)

fewer : (b : Bool) (n m : ℕ) → suc n ≤ (if b then 1 else 0) + m → (if b then n else suc n) ≤ m
fewer true n m l = omega arith
fewer false n m l = omega arith

-- outputs that have answers enough are all that is taken
pub part_front : (n : ℕ) (xs ys : List NominalOut) → n ≤ found_in xs → first_part n (xs ++ ys) ≡ first_part n xs
part_front zero xs ys l = refl
part_front (suc n) [] ys l = absurd (omega arith)
part_front (suc n) (x ∷ xs) ys l = ap (λ r. x ∷ r) (part_front (if is_answer_out x then n else suc n) xs ys (fewer (is_answer_out x) n (found_in xs) l))

pub part_full : (l : Limit) (n : ℕ) (xs ys : List NominalOut) → l ≡ limits.First n → n ≤ found_in xs → part l (xs ++ ys) ≡ part l xs
part_full l n xs ys is le = subst (λ (k : Limit). part k (xs ++ ys) ≡ part k xs) (sym is) (part_front n xs ys le)

one_less : (b : Bool) (n m : ℕ) → m + (if b then 1 else 0) ≡ suc n → (if b then n else suc n) ≡ m
one_less true n m e = omega arith
one_less false n m e = omega arith

-- the first of the outputs is taken
taken : (n m : ℕ) (o : NominalOut) (os : List NominalOut) → 0 < n → m + (if is_answer_out o then 1 else 0) ≡ n → first_part n (o ∷ os) ≡ o ∷ first_part m os
taken zero m o os l e = absurd (omega arith)
taken (suc n) m o os l e = ap (λ k. o ∷ first_part k os) (one_less (is_answer_out o) n m e)

none_more : (b : Bool) (n : ℕ) → b ≡ false → n ≡ 0 → (if b then 1 else 0) + n ≡ 0
none_more true n e z = absurd cc
none_more false n e z = omega (arith, z)

-- Outputs of one kind that are no answers.
module _ (o : NominalOut) (no_answer : is_answer_out o ≡ false) where
  none_found : (k : ℕ) → found_in (replicate k o) ≡ 0
  none_found zero = refl
  none_found (suc k) = none_more (is_answer_out o) (found_in (replicate k o)) no_answer (none_found k)

  -- are all taken, as long as an answer is wanted
  taken_many : (k n : ℕ) (os : List NominalOut) → 0 < n → first_part n (replicate k o ++ os) ≡ replicate k o ++ first_part n os
  taken_many zero n os l = refl
  taken_many (suc k) zero os l = absurd (omega arith)
  taken_many (suc k) (suc n) os l =
      ap (λ (b : Bool). o ∷ first_part (if b then n else suc n) (replicate k o ++ os)) no_answer ∙ ap (λ xs. o ∷ xs) (taken_many k (suc n) os l)

-- how many answers a run has
pub one_found : (o : NominalOut) → found_in (o ∷ []) ≡ (if is_answer_out o then 1 else 0)
one_found o = omega arith

pub no_cut_found : (k : ℕ) → found_in (replicate k (cut [])) ≡ 0
no_cut_found = none_found (cut []) refl

pub no_stuck_found : (k : ℕ) → found_in (replicate k (stuck [])) ≡ 0
no_stuck_found = none_found (stuck []) refl

-- a run is taken
taken_run : (r : Run) (n m : ℕ) (os : List NominalOut) → 0 < n → m + found_in (outs_of_run r) ≡ n → first_part n (outs_of_run r ++ os) ≡ outs_of_run r ++ first_part m os
taken_run (runs.One o) n m os l e = taken n m (out_of o) os l (let f : m + found_in (out_of o ∷ []) ≡ n = e in omega (arith, f, one_found (out_of o)))
taken_run (runs.Cuts k) n m os l e =
    let f : m + found_in (replicate k (cut [])) ≡ n = e in
    let same : n ≡ m = omega (arith, f, no_cut_found k) in
    taken_many (cut []) refl k n os l ∙ ap (λ i. replicate k (cut []) ++ first_part i os) same
taken_run (runs.Stuck k) n m os l e =
    let f : m + found_in (replicate k (stuck [])) ≡ n = e in
    let same : n ≡ m = omega (arith, f, no_stuck_found k) in
    taken_many (stuck []) refl k n os l ∙ ap (λ i. replicate k (stuck []) ++ first_part i os) same

taken_at : (xs : List Run) (i : ℕ) (d : Run) (n m : ℕ) → i < length xs → 0 < n → m + found_in (outs_of_run (get_or xs i d)) ≡ n
    → outs_of_runs (take (suc i) xs) ++ first_part m (outs_of_runs (drop (suc i) xs)) ≡ outs_of_runs (take i xs) ++ first_part n (outs_of_runs (drop i xs))
taken_at [] i d n m l some e = absurd (omega arith)
taken_at (x ∷ xs) zero d n m l some e =
    ap (λ os. os ++ first_part m (outs_of_runs xs)) (append-nil (outs_of_run x)) ∙ sym (taken_run x n m (outs_of_runs xs) some e)
taken_at (x ∷ xs) (suc i) d n m l some e =
    append_assoc (outs_of_run x) (outs_of_runs (take (suc i) xs)) (first_part m (outs_of_runs (drop (suc i) xs)))
    ∙ ap (λ os. outs_of_run x ++ os) (taken_at xs i d n m (omega arith) some e)
    ∙ sym (append_assoc (outs_of_run x) (outs_of_runs (take i xs)) (first_part n (outs_of_runs (drop i xs))))

-- one more run was taken
pub taken_next : (xs : List Run) (i : ℕ) (d : Run) (n m : ℕ) → i < length xs → 0 < n → m + found_in (outs_of_run (get_or xs i d)) ≡ n
    → outs_of_runs (take (i + 1) xs) ++ first_part m (outs_of_runs (drop (i + 1) xs)) ≡ outs_of_runs (take i xs) ++ first_part n (outs_of_runs (drop i xs))
taken_next xs i d n m l some e =
    ap (λ k. outs_of_runs (take k xs) ++ first_part m (outs_of_runs (drop k xs))) (add-one i) ∙ taken_at xs i d n m l some e

first_none : (n : ℕ) → first_part n [] ≡ []
first_none zero = refl
first_none (suc n) = refl

-- at the end all were taken
pub all_taken : (xs : List Run) (i n : ℕ) → length xs ≤ i → outs_of_runs (take i xs) ++ first_part n (outs_of_runs (drop i xs)) ≡ outs_of_runs (take i xs)
all_taken [] zero n l = first_none n
all_taken [] (suc i) n l = first_none n
all_taken (x ∷ xs) zero n l = absurd (omega arith)
all_taken (x ∷ xs) (suc i) n l =
    append_assoc (outs_of_run x) (outs_of_runs (take i xs)) (first_part n (outs_of_runs (drop i xs)))
    ∙ ap (λ os. outs_of_run x ++ os) (all_taken xs i n (omega arith))

found_at : (xs : List Out) (i : ℕ) (d : Out) → i < length xs → found_in (outs_of (take (suc i) xs)) ≡ found_in (outs_of (take i xs)) + (if is_answer_out (out_of (get_or xs i d)) then 1 else 0)
found_at [] i d l = absurd (omega arith)
found_at (x ∷ xs) zero d l = omega arith
found_at (x ∷ xs) (suc i) d l = omega (arith, found_at xs i d (omega arith))

-- one more output was counted
pub found_next : (xs : List Out) (i : ℕ) (d : Out) → i < length xs → found_in (outs_of (take (i + 1) xs)) ≡ found_in (outs_of (take i xs)) + (if is_answer_out (out_of (get_or xs i d)) then 1 else 0)
found_next xs i d l = ap (λ k. found_in (outs_of (take k xs))) (add-one i) ∙ found_at xs i d l

found_at_run : (xs : List Run) (i : ℕ) (d : Run) → i < length xs → found_in (outs_of_runs (take (suc i) xs)) ≡ found_in (outs_of_runs (take i xs)) + found_in (outs_of_run (get_or xs i d))
found_at_run [] i d l = absurd (omega arith)
found_at_run (x ∷ xs) zero d l = let e = ap found_in (append-nil (outs_of_run x)) in omega (arith, e)
found_at_run (x ∷ xs) (suc i) d l =
    let some = found_both (outs_of_run x) (outs_of_runs (take i xs)) in
    let more = found_both (outs_of_run x) (outs_of_runs (take (suc i) xs)) in
    omega (arith, some, more, found_at_run xs i d (omega arith))

-- one more run was counted
pub found_next_run : (xs : List Run) (i : ℕ) (d : Run) → i < length xs → found_in (outs_of_runs (take (i + 1) xs)) ≡ found_in (outs_of_runs (take i xs)) + found_in (outs_of_run (get_or xs i d))
found_next_run xs i d l = ap (λ k. found_in (outs_of_runs (take k xs))) (add-one i) ∙ found_at_run xs i d l
