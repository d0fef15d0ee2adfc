-- Runs of outputs one after another.
use Rattle.std.proofs.Common.{◌≡◌, ℕ, zero, suc, ◌+◌, ◌-◌, ◌<◌, ◌≤◌, ◌==◌, true, List, [], ◌∷◌, ◌++◌, get_or, length, map, replicate, set, append-nil, append_assoc, refl, sym, ap, ◌∙◌, eqb-true, arith}
use Rattle.std.proofs.lemmas.List.{map-append}
use Rattle.ap_defs.specs.Answers.{NominalOut, cut, out_of, outs_of, stuck}
use Rattle.ap_defs.specs.declared.paths.Out.{Out}
use Rattle.ap_paths.specs.Runs.{outs_of_run, outs_of_runs}
use Rattle.ap_paths.specs.declared.runs.Run.{Run}

pub runs_both : (xs ys : List Run) → outs_of_runs (xs ++ ys) ≡ outs_of_runs xs ++ outs_of_runs ys
runs_both [] ys = refl
runs_both (x ∷ xs) ys = ap (λ os. outs_of_run x ++ os) (runs_both xs ys) ∙ sym (append_assoc (outs_of_run x) (outs_of_runs xs) (outs_of_runs ys))

-- a run came behind the others
pub run_added : (old new : List Run) (r : Run) (os : List NominalOut) → new ≡ old ++ r ∷ [] → outs_of_run r ≡ os → outs_of_runs new ≡ outs_of_runs old ++ os
run_added old new r os grown is =
    ap outs_of_runs grown ∙ runs_both old (r ∷ []) ∙ ap (λ xs. outs_of_runs old ++ xs) (append-nil (outs_of_run r) ∙ is)

-- the run at the end went on
pub run_joined : (old : List Run) (n : ℕ) (last both : Run) (os : List NominalOut) → n ≡ length old → 0 < length old → last ≡ get_or old (n - 1) last → outs_of_run both ≡ outs_of_run last ++ os
    → outs_of_runs (set old (n - 1) both) ≡ outs_of_runs old ++ os
run_joined [] n last both os l h e joined = absurd (omega (arith, h))
run_joined (x ∷ []) n last both os l h e joined =
    let i : n - 1 ≡ 0 = omega (arith, l) in
    let is : last ≡ x = e ∙ ap (λ k. get_or (x ∷ []) k last) i in
    ap (λ k. outs_of_runs (set (x ∷ []) k both)) i ∙ append-nil (outs_of_run both) ∙ joined
    ∙ ap (λ r. outs_of_run r ++ os) is ∙ ap (λ xs. xs ++ os) (sym (append-nil (outs_of_run x)))
run_joined (x ∷ y ∷ ys) n last both os l h e joined =
    let i : n - 1 ≡ suc (length (y ∷ ys) - 1) = omega (arith, l) in
    let some : 0 < length (y ∷ ys) = omega arith in
    let behind = run_joined (y ∷ ys) (length (y ∷ ys)) last both os refl some (e ∙ ap (λ k. get_or (x ∷ y ∷ ys) k last) i) joined in
    ap (λ k. outs_of_runs (set (x ∷ y ∷ ys) k both)) i ∙ ap (λ xs. outs_of_run x ++ xs) behind ∙ sym (append_assoc (outs_of_run x) (outs_of_runs (y ∷ ys)) os)

-- a run is put where it stood
pub run_kept : (old : List Run) (i : ℕ) (r : Run) → r ≡ get_or old i r → outs_of_runs (set old i r) ≡ outs_of_runs old
run_kept [] i r e = refl
run_kept (x ∷ xs) zero r e = ap (λ y. outs_of_run y ++ outs_of_runs xs) e
run_kept (x ∷ xs) (suc i) r e = ap (λ os. outs_of_run x ++ os) (run_kept xs i r e)

-- the empty path has no choices
pub no_choices : (p : List ℕ) → (length p == 0) ≡ true → p ≡ []
no_choices [] h = refl
no_choices (x ∷ xs) h = absurd (let e = eqb-true (length (x ∷ xs)) 0 h in omega (arith, e))

pub replicated_both : (m n : ℕ) (o : NominalOut) → replicate (m + n) o ≡ replicate m o ++ replicate n o
replicated_both zero n o = ap (λ (i : ℕ). replicate i o) (let e : 0 + n ≡ n = omega arith in e)
replicated_both (suc m) n o =
    ap (λ (i : ℕ). replicate i o) (let e : suc m + n ≡ suc (m + n) = omega arith in e) ∙ ap (λ (os : List NominalOut). o ∷ os) (replicated_both m n o)

pub replicated_sum : (m n k : ℕ) (o : NominalOut) → k ≡ m + n → replicate k o ≡ replicate m o ++ replicate n o
replicated_sum m n k o e = ap (λ (i : ℕ). replicate i o) e ∙ replicated_both m n o

-- one of those that are left was added
pub one_added : (old new : List Out) (o : Out) (x : NominalOut) (left : ℕ) (all : List NominalOut) → out_of o ≡ x → new ≡ old ++ o ∷ [] → 0 < left
    → outs_of old ++ replicate left x ≡ all → outs_of new ++ replicate (left - 1) x ≡ all
one_added old new o x zero all is grown some before = absurd (omega arith)
one_added old new o x (suc left) all is grown some before =
    let here : suc left - 1 ≡ left = omega arith in
    ap (λ (xs : List Out). outs_of xs ++ replicate (suc left - 1) x) grown
    ∙ ap (λ (n : ℕ). outs_of (old ++ o ∷ []) ++ replicate n x) here
    ∙ ap (λ (xs : List NominalOut). xs ++ replicate left x) (map-append out_of old (o ∷ []))
    ∙ ap (λ (y : NominalOut). (outs_of old ++ y ∷ []) ++ replicate left x) is
    ∙ append_assoc (outs_of old) (x ∷ []) (replicate left x)
    ∙ before

-- none is left
pub none_left : (xs : List NominalOut) (x : NominalOut) (left : ℕ) (all : List NominalOut) → left ≤ 0 → xs ++ replicate left x ≡ all → xs ≡ all
none_left xs x zero all l e = sym (append-nil xs) ∙ e
none_left xs x (suc left) all l e = absurd (omega arith)

pub out_added : (old new : List Out) (o : Out) → new ≡ old ++ o ∷ [] → outs_of new ≡ outs_of old ++ out_of o ∷ []
out_added old new o grown = ap outs_of grown ∙ map-append out_of old (o ∷ [])
