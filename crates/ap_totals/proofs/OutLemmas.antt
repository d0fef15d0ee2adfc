-- Totals of outputs, one after the other.
use Rattle.std.proofs.Common.{◌≡◌, ◌+◌, ◌<◌, ◌≤◌, ℕ, suc, List, [], ◌∷◌, drop, get_or, length, sym, ap, ◌∙◌, arith}
use Rattle.std.proofs.lemmas.List.{at_drop_all, at_drop_more}
use Rattle.ap_defs.specs.declared.paths.Out.{Out}
use Rattle.ap_defs.specs.Answers.{NominalOut, cut, found, out_of, outs_of, stuck}
use Rattle.ap_defs.specs.Lines.{count_of, is_cut, is_found, is_stuck}
use Rattle.ap_totals.specs.declared.totals.Totals.{Totals}
use Rattle.ap_totals.specs.Sums.{IsSumAtMost, output_totals, sum_of_both, with_out}

-- totals by their numbers
abbrev of_numbers : ℕ → ℕ → ℕ → ℕ → Totals
of_numbers a c s b = record { answers = a; cut = c; stuck = s; bytes = b }

pub same_totals : (t u : Totals) → t.answers ≡ u.answers → t.cut ≡ u.cut → t.stuck ≡ u.stuck → t.bytes ≡ u.bytes → t ≡ u
same_totals t u a c s b =
    ap (λ n. of_numbers n t.cut t.stuck t.bytes) a ∙ ap (λ n. of_numbers u.answers n t.stuck t.bytes) c
    ∙ ap (λ n. of_numbers u.answers u.cut n t.bytes) s ∙ ap (λ n. of_numbers u.answers u.cut u.stuck n) b

-- the sums of totals with others, number by number
pub same_sums : (t u v w : Totals) → t.answers + u.answers ≡ v.answers + w.answers → t.cut + u.cut ≡ v.cut + w.cut
    → t.stuck + u.stuck ≡ v.stuck + w.stuck → t.bytes + u.bytes ≡ v.bytes + w.bytes → sum_of_both t u ≡ sum_of_both v w
same_sums t u v w a c s b = same_totals (sum_of_both t u) (sum_of_both v w) a c s b

pub nothing_before : (t : Totals) → sum_of_both (output_totals [] 0) t ≡ t
nothing_before t = same_totals (sum_of_both (output_totals [] 0) t) t (omega arith) (omega arith) (omega arith) (omega arith)

pub nothing_after : (t : Totals) → sum_of_both t (output_totals [] 0) ≡ t
nothing_after t = same_totals (sum_of_both t (output_totals [] 0)) t (omega arith) (omega arith) (omega arith) (omega arith)

-- an output that is counted, and one that is left
one_out : (o : NominalOut) (os : List NominalOut) (t : Totals) → sum_of_both (with_out t o) (output_totals os 0) ≡ sum_of_both t (output_totals (o ∷ os) 0)
one_out (found p a) os t =
    let n = count_of is_found os in
    let e : t.answers + 1 + n ≡ t.answers + suc n = omega arith in
    ap (λ m. of_numbers m (t.cut + count_of is_cut os) (t.stuck + count_of is_stuck os) (t.bytes + 0)) e
one_out (cut p) os t =
    let n = count_of is_cut os in
    let e : t.cut + 1 + n ≡ t.cut + suc n = omega arith in
    ap (λ m. of_numbers (t.answers + count_of is_found os) m (t.stuck + count_of is_stuck os) (t.bytes + 0)) e
one_out (stuck p) os t =
    let n = count_of is_stuck os in
    let e : t.stuck + 1 + n ≡ t.stuck + suc n = omega arith in
    ap (λ m. of_numbers (t.answers + count_of is_found os) (t.cut + count_of is_cut os) m (t.bytes + 0)) e

pub next_out : (outs : List Out) (i : ℕ) (d : Out) (t u : Totals) → i < length outs → d ≡ get_or outs i d → u ≡ with_out t (out_of d)
    → sum_of_both u (output_totals (outs_of (drop (i + 1) outs)) 0) ≡ sum_of_both t (output_totals (outs_of (drop i outs)) 0)
next_out outs i d t u l e is =
    ap (λ v. sum_of_both v (output_totals (outs_of (drop (i + 1) outs)) 0)) is
    ∙ one_out (out_of d) (outs_of (drop (i + 1) outs)) t
    ∙ ap (λ (o : Out). sum_of_both t (output_totals (out_of o ∷ outs_of (drop (i + 1) outs)) 0)) e
    ∙ sym (at_drop_more (λ os. sum_of_both t (output_totals (outs_of os) 0)) outs i d l)

pub last_out : (outs : List Out) (i : ℕ) (t u : Totals) → length outs ≤ i → sum_of_both t (output_totals (outs_of (drop i outs)) 0) ≡ u → t ≡ u
last_out outs i t u l e = sym (nothing_after t) ∙ sym (at_drop_all (λ os. sum_of_both t (output_totals (outs_of os) 0)) outs i l) ∙ e

-- each output adds one to one of them
pub one_further : (o : NominalOut) (n : ℕ) (t : Totals) → IsSumAtMost n t → IsSumAtMost (n + 1) (with_out t o)
one_further (found p a) n t h = (omega (arith, h.0), omega (arith, h.1), omega (arith, h.2), omega (arith, h.3))
one_further (cut p) n t h = (omega (arith, h.0), omega (arith, h.1), omega (arith, h.2), omega (arith, h.3))
one_further (stuck p) n t h = (omega (arith, h.0), omega (arith, h.1), omega (arith, h.2), omega (arith, h.3))

pub no_more_than : (n m : ℕ) (t : Totals) → n ≤ m → IsSumAtMost n t → IsSumAtMost m t
no_more_than n m t l h = (omega (arith, l, h.0), omega (arith, l, h.1), omega (arith, l, h.2), omega (arith, l, h.3))
