-- The lines of outputs: each longest run of cuts or of stuck branches gives one.
use Rattle.std.proofs.Common.{◌≡◌, ℕ, zero, suc, ◌≤◌, Bool, true, false, List, [], ◌∷◌, ◌++◌, map, length, filter, drop, get_or, refl, sym, ap, ◌∙◌, subst, arith, append_assoc}
use Rattle.std.proofs.lemmas.List.Sums.{length-filter}
use Rattle.std.specs.List.{count_by}
use Rattle.std.specs.Prelude.{if◌then◌else◌, cond, codes}
use Rattle.ap_defs.specs.declared.paths.Out.{Out}
use Rattle.ap_defs.specs.declared.paths.Out.TheVariants as code
use Rattle.ap_defs.specs.declared.outcomes.Answer.{Answer}
use Rattle.ap_defs.specs.declared.paths.Path.{Path}
use Rattle.ap_defs.specs.Answers.{NominalOut, found, cut, stuck, answer_of, out_of, out_path, outs_of}
use Rattle.ap_defs.specs.Lines.{Line, answer, cuts, stucks, line_before, lines_of, ended, is_cut, is_stuck, count_of}
use Rattle.ap_answers.specs.Runs.{run_length, IsLineFor}

before_stuck : (p q : List ℕ) (ls : List Line) → line_before (cut p) (line_before (stuck q) ls) ≡ cuts 1 ∷ line_before (stuck q) ls
before_stuck p q [] = refl
before_stuck p q (answer a ∷ ls) = refl
before_stuck p q (cuts n ∷ ls) = refl
before_stuck p q (stucks n ∷ ls) = refl

before_cut : (p q : List ℕ) (ls : List Line) → line_before (stuck p) (line_before (cut q) ls) ≡ stucks 1 ∷ line_before (cut q) ls
before_cut p q [] = refl
before_cut p q (answer a ∷ ls) = refl
before_cut p q (cuts n ∷ ls) = refl
before_cut p q (stucks n ∷ ls) = refl

cut_run : (p : List ℕ) (os : List NominalOut) → lines_of (cut p ∷ os) ≡ cuts (suc (run_length is_cut os)) ∷ lines_of (drop (run_length is_cut os) os)
cut_run p [] = refl
cut_run p (found q a ∷ os) = refl
cut_run p (cut q ∷ os) = ap (line_before (cut p)) (cut_run q os)
cut_run p (stuck q ∷ os) = before_stuck p q (lines_of os)

stuck_run : (p : List ℕ) (os : List NominalOut) → lines_of (stuck p ∷ os) ≡ stucks (suc (run_length is_stuck os)) ∷ lines_of (drop (run_length is_stuck os) os)
stuck_run p [] = refl
stuck_run p (found q a ∷ os) = refl
stuck_run p (cut q ∷ os) = before_cut p q (lines_of os)
stuck_run p (stuck q ∷ os) = ap (line_before (stuck p)) (stuck_run q os)

within_if : (b : Bool) (m n : ℕ) → m ≤ n → (if b then suc m else 0) ≤ suc n
within_if true m n h = omega arith
within_if false m n h = omega arith

run_within : (test : NominalOut → Bool) (os : List NominalOut) → run_length test os ≤ length os
run_within test [] = omega arith
run_within test (o ∷ os) = within_if (test o) (run_length test os) (length os) (run_within test os)

within_line : (text : Line → List ℕ) (os : List NominalOut) (l : Line) (n : ℕ) (old new : List ℕ) → 1 ≤ n → n ≤ length os → lines_of os ≡ l ∷ lines_of (drop n os) → new ≡ old ++ (text l ++ codes "\n")
    → IsLineFor text os n old new
within_line text os l n old new some within lines e = record {
  some = some;
  within = within;
  written = rw (e, lines) (append_assoc old (text l ++ codes "\n") (ended (map text (lines_of (drop n os)))) ∙ ap (λ bs. old ++ bs) (append_assoc (text l) (codes "\n") (ended (map text (lines_of (drop n os))))));
}

pub found_line : (text : Line → List ℕ) (os : List NominalOut) (outs : List Out) (o : Out) (p : Path) (a : Answer) (old mid new : List ℕ) → os ≡ outs_of outs → 1 ≤ length outs → o ≡ get_or outs 0 o → o ≡ code.Found p a
    → mid ≡ old ++ text (answer (answer_of a)) → new ≡ mid ++ codes "\n" → IsLineFor text os 1 old new
found_line text os [] o p a old mid new s h e d m w = absurd (omega arith)
found_line text os (q ∷ outs) o p a old mid new s h e d m w =
    let begins : os ≡ found (out_path (out_of (code.Found p a))) (answer_of a) ∷ outs_of outs = s ∙ ap (λ x. out_of x ∷ outs_of outs) (sym e ∙ d) in
    within_line text os (answer (answer_of a)) 1 old new (omega arith) (rw begins (omega arith)) (rw begins refl)
    (w ∙ ap (λ bs. bs ++ codes "\n") m ∙ append_assoc old (text (answer (answer_of a))) (codes "\n"))

pub cuts_line : (text : Line → List ℕ) (os : List NominalOut) (outs : List Out) (o : Out) (p : List ℕ) (n : ℕ) (old new : List ℕ) → os ≡ outs_of outs → 1 ≤ length outs → o ≡ get_or outs 0 o → o ≡ code.Cut p → n ≡ run_length is_cut os
    → new ≡ old ++ (text (cuts n) ++ codes "\n") → IsLineFor text os n old new
cuts_line text os [] o p n old new s h e d r w = absurd (omega arith)
cuts_line text os (q ∷ outs) o p n old new s h e d r w =
    let begins : os ≡ cut p ∷ outs_of outs = s ∙ ap (λ x. out_of x ∷ outs_of outs) (sym e ∙ d) in
    let count : n ≡ suc (run_length is_cut (outs_of outs)) = r ∙ ap (run_length is_cut) begins in
    let lines : lines_of os ≡ cuts n ∷ lines_of (drop n os) = rw (begins, count) (cut_run p (outs_of outs)) in
    within_line text os (cuts n) n old new (omega arith) (rw (begins, count) (omega (arith, run_within is_cut (outs_of outs)))) lines w

pub stuck_line : (text : Line → List ℕ) (os : List NominalOut) (outs : List Out) (o : Out) (p : List ℕ) (n : ℕ) (old new : List ℕ) → os ≡ outs_of outs → 1 ≤ length outs → o ≡ get_or outs 0 o → o ≡ code.Stuck p → n ≡ run_length is_stuck os
    → new ≡ old ++ (text (stucks n) ++ codes "\n") → IsLineFor text os n old new
stuck_line text os [] o p n old new s h e d r w = absurd (omega arith)
stuck_line text os (q ∷ outs) o p n old new s h e d r w =
    let begins : os ≡ stuck p ∷ outs_of outs = s ∙ ap (λ x. out_of x ∷ outs_of outs) (sym e ∙ d) in
    let count : n ≡ suc (run_length is_stuck (outs_of outs)) = r ∙ ap (run_length is_stuck) begins in
    let lines : lines_of os ≡ stucks n ∷ lines_of (drop n os) = rw (begins, count) (stuck_run p (outs_of outs)) in
    within_line text os (stucks n) n old new (omega arith) (rw (begins, count) (omega (arith, run_within is_stuck (outs_of outs)))) lines w

drop_outs : (n : ℕ) (outs : List Out) → drop n (outs_of outs) ≡ outs_of (drop n outs)
drop_outs zero outs = refl
drop_outs (suc n) [] = refl
drop_outs (suc n) (o ∷ outs) = drop_outs n outs

length_outs : (outs : List Out) → length (outs_of outs) ≡ length outs
length_outs [] = refl
length_outs (o ∷ outs) = ap suc (length_outs outs)

pub within_outs : (text : Line → List ℕ) (outs : List Out) (n : ℕ) (old new : List ℕ) → IsLineFor text (outs_of outs) n old new → n ≤ length outs
within_outs text outs n old new h = subst (λ m. n ≤ m) (length_outs outs) h.within

pub lines_further : (text : Line → List ℕ) (outs rest : List Out) (n : ℕ) (old new all : List ℕ) → IsLineFor text (outs_of outs) n old new → rest ≡ drop n outs
    → old ++ ended (map text (lines_of (outs_of outs))) ≡ all → new ++ ended (map text (lines_of (outs_of rest))) ≡ all
lines_further text outs rest n old new all h e w = ap (λ os. new ++ ended (map text (lines_of os))) (ap outs_of e ∙ sym (drop_outs n outs)) ∙ h.written ∙ w

ended_one_more : (ws : List (List ℕ)) (w : List ℕ) → ended ws ++ (w ++ codes "\n") ≡ ended (ws ++ w ∷ [])
ended_one_more [] w = refl
ended_one_more (v ∷ ws) w = append_assoc v (10 ∷ ended ws) (w ++ codes "\n") ∙ ap (λ bs. v ++ 10 ∷ bs) (ended_one_more ws w)

pub report_written : (ws : List (List ℕ)) (w o1 o2 : List ℕ) → o1 ≡ ended ws → o2 ≡ o1 ++ (w ++ codes "\n") → o2 ≡ ended (ws ++ w ∷ [])
report_written ws w o1 o2 a b = b ∙ ap (λ bs. bs ++ (w ++ codes "\n")) a ∙ ended_one_more ws w

-- counted in the code, and counted in what it means
kept_both : {X Y : Type 0} (b : Bool) (x : X) (y : Y) (xs : List X) (ys : List Y) → length xs ≡ length ys → length (cond b (x ∷ xs) xs) ≡ length (cond b (y ∷ ys) ys)
kept_both true x y xs ys e = ap suc e
kept_both false x y xs ys e = e

kept_length : (test : NominalOut → Bool) (outs : List Out) → length (filter (λ o. test (out_of o)) outs) ≡ count_of test (outs_of outs)
kept_length test [] = refl
kept_length test (o ∷ outs) = kept_both (test (out_of o)) o (out_of o) (filter (λ p. test (out_of p)) outs) (filter test (outs_of outs)) (kept_length test outs)

pub counted : (test : NominalOut → Bool) (outs : List Out) → count_by (λ o. test (out_of o)) outs ≡ count_of test (outs_of outs)
counted test outs = sym (length-filter (λ o. test (out_of o)) outs) ∙ kept_length test outs
