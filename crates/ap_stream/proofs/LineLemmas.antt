-- The lines of outputs of which some came before: each longest run of cuts or of stuck branches gives one.
use Rattle.std.proofs.Common.{◌≡◌, ℕ, zero, suc, ◌+◌, ◌<◌, Bool, false, List, [], ◌∷◌, ◌++◌, map, refl, sym, ap, ◌∙◌, arith, append-nil, append_assoc}
use Rattle.std.specs.Prelude.{◌==◌, if◌then◌else◌, codes, replicate}
use Rattle.std.specs.Fmt.{decimal}
use Rattle.std.proofs.lemmas.Bool.Decides.{nat_tests}
use Rattle.ap_defs.specs.Answers.{NominalAnswer, NominalOut, found, cut, stuck}
use Rattle.ap_defs.specs.Goals.{NominalProgram}
use Rattle.ap_defs.specs.Lines.{Line, answer, answer_text, count_of, cuts, is_cut, is_found, is_stuck, stucks, line_before, line_text, lines_of, ended}
use Rattle.ap_defs.specs.Types.{NominalLocal}
use Rattle.ap_stream.specs.Builders.{built_text, line_of_pending, outs_of_pending, report_with, totals_by, totals_line}
use Rattle.ap_stream.specs.declared.builder.ReportBuilder.{ReportBuilder}
use Rattle.ap_stream.specs.declared.builder.PendingRun.{PendingRun}
use Rattle.ap_stream.specs.declared.builder.PendingRun.TheVariants as runs

in_order : (a b c d e f g h i j : List ℕ) → ((((((((a ++ b) ++ c) ++ d) ++ e) ++ f) ++ g) ++ h) ++ i) ++ j ≡ a ++ (b ++ (c ++ (d ++ (e ++ (f ++ (g ++ (h ++ (i ++ j))))))))
in_order a b c d e f g h i j = simp append_assoc refl

pub ended_totals : (k n c s : ℕ) → totals_by k n c s ++ codes "\n" ≡ totals_line k n c s
ended_totals k n c s = in_order (codes "% query ") (decimal k) (codes ": ") (decimal n) (codes " answers, ") (decimal c) (codes " cut, ") (decimal s) (codes " stuck") (codes "\n")

-- lines do not tell paths
pub cut_sees_no_path : (p : List ℕ) (ls : List Line) → line_before (cut p) ls ≡ line_before (cut []) ls
cut_sees_no_path p [] = refl
cut_sees_no_path p (answer a ∷ ls) = refl
cut_sees_no_path p (cuts n ∷ ls) = refl
cut_sees_no_path p (stucks n ∷ ls) = refl

pub stuck_sees_no_path : (p : List ℕ) (ls : List Line) → line_before (stuck p) ls ≡ line_before (stuck []) ls
stuck_sees_no_path p [] = refl
stuck_sees_no_path p (answer a ∷ ls) = refl
stuck_sees_no_path p (cuts n ∷ ls) = refl
stuck_sees_no_path p (stucks n ∷ ls) = refl

before_stuck : (p : List ℕ) (ls : List Line) → line_before (cut []) (line_before (stuck p) ls) ≡ cuts 1 ∷ line_before (stuck p) ls
before_stuck p [] = refl
before_stuck p (answer a ∷ ls) = refl
before_stuck p (cuts n ∷ ls) = refl
before_stuck p (stucks n ∷ ls) = refl

before_cut : (p : List ℕ) (ls : List Line) → line_before (stuck []) (line_before (cut p) ls) ≡ stucks 1 ∷ line_before (cut p) ls
before_cut p [] = refl
before_cut p (answer a ∷ ls) = refl
before_cut p (cuts n ∷ ls) = refl
before_cut p (stucks n ∷ ls) = refl

many_both : (n m : ℕ) (o : NominalOut) (os : List NominalOut) → replicate (n + m) o ++ os ≡ replicate n o ++ (replicate m o ++ os)
many_both zero m o os = ap (λ (i : ℕ). replicate i o ++ os) (let e : 0 + m ≡ m = omega arith in e)
many_both (suc n) m o os =
    ap (λ (i : ℕ). replicate i o ++ os) (let e : suc n + m ≡ suc (n + m) = omega arith in e) ∙ ap (λ (xs : List NominalOut). o ∷ xs) (many_both n m o os)

-- what is not told of an output is not told of it behind others
unseen : (front : List NominalOut) (o p : NominalOut) (os : List NominalOut) → ((ls : List Line) → line_before o ls ≡ line_before p ls) → lines_of (front ++ o ∷ os) ≡ lines_of (front ++ p ∷ os)
unseen [] o p os same = same (lines_of os)
unseen (x ∷ xs) o p os same = ap (line_before x) (unseen xs o p os same)

-- how many of each kind there are with so many cuts, and with so many stuck branches
pub cuts_found : (n : ℕ) (os : List NominalOut) → count_of is_found (replicate n (cut []) ++ os) ≡ count_of is_found os
cuts_found zero os = refl
cuts_found (suc n) os = cuts_found n os

pub cuts_cut : (n : ℕ) (os : List NominalOut) → count_of is_cut (replicate n (cut []) ++ os) ≡ n + count_of is_cut os
cuts_cut zero os = omega arith
cuts_cut (suc n) os = omega (arith, cuts_cut n os)

pub cuts_stuck : (n : ℕ) (os : List NominalOut) → count_of is_stuck (replicate n (cut []) ++ os) ≡ count_of is_stuck os
cuts_stuck zero os = refl
cuts_stuck (suc n) os = cuts_stuck n os

pub stuck_found : (n : ℕ) (os : List NominalOut) → count_of is_found (replicate n (stuck []) ++ os) ≡ count_of is_found os
stuck_found zero os = refl
stuck_found (suc n) os = stuck_found n os

pub stuck_cut : (n : ℕ) (os : List NominalOut) → count_of is_cut (replicate n (stuck []) ++ os) ≡ count_of is_cut os
stuck_cut zero os = refl
stuck_cut (suc n) os = stuck_cut n os

pub stuck_stuck : (n : ℕ) (os : List NominalOut) → count_of is_stuck (replicate n (stuck []) ++ os) ≡ n + count_of is_stuck os
stuck_stuck zero os = omega arith
stuck_stuck (suc n) os = omega (arith, stuck_stuck n os)

-- A run of outputs of one kind.
module _ (o : NominalOut) (line : ℕ → Line) (next : (n : ℕ) (ls : List Line) → line_before o (line n ∷ ls) ≡ line (suc n) ∷ ls) where
  -- it ends, where others follow
  pub run_ends : (n : ℕ) (os : List NominalOut) → line_before o (lines_of os) ≡ line 1 ∷ lines_of os → lines_of (replicate (suc n) o ++ os) ≡ line (suc n) ∷ lines_of os
  run_ends zero os e = e
  run_ends (suc n) os e = ap (line_before o) (run_ends n os e) ∙ next (suc n) (lines_of os)

  -- what is written where it ends, and what is left to write
  pub run_written : (text : Line → List ℕ) (n : ℕ) (os : List NominalOut) (old : List ℕ) (totals : List (List ℕ)) → line_before o (lines_of os) ≡ line 1 ∷ lines_of os
      → (old ++ (text (line (suc n)) ++ codes "\n")) ++ ended (map text (lines_of os) ++ totals) ≡ old ++ ended (map text (lines_of (replicate (suc n) o ++ os)) ++ totals)
  run_written text n os old totals e =
      let rest = ended (map text (lines_of os) ++ totals) in
      append_assoc old (text (line (suc n)) ++ codes "\n") rest
      ∙ ap (λ bs. old ++ bs) (append_assoc (text (line (suc n))) (codes "\n") rest)
      ∙ ap (λ ls. old ++ ended (map text ls ++ totals)) (sym (run_ends n os e))

-- the outputs that follow do not go on with the run
abbrev Ends : PendingRun → List NominalOut → Type 0
Ends (runs.Cuts n) os = line_before (cut []) (lines_of os) ≡ cuts 1 ∷ lines_of os
Ends (runs.Stuck n) os = line_before (stuck []) (lines_of os) ≡ stucks 1 ∷ lines_of os

after_zero : (n : ℕ) → (suc n == 0) ≡ false
after_zero n = grind (arith, nat_tests)

line_of_more : (n : ℕ) (w : List ℕ) → (if suc n == 0 then [] else w) ≡ w
line_of_more n w = ap (λ (b : Bool). if b then [] else w) (after_zero n)

-- What is written with a run, with its line written and without.
module _ (program : NominalProgram) (locals : List NominalLocal) where
  abbrev behind : List ℕ → List Line → List ℕ → List ℕ
  behind written ls totals = written ++ ended (map (line_text program locals) ls ++ totals ∷ [])

  line_written : (run : PendingRun) (os : List NominalOut) (old new totals : List ℕ) → new ≡ old ++ line_of_pending run → Ends run os
      → behind new (lines_of os) totals ≡ built_text program locals old run os totals
  line_written (runs.Cuts zero) os old new totals e none = ap (λ bs. behind bs (lines_of os) totals) (e ∙ append-nil old)
  line_written (runs.Cuts (suc n)) os old new totals e none =
      ap (λ bs. behind bs (lines_of os) totals) (e ∙ ap (λ w. old ++ w) (line_of_more n (codes "% cut " ++ decimal (suc n) ++ codes "\n")))
      ∙ run_written (cut []) cuts (λ n ls. refl) (line_text program locals) n os old (totals ∷ []) none
  line_written (runs.Stuck zero) os old new totals e none = ap (λ bs. behind bs (lines_of os) totals) (e ∙ append-nil old)
  line_written (runs.Stuck (suc n)) os old new totals e none =
      ap (λ bs. behind bs (lines_of os) totals) (e ∙ ap (λ w. old ++ w) (line_of_more n (codes "% stuck " ++ decimal (suc n) ++ codes "\n")))
      ∙ run_written (stuck []) stucks (λ n ls. refl) (line_text program locals) n os old (totals ∷ []) none

  pub cuts_go_on : (n m k : ℕ) (os : List NominalOut) (old totals : List ℕ) → k ≡ n + m
      → built_text program locals old (runs.Cuts k) os totals ≡ built_text program locals old (runs.Cuts n) (replicate m (cut []) ++ os) totals
  cuts_go_on n m k os old totals e =
      ap (λ x. behind old (lines_of (replicate x (cut []) ++ os)) totals) e ∙ ap (λ xs. behind old (lines_of xs) totals) (many_both n m (cut []) os)

  pub stuck_go_on : (n m k : ℕ) (os : List NominalOut) (old totals : List ℕ) → k ≡ n + m
      → built_text program locals old (runs.Stuck k) os totals ≡ built_text program locals old (runs.Stuck n) (replicate m (stuck []) ++ os) totals
  stuck_go_on n m k os old totals e =
      ap (λ x. behind old (lines_of (replicate x (stuck []) ++ os)) totals) e ∙ ap (λ xs. behind old (lines_of xs) totals) (many_both n m (stuck []) os)

  pub cuts_begin : (n m : ℕ) (os : List NominalOut) (old new totals : List ℕ) → 0 < m → new ≡ old ++ line_of_pending (runs.Stuck n)
      → built_text program locals new (runs.Cuts m) os totals ≡ built_text program locals old (runs.Stuck n) (replicate m (cut []) ++ os) totals
  cuts_begin n zero os old new totals some e = absurd (omega arith)
  cuts_begin n (suc m) os old new totals some e =
      line_written (runs.Stuck n) (replicate (suc m) (cut []) ++ os) old new totals e (before_cut [] (lines_of (replicate m (cut []) ++ os)))

  pub stuck_begin : (n m : ℕ) (os : List NominalOut) (old new totals : List ℕ) → 0 < m → new ≡ old ++ line_of_pending (runs.Cuts n)
      → built_text program locals new (runs.Stuck m) os totals ≡ built_text program locals old (runs.Cuts n) (replicate m (stuck []) ++ os) totals
  stuck_begin n zero os old new totals some e = absurd (omega arith)
  stuck_begin n (suc m) os old new totals some e =
      line_written (runs.Cuts n) (replicate (suc m) (stuck []) ++ os) old new totals e (before_stuck [] (lines_of (replicate m (stuck []) ++ os)))

  -- one of them may have a path
  pub cut_unseen : (query : ℕ) (b : ReportBuilder) (path : List ℕ) (os : List NominalOut)
      → report_with program query locals b (replicate 1 (cut []) ++ os) ≡ report_with program query locals b (cut path ∷ os)
  cut_unseen query b path os =
      let totals = totals_by query (b.answers + count_of is_found os) (b.cuts + suc (count_of is_cut os)) (b.stuck + count_of is_stuck os) in
      ap (λ ls. behind b.bytes.items ls totals) (unseen (outs_of_pending b.run) (cut []) (cut path) os (λ ls. sym (cut_sees_no_path path ls)))

  pub stuck_unseen : (query : ℕ) (b : ReportBuilder) (path : List ℕ) (os : List NominalOut)
      → report_with program query locals b (replicate 1 (stuck []) ++ os) ≡ report_with program query locals b (stuck path ∷ os)
  stuck_unseen query b path os =
      let totals = totals_by query (b.answers + count_of is_found os) (b.cuts + count_of is_cut os) (b.stuck + suc (count_of is_stuck os)) in
      ap (λ ls. behind b.bytes.items ls totals) (unseen (outs_of_pending b.run) (stuck []) (stuck path) os (λ ls. sym (stuck_sees_no_path path ls)))

  ends_found : (run : PendingRun) (path : List ℕ) (a : NominalAnswer) (os : List NominalOut) → Ends run (found path a ∷ os)
  ends_found (runs.Cuts n) path a os = refl
  ends_found (runs.Stuck n) path a os = refl

  ends_none : (run : PendingRun) → Ends run []
  ends_none (runs.Cuts n) = refl
  ends_none (runs.Stuck n) = refl

  -- the line of an answer behind that of the run
  pub answer_written : (run : PendingRun) (path : List ℕ) (a : NominalAnswer) (os : List NominalOut) (old flushed text new totals : List ℕ) → flushed ≡ old ++ line_of_pending run
      → text ≡ flushed ++ answer_text program locals a → new ≡ text ++ codes "\n"
      → built_text program locals new (runs.Cuts 0) os totals ≡ built_text program locals old run (found path a ∷ os) totals
  answer_written run path a os old flushed text new totals e f g =
      ap (λ bs. behind bs (lines_of os) totals) (g ∙ ap (λ bs. bs ++ codes "\n") f)
      ∙ append_assoc (flushed ++ answer_text program locals a) (codes "\n") (ended (map (line_text program locals) (lines_of os) ++ totals ∷ []))
      ∙ append_assoc flushed (answer_text program locals a) (codes "\n" ++ ended (map (line_text program locals) (lines_of os) ++ totals ∷ []))
      ∙ line_written run (found path a ∷ os) old flushed totals e (ends_found run path a os)

  -- the totals behind the line of the run
  pub totals_written : (run : PendingRun) (old flushed new totals : List ℕ) → flushed ≡ old ++ line_of_pending run → new ≡ flushed ++ (totals ++ codes "\n") → new ≡ built_text program locals old run [] totals
  totals_written run old flushed new totals e f = f ∙ line_written run [] old flushed totals e (ends_none run)
