-- Exams output by output.
use Rattle.std.proofs.Common.{◌≡◌, ◌∙◌, ◌+◌, ℕ, suc, Bool, true, false, List, [], ◌∷◌, length, refl, sym, ap, subst, arith}
use Rattle.std.specs.Prelude.{if◌then◌else◌, filter}
use Rattle.ap_defs.specs.Answers.{NominalOut, cut, found, query_outs, stuck}
use Rattle.ap_defs.specs.Goals.{NominalProgram, NominalQuery}
use Rattle.ap_defs.specs.Lines.{count_of, is_cut, is_stuck}
use Rattle.ap_defs.specs.Types.{NominalSignature}
use Rattle.ap_ground.specs.TypedGroundings.{HaveInhabitants}
use Rattle.ap_program.specs.Typed.{IsTypedQuery, term_form}
use Rattle.ap_soundness.specs.FoundStates.{EachAnswer}
use Rattle.ap_property.specs.PutIn.{asking, query_put_in}
use Rattle.ap_property.specs.Stated.{stated}
use Rattle.ap_examine.specs.Exams.{NominalExam, clear, counter, counter_among, counter_if, exam_of, exam_with, holds, instance_of, is_held, is_verdict_open, is_unsettled, tally_of, verdict_on}
use Rattle.ap_property.specs.Verdicts.{verdict_of_outs}
use Rattle.ap_examine.specs.Views.{IsExam}
use Rattle.ap_examine.specs.declared.exam.Exam.{Exam}
use Rattle.ap_examine.specs.declared.exam.Exam.TheVariants as exam
use Rattle.ap_examine.specs.Steps.{Asks, IsCounter, IsExaminable, IsExaminableOut, exam_after, exam_next, total_of_tally}
use Rattle.ap_examine.specs.declared.exam.Tally.{Tally}
use Rattle.ap_property.specs.declared.verdict.Verdict.{Verdict}
use Rattle.ap_property.specs.declared.verdict.Verdict.TheVariants as verdict

-- what is asked another query, and then one more
pub asked_again : (p r s : NominalProgram) → Asks p r → Asks r s → Asks p s
asked_again p r s h k = record { signature = k.signature ∙ h.signature; clauses = k.clauses ∙ h.clauses; words = k.words ∙ h.words; some = k.some }

pub asks_one : (p r : NominalProgram) (q : NominalQuery) → r ≡ asking p q → Asks p r
asks_one p r q e = subst (Asks p) (sym e) (record { signature = refl; clauses = refl; words = refl; some = omega arith })

-- a list without length
pub none_left : {A : Type 0} (xs : List A) → length xs ≡ 0 → xs ≡ []
none_left [] e = refl
none_left (x ∷ xs) e = absurd (omega (arith, e))

-- the totals of two parts
abbrev pub tally : ℕ → ℕ → ℕ → ℕ → Tally
tally h u c s = record { held = h; unsettled = u; cut = c; stuck = s }

abbrev pub with_tally : Tally → Tally → Tally
with_tally t u = tally (t.held + u.held) (t.unsettled + u.unsettled) (t.cut + u.cut) (t.stuck + u.stuck)

tally_same : (h i u v c d s t : ℕ) → h ≡ i → u ≡ v → c ≡ d → s ≡ t → tally h u c s ≡ tally i v d t
tally_same h i u v c d s t e f g k = ap (λ x. tally x u c s) e ∙ ap (λ x. tally i x c s) f ∙ ap (λ x. tally i v x s) g ∙ ap (λ x. tally i v d x) k

abbrev bit : Bool → ℕ
bit true = 1
bit false = 0

counted : (test : NominalOut → Bool) (o : NominalOut) (os : List NominalOut) → count_of test (o ∷ os) ≡ bit (test o) + count_of test os
counted test o os = counted_if (test o)
  where
    counted_if : (b : Bool) → length (if b then (o ∷ filter test os) else filter test os) ≡ bit b + count_of test os
    counted_if true = omega arith
    counted_if false = omega arith

cleared : (t u : Tally) → clear t ≡ clear u → t ≡ u
cleared t u e = cc

module _ (p : NominalProgram) (depth : ℕ) (q : NominalQuery) where
  abbrev pub goes_on : NominalExam → (Tally → NominalExam) → NominalExam
  goes_on (counter c) f = counter c
  goes_on (clear t) f = f t

  abbrev pub exam_from : Tally → List NominalOut → NominalExam
  exam_from t [] = clear t
  exam_from t (o ∷ os) = goes_on (exam_next p depth q t o) (λ u. exam_from u os)

  tally_next : (o : NominalOut) (os : List NominalOut) (t u : Tally) → u.held ≡ t.held + bit (holds p depth q o) → u.unsettled ≡ t.unsettled + bit (is_unsettled p depth q o)
      → u.cut ≡ t.cut + bit (is_cut o) → u.stuck ≡ t.stuck + bit (is_stuck o) → with_tally u (tally_of p depth q os) ≡ with_tally t (tally_of p depth q (o ∷ os))
  tally_next o os t u e f g k =
      tally_same _ _ _ _ _ _ _ _
      (moved u.held t.held (count_of (holds p depth q) os) _ (bit (holds p depth q o)) e (counted (holds p depth q) o os))
      (moved u.unsettled t.unsettled (count_of (is_unsettled p depth q) os) _ (bit (is_unsettled p depth q o)) f (counted (is_unsettled p depth q) o os))
      (moved u.cut t.cut (count_of is_cut os) _ (bit (is_cut o)) g (counted is_cut o os))
      (moved u.stuck t.stuck (count_of is_stuck os) _ (bit (is_stuck o)) k (counted is_stuck o os))
    where
      moved : (x y m n b : ℕ) → x ≡ y + b → n ≡ b + m → x + m ≡ y + n
      moved x y m n b i j = omega (arith, i, j)

  -- from totals on, the exam has the first counterexample, or the totals with those of the outputs
  steps : (t : Tally) (os : List NominalOut) → exam_from t os ≡ exam_with (counter_among p depth q (t.held + t.unsettled + 1) os) (with_tally t (tally_of p depth q os))
  steps t [] = ap clear (tally_same _ _ _ _ _ _ _ _ (omega arith) (omega arith) (omega arith) (omega arith))
  steps t (cut r ∷ os) =
      let u : Tally = record t { cut = t.cut + 1 } in
      steps u os ∙ ap (exam_with (counter_among p depth q (t.held + t.unsettled + 1) os)) (tally_next (cut r) os t u (omega arith) (omega arith) refl (omega arith))
  steps t (stuck r ∷ os) =
      let u : Tally = record t { stuck = t.stuck + 1 } in
      steps u os ∙ ap (exam_with (counter_among p depth q (t.held + t.unsettled + 1) os)) (tally_next (stuck r) os t u (omega arith) (omega arith) (omega arith) refl)
  steps t (found r a ∷ os) = judged (λ u. steps u os) (verdict_on p depth q a) refl
    where
      none : (m b : ℕ) → b ≡ 0 → m ≡ m + b
      none m b e = omega (arith, e)

      judged : ((u : Tally) → exam_from u os ≡ exam_with (counter_among p depth q (u.held + u.unsettled + 1) os) (with_tally u (tally_of p depth q os)))
          → (v : Verdict) → verdict_on p depth q a ≡ v → goes_on (exam_after v t (instance_of p depth q a)) (λ u. exam_from u os)
          ≡ exam_with (counter_if v (record { answer = t.held + t.unsettled + 1; instance = instance_of p depth q a }) (counter_among p depth q (suc (t.held + t.unsettled + 1)) os)) (with_tally t (tally_of p depth q (found r a ∷ os)))
      judged later verdict.Refuted e = refl
      judged later verdict.Held e =
          let u : Tally = record t { held = t.held + 1 } in
          let yes : bit (is_held (verdict_on p depth q a)) ≡ 1 = ap (λ v. bit (is_held v)) e in
          let no : bit (is_verdict_open (verdict_on p depth q a)) ≡ 0 = ap (λ v. bit (is_verdict_open v)) e in
          let next : u.held + u.unsettled + 1 ≡ suc (t.held + t.unsettled + 1) = omega arith in
          later u
          ∙ ap (λ n. exam_with (counter_among p depth q n os) (with_tally u (tally_of p depth q os))) next
          ∙ ap (exam_with (counter_among p depth q (suc (t.held + t.unsettled + 1)) os)) (tally_next (found r a) os t u (ap (λ b. t.held + b) (sym yes)) (none t.unsettled _ no) (omega arith) (omega arith))
      judged later verdict.Open e =
          let u : Tally = record t { unsettled = t.unsettled + 1 } in
          let no : bit (is_held (verdict_on p depth q a)) ≡ 0 = ap (λ v. bit (is_held v)) e in
          let yes : bit (is_verdict_open (verdict_on p depth q a)) ≡ 1 = ap (λ v. bit (is_verdict_open v)) e in
          let next : u.held + u.unsettled + 1 ≡ suc (t.held + t.unsettled + 1) = omega arith in
          later u
          ∙ ap (λ n. exam_with (counter_among p depth q n os) (with_tally u (tally_of p depth q os))) next
          ∙ ap (exam_with (counter_among p depth q (suc (t.held + t.unsettled + 1)) os)) (tally_next (found r a) os t u (none t.held _ no) (ap (λ b. t.unsettled + b) (sym yes)) (omega arith) (omega arith))

  abbrev pub no_tally : Tally
  no_tally = tally 0 0 0 0

  pub all_steps : (os : List NominalOut) → exam_from no_tally os ≡ exam_of p depth q os
  all_steps os = steps no_tally os ∙ ap (exam_with (counter_among p depth q 1 os)) (tally_same _ _ _ _ _ _ _ _ (omega arith) (omega arith) (omega arith) (omega arith))

  -- one more is counted
  pub total_next : (t u : Tally) (o : NominalOut) → exam_next p depth q t o ≡ clear u → total_of_tally u ≡ total_of_tally t + 1
  total_next t u (cut r) e = ap total_of_tally (sym (cleared _ _ e)) ∙ omega arith
  total_next t u (stuck r) e = ap total_of_tally (sym (cleared _ _ e)) ∙ omega arith
  total_next t u (found r a) e = judged (verdict_on p depth q a) e
    where
      judged : (v : Verdict) → exam_after v t (instance_of p depth q a) ≡ clear u → total_of_tally u ≡ total_of_tally t + 1
      judged verdict.Refuted k = cc
      judged verdict.Held k = ap total_of_tally (sym (cleared _ _ k)) ∙ omega arith
      judged verdict.Open k = ap total_of_tally (sym (cleared _ _ k)) ∙ omega arith

-- where an exam ends, and where it goes on
pub counter_ends : (x : Exam) → IsCounter x → (e : NominalExam) → IsExam x e → (p : NominalProgram) (depth : ℕ) (q : NominalQuery) (f : Tally → NominalExam) → IsExam x (goes_on p depth q e f)
counter_ends (exam.Counter n s) i (counter c) h p depth q f = h
counter_ends (exam.Counter n s) i (clear t) h p depth q f = absurd h
counter_ends (exam.Clear t) i e h p depth q f = absurd i

pub clear_is : (t : Tally) (e : NominalExam) → IsExam (exam.Clear t) e → e ≡ clear t
clear_is t (counter c) h = absurd h
clear_is t (clear u) h = ap clear (sym h)

-- what is asked of a program that differs in its queries alone
module _ (p r : NominalProgram) (k : Asks p r) (depth : ℕ) (q : NominalQuery) where
  pub examinable_there : (o : NominalOut) → IsExaminableOut p q o → IsExaminableOut r q o
  examinable_there (found s a) h = record {
    inhabited = subst (λ (sig : NominalSignature). HaveInhabitants sig.constructors a.vars) (sym k.signature) h.inhabited;
    typed = subst (λ (sig : NominalSignature). IsTypedQuery term_form sig (query_put_in q (stated sig.constructors q.locals a))) (sym k.signature) h.typed;
  }
  examinable_there (cut s) h = tt
  examinable_there (stuck s) h = tt

  pub exam_there : (t : Tally) (o : NominalOut) → exam_next r depth q t o ≡ exam_next p depth q t o
  exam_there t (found s a) =
      ap (λ css. exam_after (verdict_of_outs (query_outs css depth (query_put_in q (stated r.signature.constructors q.locals a)))) t (stated r.signature.constructors q.locals a)) k.clauses
      ∙ ap (λ (sig : NominalSignature). exam_after (verdict_of_outs (query_outs p.clauses depth (query_put_in q (stated sig.constructors q.locals a)))) t (stated sig.constructors q.locals a)) k.signature
  exam_there t (cut s) = refl
  exam_there t (stuck s) = refl

pub first_examinable : (p : NominalProgram) (q : NominalQuery) (o : NominalOut) (os : List NominalOut) → EachAnswer (IsExaminable p q) (o ∷ os) → IsExaminableOut p q o × EachAnswer (IsExaminable p q) os
first_examinable p q (found r a) os h = h
first_examinable p q (cut r) os h = (tt, h)
first_examinable p q (stuck r) os h = (tt, h)
