-- The lines of exams, one after the other.
use Rattle.std.proofs.Common.{◌≡◌, ◌∙◌, ◌+◌, ℕ, suc, List, [], ◌∷◌, ◌++◌, refl, sym, ap, arith}
use Rattle.std.proofs.lemmas.List.{append_assoc, append-nil}
use Rattle.ap_defs.specs.declared.outcomes.Answer.{Answer}
use Rattle.ap_defs.specs.Answers.{answer_of}
use Rattle.ap_defs.specs.Goals.{NominalProgram, NominalQuery}
use Rattle.ap_defs.specs.Types.{NominalLocal, NominalSignature}
use Rattle.ap_examine.specs.Exams as exams
use Rattle.ap_examine.specs.Exams.{NominalExam, clear, counter}
use Rattle.ap_examine.specs.declared.exam.Exam.TheVariants as exam
use Rattle.ap_examine.specs.Reports.{instance_as_answer, counter_text, exam_text, exams_from}
use Rattle.ap_examine.specs.Steps.{Asks}
use Rattle.ap_examine.specs.Views.{AreExams, IsExam}
use Rattle.ap_examine.specs.declared.exam.Exam.{Exam}

-- the exams that are left, and what is written so far
pub record AreLeft (p : NominalProgram) (depth : ℕ) (out : List ℕ) (k : ℕ) (xs : List Exam) (qs whole : List NominalQuery) : Type 0 where
  pub exams : AreExams p depth xs qs
  pub written : out ++ exams_from p depth k qs ≡ exams_from p depth 1 whole

-- a text is the same by a program that differs in its queries alone
pub text_there : (p r : NominalProgram) → Asks p r → (locals : List NominalLocal) (k : ℕ) (e : NominalExam) → exam_text r locals k e ≡ exam_text p locals k e
text_there p r h locals k (counter c) =
    ap (λ ws. counter_text (record p { words = ws; signature = r.signature }) locals k (instance_as_answer c.instance)) h.words
    ∙ ap (λ (s : NominalSignature). counter_text (record p { signature = s }) locals k (instance_as_answer c.instance)) h.signature
text_there p r h locals k (clear t) = refl

pub counter_written : (p : NominalProgram) (locals : List NominalLocal) (k n : ℕ) (a : Answer) (e : NominalExam) → IsExam (exam.Counter n a) e → counter_text p locals k (answer_of a) ≡ exam_text p locals k e
counter_written p locals k n a (counter c) h = ap (counter_text p locals k) h.1
counter_written p locals k n a (clear t) h = absurd h

pub next_line : (p r : NominalProgram) → Asks p r → (depth : ℕ) (out more : List ℕ) (k n : ℕ) (x : Exam) (xs : List Exam) (q : NominalQuery) (qs whole : List NominalQuery)
    → n ≡ k + 1 → ((e : NominalExam) → IsExam x e → more ≡ out ++ exam_text r q.locals k e) → AreLeft p depth out k (x ∷ xs) (q ∷ qs) whole → AreLeft p depth more n xs qs whole
next_line p r h depth out more k n x xs q qs whole one said left =
    let line = said (exams.exam p depth q) left.exams.0 ∙ ap (λ t. out ++ t) (text_there p r h q.locals k (exams.exam p depth q)) in
    let next : n ≡ suc k = one ∙ omega arith in
    record {
      exams = left.exams.1;
      written = ap (λ m. more ++ exams_from p depth m qs) next ∙ ap (λ t. t ++ exams_from p depth (suc k) qs) line
          ∙ append_assoc out (exam_text p q.locals k (exams.exam p depth q)) (exams_from p depth (suc k) qs) ∙ left.written;
    }

-- all is written
pub no_line : (p : NominalProgram) (depth : ℕ) (out : List ℕ) (k : ℕ) (xs : List Exam) (qs whole : List NominalQuery) → AreLeft p depth out k xs qs whole → qs ≡ [] → out ≡ exams_from p depth 1 whole
no_line p depth out k xs qs whole left e = sym (append-nil out) ∙ sym (ap (λ rest. out ++ exams_from p depth k rest) e) ∙ left.written
