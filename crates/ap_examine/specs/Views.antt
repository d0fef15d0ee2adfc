-- What values of this crate stand for.
use Rattle.std.specs.Prelude.{◌≡◌, ℕ, List, [], ◌∷◌}
use Rattle.ap_defs.specs.Answers.{answer_of}
use Rattle.ap_defs.specs.Goals.{NominalProgram, NominalQuery}
use Rattle.ap_examine.specs.Exams as exams
use Rattle.ap_examine.specs.Exams.{NominalExam, clear, counter}
use Rattle.ap_examine.specs.Reports.{instance_as_answer}
use Rattle.ap_examine.specs.declared.exam.Exam.{Exam}
use Rattle.ap_examine.specs.declared.exam.Exam.TheVariants as exam

abbrev pub IsExam : Exam → NominalExam → Type 0
IsExam (exam.Counter n a) (counter c) = (n ≡ c.answer) × (answer_of a ≡ instance_as_answer c.instance)
IsExam (exam.Counter n a) (clear t) = ⊥
IsExam (exam.Clear t) (counter c) = ⊥
IsExam (exam.Clear t) (clear u) = t ≡ u

-- the exams of queries, in order
abbrev pub AreExams : NominalProgram → ℕ → List Exam → List NominalQuery → Type 0
AreExams p depth [] [] = Unit {0}
AreExams p depth [] (q ∷ qs) = ⊥
AreExams p depth (x ∷ xs) [] = ⊥
AreExams p depth (x ∷ xs) (q ∷ qs) = IsExam x (exams.exam p depth q) × AreExams p depth xs qs
