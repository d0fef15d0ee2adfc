-- Exams output by output.
use Rattle.std.specs.Prelude.{◌≡◌, ◌≤◌, ◌<◌, ◌+◌, ◌^◌, ℕ, length}
use Rattle.ap_defs.specs.Answers.{NominalAnswer, NominalOut, cut, found, stuck}
use Rattle.ap_defs.specs.Goals.{NominalProgram, NominalQuery}
use Rattle.ap_ground.specs.TypedGroundings.{HaveInhabitants}
use Rattle.ap_program.specs.Typed.{IsTypedQuery, term_form}
use Rattle.ap_property.specs.PutIn.{query_put_in}
use Rattle.ap_property.specs.Stated.{Instance, stated}
use Rattle.ap_examine.specs.Exams.{NominalExam, clear, counter, instance_of, verdict_on}
use Rattle.ap_examine.specs.declared.exam.Exam.{Exam}
use Rattle.ap_examine.specs.declared.exam.Exam.TheVariants as exam
use Rattle.ap_examine.specs.declared.exam.Tally.{Tally}
use Rattle.ap_property.specs.declared.verdict.Verdict.{Verdict}
use Rattle.ap_property.specs.declared.verdict.Verdict.TheVariants as verdict

-- The second program differs from the first in its queries alone, of which it has some.
pub record Asks (p r : NominalProgram) : Type 0 where
  pub signature : r.signature ≡ p.signature
  pub clauses : r.clauses ≡ p.clauses
  pub words : r.words ≡ p.words
  pub some : 1 ≤ length r.queries

-- The answer's variables have inhabited types, and the conclusion for its stated instance is typed.
pub record IsExaminable (p : NominalProgram) (q : NominalQuery) (a : NominalAnswer) : Type 0 where
  pub inhabited : HaveInhabitants p.signature.constructors a.vars
  pub typed : IsTypedQuery term_form p.signature (query_put_in q (stated p.signature.constructors q.locals a))

abbrev pub IsExaminableOut : NominalProgram → NominalQuery → NominalOut → Type 0
IsExaminableOut p q (found r a) = IsExaminable p q a
IsExaminableOut p q (cut r) = Unit {0}
IsExaminableOut p q (stuck r) = Unit {0}

abbrev pub total_of_tally : Tally → ℕ
total_of_tally t = t.held + t.unsettled + t.cut + t.stuck

-- one more can be counted
abbrev pub IsSmallTally : Tally → Type 0
IsSmallTally t = total_of_tally t < 2 ^ 63

-- the totals with one more
abbrev pub exam_after : Verdict → Tally → Instance → NominalExam
exam_after verdict.Refuted t i = counter (record { answer = t.held + t.unsettled + 1; instance = i })
exam_after verdict.Held t i = clear (record t { held = t.held + 1 })
exam_after verdict.Open t i = clear (record t { unsettled = t.unsettled + 1 })

abbrev pub IsCounter : Exam → Type 0
IsCounter (exam.Counter n s) = Unit {0}
IsCounter (exam.Clear t) = ⊥

module _ (p : NominalProgram) (depth : ℕ) (q : NominalQuery) where
  abbrev pub exam_next : Tally → NominalOut → NominalExam
  exam_next t (found r a) = exam_after (verdict_on p depth q a) t (instance_of p depth q a)
  exam_next t (cut r) = clear (record t { cut = t.cut + 1 })
  exam_next t (stuck r) = clear (record t { stuck = t.stuck + 1 })
