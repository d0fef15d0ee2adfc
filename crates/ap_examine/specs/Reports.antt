-- What is written of a program's properties.
use Rattle.std.specs.Prelude.{ℕ, suc, List, [], ◌∷◌, ◌++◌, Option, None, Some, if◌then◌else◌, codes, map}
use Rattle.std.specs.Fmt.{decimal}
use Rattle.ap_defs.specs.Answers.{NominalAnswer}
use Rattle.ap_defs.specs.Goals.{NominalProgram, NominalQuery}
use Rattle.ap_defs.specs.Lines.{answer_text}
use Rattle.ap_defs.specs.Types.{NominalLocal}
use Rattle.ap_defs.specs.Typing.{embedded}
use Rattle.ap_property.specs.Properties.{is_property}
use Rattle.ap_property.specs.Stated.{Instance}
use Rattle.ap_report.specs.declared.report.Report.{Report}
use Rattle.ap_report.specs.declared.status.Status.TheVariants as status
use Rattle.ap_report.specs.TextReport.{IsTextReport}
use Rattle.ap_examine.specs.declared.exam.Tally.{Tally}
use Rattle.ap_examine.specs.Exams.{NominalExam, clear, counter, exam}

-- an instance, as an answer
abbrev pub instance_as_answer : Instance → NominalAnswer
instance_as_answer i = record { binds = map embedded i.terms; conds = []; vars = [] }

-- what is said of the property with the number k
abbrev pub property_line : ℕ → List ℕ → List ℕ
property_line k said = codes "% property " ++ (decimal k ++ (codes ": " ++ (said ++ codes "\n")))

-- what is said where there is no counterexample
abbrev pub tally_said : Tally → List ℕ
tally_said t =
    codes "no counterexample, " ++ (decimal t.held ++ (codes " held, " ++ (decimal t.unsettled ++ (codes " open, "
    ++ (decimal t.cut ++ (codes " cut, " ++ (decimal t.stuck ++ codes " stuck")))))))

-- the answer that shows a counterexample, and the line of its property
abbrev pub counter_text : NominalProgram → List NominalLocal → ℕ → NominalAnswer → List ℕ
counter_text p locals k a = answer_text p locals a ++ (codes "\n" ++ property_line k (codes "counterexample"))

-- what is written of an exam: the counterexample and its line, or the line of the totals
abbrev pub exam_text : NominalProgram → List NominalLocal → ℕ → NominalExam → List ℕ
exam_text p locals k (counter c) = counter_text p locals k (instance_as_answer c.instance)
exam_text p locals k (clear t) = property_line k (tally_said t)

-- that of queries that are numbered from k on
abbrev pub exams_from : NominalProgram → ℕ → ℕ → List NominalQuery → List ℕ
exams_from p depth k [] = []
exams_from p depth k (q ∷ qs) = exam_text p q.locals k (exam p depth q) ++ exams_from p depth (suc k) qs

-- the first of the queries that are numbered from k on that is no property
abbrev pub first_other : ℕ → List NominalQuery → Option ℕ
first_other k [] = None
first_other k (q ∷ qs) = if is_property q.goal then first_other (suc k) qs else Some k

abbrev pub other_or : Option ℕ → List ℕ → Report
other_or None bytes = record { bytes = bytes; status = status.Ok }
other_or (Some k) bytes = record { bytes = codes "% query " ++ (decimal k ++ codes ": not a property\n"); status = status.NotAProperty }

-- the report of `examine` on a program, to a depth
abbrev pub exam_report : ℕ → NominalProgram → Report
exam_report depth p = other_or (first_other 1 p.queries) (exams_from p depth 1 p.queries)

-- and on a text
abbrev pub IsExamReport : ℕ → List ℕ → Report → Type 0
IsExamReport depth text = IsTextReport (exam_report depth) text
