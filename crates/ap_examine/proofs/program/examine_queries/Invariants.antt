-- The exams so far, and those of the queries that are left, are all.
use Rattle.std.proofs.Common.{◌++◌, List, length, map}
use Rattle.ap_defs.specs.Goals.{program_of, query_of}
use Rattle.ap_program.specs.Typed.{AreTypedQueries, term_form}
use Rattle.ap_examine.specs.Steps.{Asks}
use Rattle.ap_examine.specs.Views.{AreExams}
use Rattle.ap_examine.specs.declared.exam.Exam.{Exam}
use Rattle.ap_examine.proofs.program.examine_queries.Given as goal

abbrev pub invariant-examining : goal.invariant-examining
invariant-examining g l =
    let p = program_of l.fn.program in
    record {
      asks : Asks p (program_of l.program);
      typed : AreTypedQueries term_form p.signature (map query_of l.rest);
      exams : (xs : List Exam) → AreExams p l.fn.depth xs (map query_of l.rest) → AreExams p l.fn.depth (l.exams.items ++ xs) (map query_of l.fn.queries);
    }

abbrev pub decreases-examining : goal.decreases-examining
decreases-examining g l = length l.rest
