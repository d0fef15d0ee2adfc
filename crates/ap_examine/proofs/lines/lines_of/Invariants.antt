-- What is written so far, and what is to be said of the exams that are left, are all.
use Rattle.std.proofs.Common.{◌≡◌, ◌+◌, ℕ, length, map}
use Rattle.ap_defs.specs.Goals.{NominalProgram, program_of, query_of}
use Rattle.ap_examine.specs.Steps.{Asks}
use Rattle.ap_examine.specs.Views.{AreExams}
use Rattle.ap_examine.proofs.LineLemmas.{AreLeft}
use Rattle.ap_examine.proofs.lines.lines_of.Given as goal

abbrev pub invariant-writing : goal.invariant-writing
invariant-writing l = record {
  all : (p : NominalProgram) (depth : ℕ) → Asks p (program_of l.fn.program) → AreExams p depth l.fn.exams (map query_of l.fn.queries)
      → AreLeft p depth l.out.items l.number l.right (map query_of l.left) (map query_of l.fn.queries);
  small : l.number + length l.left ≡ 1 + length l.fn.queries;
}

abbrev pub decreases-writing : goal.decreases-writing
decreases-writing l = length l.left
