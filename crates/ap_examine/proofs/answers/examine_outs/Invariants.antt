-- The exam goes on from the totals so far with the outputs that are left.
use Rattle.std.proofs.Common.{◌≡◌, ◌+◌, length}
use Rattle.ap_defs.specs.Answers.{outs_of}
use Rattle.ap_defs.specs.Goals.{program_of, query_of}
use Rattle.ap_soundness.specs.FoundStates.{EachAnswer}
use Rattle.ap_examine.specs.Steps.{Asks, IsExaminable, total_of_tally}
use Rattle.ap_examine.proofs.StepLemmas.{exam_from, no_tally}
use Rattle.ap_examine.proofs.answers.examine_outs.Given as goal

abbrev pub invariant-examining : goal.invariant-examining
invariant-examining g l =
    let p = program_of l.fn.program in
    let q = query_of l.fn.query in
    record {
      asks : Asks p (program_of l.program);
      each : EachAnswer (IsExaminable p q) (outs_of l.rest);
      exam : exam_from p l.fn.depth q l.tally (outs_of l.rest) ≡ exam_from p l.fn.depth q (no_tally p l.fn.depth q) (outs_of l.fn.outs);
      small : total_of_tally l.tally + length l.rest ≡ length l.fn.outs;
    }

abbrev pub decreases-examining : goal.decreases-examining
decreases-examining g l = length l.rest
