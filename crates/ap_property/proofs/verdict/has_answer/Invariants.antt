-- What is left has an answer where all have.
use Rattle.std.proofs.Common.{◌≡◌, length}
use Rattle.ap_defs.specs.Answers.{outs_of}
use Rattle.ap_property.specs.Verdicts.{has_answer}
use Rattle.ap_property.proofs.verdict.has_answer.Given as goal

abbrev pub invariant-looking : goal.invariant-looking
invariant-looking l = has_answer (outs_of l.rest) ≡ has_answer (outs_of l.fn.outs)

abbrev pub decreases-looking : goal.decreases-looking
decreases-looking l = length l.rest
