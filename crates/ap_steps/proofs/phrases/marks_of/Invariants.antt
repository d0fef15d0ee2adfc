use Rattle.std.proofs.Common.{length}
use Rattle.ap_steps.proofs.phrases.marks_of.Given as goal

abbrev pub decreases-passing : goal.decreases-passing
decreases-passing l = length l.rest
