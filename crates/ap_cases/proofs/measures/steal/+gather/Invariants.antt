use Rattle.std.proofs.Common.{length}
use Rattle.ap_cases.proofs.measures.steal.+gather.Given as goal

-- the levels that are left
abbrev pub decreases-gather : goal.decreases-gather
decreases-gather l = length l.levels.now
