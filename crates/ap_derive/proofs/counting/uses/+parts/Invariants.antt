use Rattle.std.proofs.Common.{◌+◌, ◌*◌}
use Rattle.ap_derive.proofs.counting.uses.+parts.Given as goal

abbrev pub decreases-uses : goal.decreases-uses
decreases-uses g l = 2 * l.workers

abbrev pub decreases-front : goal.decreases-front
decreases-front g l = 2 * l.half + 1

abbrev pub decreases-back : goal.decreases-back
decreases-back g l = 2 * l.others + 1
