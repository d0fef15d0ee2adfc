use Rattle.std.proofs.Common.{length}
use Rattle.ap_values.proofs.ground.+apply_perm.Given as goal

abbrev pub decreases-apply_perm : goal.decreases-apply_perm
decreases-apply_perm l = length l.p.now
