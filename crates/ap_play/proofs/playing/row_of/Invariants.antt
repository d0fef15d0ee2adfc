use Rattle.std.proofs.Common.{◌≡◌, ◌++◌}
use Rattle.ap_play.proofs.playing.row_of.Given as goal

abbrev pub invariant-loop-path : goal.invariant-loop-path
invariant-loop-path l = l.row.items ++ l.paths.items ≡ l.initial.paths.items

abbrev pub decreases-loop-path : goal.decreases-loop-path
decreases-loop-path l = l.paths.len
