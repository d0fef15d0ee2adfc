use Rattle.std.proofs.Common.{◌≡◌, ◌++◌, take}
use Rattle.ap_play.proofs.playing.copy_row.Given as goal

abbrev pub invariant-loop-path : goal.invariant-loop-path
invariant-loop-path l = l.all.items ≡ l.initial.all.items ++ take l.path-index l.row
