use Rattle.std.proofs.Common.{◌≡◌, ◌++◌, take}
use Rattle.ap_tools.specs.States.{joined_all}
use Rattle.ap_play.proofs.playing.copy_rows.Given as goal

abbrev pub invariant-loop-row : goal.invariant-loop-row
invariant-loop-row l = l.all.items ≡ l.initial.all.items ++ joined_all (take l.row-index l.rows)
