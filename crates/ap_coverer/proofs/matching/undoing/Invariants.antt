-- Those that act, and those of the suspension so far.
use Rattle.std.proofs.Common.{◌≡◌, ◌++◌, map, take}
use Rattle.ap_defs.specs.Renaming.{replace_swap}
use Rattle.ap_coverer.proofs.matching.undoing.Given as goal

abbrev pub invariant-loop-s : goal.invariant-loop-s
invariant-loop-s l = l.all.items ≡ l.acting ++ map (replace_swap l.swaps) (take l.s-index l.waiting)
