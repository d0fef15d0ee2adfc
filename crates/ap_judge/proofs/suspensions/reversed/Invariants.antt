use Rattle.std.proofs.Common.{◌≡◌, drop}
use Rattle.ap_defs.specs.Permutations.{inverse}
use Rattle.ap_judge.proofs.suspensions.reversed.Given as goal

abbrev pub invariant-loop-i : goal.invariant-loop-i
invariant-loop-i l = l.all.items ≡ inverse (drop l.i l.swaps)
