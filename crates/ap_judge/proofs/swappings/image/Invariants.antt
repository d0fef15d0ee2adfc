use Rattle.std.proofs.Common.{◌≡◌, take}
use Rattle.ap_defs.specs.Permutations.{act_name}
use Rattle.ap_judge.proofs.swappings.image.Given as goal

abbrev pub invariant-loop-i : goal.invariant-loop-i
invariant-loop-i l = act_name (take l.i l.swaps) l.moved ≡ act_name l.swaps l.initial.moved
