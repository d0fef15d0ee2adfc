use Rattle.std.proofs.Common.{◌≡◌, drop}
use Rattle.ap_defs.specs.Permutations.{act_name, inverse}
use Rattle.ap_judge.proofs.swappings.preimage.Given as goal

abbrev pub invariant-loop-swap : goal.invariant-loop-swap
invariant-loop-swap l = act_name (inverse (drop l.swap-index l.swaps)) l.moved ≡ act_name (inverse l.swaps) l.initial.moved
