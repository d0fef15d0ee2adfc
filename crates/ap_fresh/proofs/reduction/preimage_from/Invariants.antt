use Rattle.std.proofs.Common.{◌≡◌, drop, map}
use Rattle.ap_defs.specs.Permutations.{act_name, inverse}
use Rattle.ap_defs.specs.Renaming.{AreSwapsBelow, rename_swap}
use Rattle.ap_fresh.proofs.reduction.preimage_from.Given as goal

-- what is left to undo, and it fits
abbrev pub invariant-loop-swap : goal.invariant-loop-swap
invariant-loop-swap l = record {
  undone : act_name (inverse (map (rename_swap l.base) (drop l.swap-index l.swaps))) l.moved ≡ act_name (inverse (map (rename_swap l.base) l.swaps)) l.initial.moved;
  fits : AreSwapsBelow l.end (map (rename_swap l.base) (drop l.swap-index l.swaps));
}
