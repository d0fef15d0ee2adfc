use Rattle.std.proofs.Common.{◌≡◌, ◌^◌, ◌++◌, drop, map}
use Rattle.ap_defs.specs.Renaming.{AreSwapsBelow}
use Rattle.ap_defs.specs.Renaming.{rename_swap as renamed_swap}
use Rattle.ap_values.proofs.renaming.rename_swaps.Given as goal

-- those so far and those to come are all of them, and what is to come fits
abbrev pub invariant-loop-s : goal.invariant-loop-s
invariant-loop-s l = record {
  told : l.renamed.items ++ map (renamed_swap l.base) (drop l.s-index l.swaps) ≡ map (renamed_swap l.base) l.swaps;
  fits : AreSwapsBelow (2 ^ 64) (map (renamed_swap l.base) (drop l.s-index l.swaps));
}
