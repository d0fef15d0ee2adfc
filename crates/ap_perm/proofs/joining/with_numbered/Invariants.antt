use Rattle.std.proofs.Common.{◌≡◌, ◌^◌, ◌++◌, drop, map}
use Rattle.ap_defs.specs.Renaming.{AreSwapsBelow, rename_swap}
use Rattle.ap_perm.proofs.joining.with_numbered.Given as goal

-- the joined ones so far and those to come are all of them, and what is to come fits
abbrev pub invariant-loop-s : goal.invariant-loop-s
invariant-loop-s l = record {
  told : l.p.items ++ map (rename_swap l.base) (drop l.s-index l.q) ≡ l.initial.p.items ++ map (rename_swap l.base) l.q;
  fits : AreSwapsBelow (2 ^ 64) (map (rename_swap l.base) (drop l.s-index l.q));
}
