use Rattle.std.proofs.Common.{◌≡◌, drop, map}
use Rattle.ap_defs.specs.Permutations.{differing, names_of}
use Rattle.ap_perm.specs.Images.{name_at}
use Rattle.ap_perm.proofs.swappings.differing.Given as goal

abbrev pub invariant-loop-i : goal.invariant-loop-i
invariant-loop-i l = map name_at l.names.keys ≡ differing l.p l.q (names_of (drop l.i l.swaps.items))
