use Rattle.std.proofs.Common.{◌≡◌, ◌++◌, take}
use Rattle.ap_defs.specs.Permutations.{inverse}
use Rattle.ap_unify.proofs.sides.put_inverse.Given as goal

-- those that were put and those to come are all of them
abbrev pub invariant-loop-i : goal.invariant-loop-i
invariant-loop-i l = l.swaps.items ++ inverse (take l.i l.p) ≡ l.initial.swaps.items ++ inverse l.p
