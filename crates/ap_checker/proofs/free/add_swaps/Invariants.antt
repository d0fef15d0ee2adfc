use Rattle.std.proofs.Common.{◌≡◌, ◌++◌, take}
use Rattle.ap_defs.specs.Permutations.{names_of}
use Rattle.ap_checker.proofs.free.add_swaps.Given as goal

abbrev pub invariant-loop-s : goal.invariant-loop-s
invariant-loop-s l = l.names.items ≡ l.fn.names.items ++ names_of (take l.s-index l.swaps)
