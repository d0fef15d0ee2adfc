-- The names of the swappings that are left, beside those so far, are all.
use Rattle.std.proofs.Common.{◌≡◌, drop}
use Rattle.ap_defs.specs.Permutations.{names_of}
use Rattle.ap_answers.specs.Occurring.{more_names}
use Rattle.ap_answers.proofs.occurrences.add_swapped.Given as goal

abbrev pub invariant-loop-swap : goal.invariant-loop-swap
invariant-loop-swap l = more_names l.names.keys (names_of (drop l.swap-index l.swaps)) ≡ more_names l.fn.names.keys (names_of l.swaps)
