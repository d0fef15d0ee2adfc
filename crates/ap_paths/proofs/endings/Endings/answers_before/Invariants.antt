use Rattle.std.proofs.Common.{◌≡◌, ◌+◌, ◌-◌, ◌^◌, ◌≤◌, min}
use Rattle.ap_paths.specs.Ends.{ends_in, ends_of}
use Rattle.ap_paths.specs.Merging.{found_before}
use Rattle.ap_paths.proofs.endings.Endings.answers_before.Given as goal

abbrev pub invariant-loop-key : goal.invariant-loop-key
invariant-loop-key l =
    (min (l.count + found_before l.path (ends_of (ends_in l.key-iterator))) (2 ^ 64 - 1) ≡ min (found_before l.path (ends_of (ends_in l.initial.key-iterator))) (2 ^ 64 - 1))
    × (l.count ≤ 2 ^ 64 - 1)
