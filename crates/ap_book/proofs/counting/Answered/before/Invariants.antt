use Rattle.std.proofs.Common.{◌≡◌, ◌-◌, ◌^◌, min, take}
use Rattle.ap_paths.specs.Entries.{entries_of}
use Rattle.ap_paths.specs.History.{answers_before}
use Rattle.ap_book.proofs.counting.Answered.before.Given as goal

abbrev pub invariant-loop-i : goal.invariant-loop-i
invariant-loop-i l = l.count ≡ min (answers_before l.path (entries_of (take l.i l.history))) (2 ^ 64 - 1)
