use Rattle.std.proofs.Common.{◌≡◌, ◌-◌, ◌^◌, min, take}
use Rattle.ap_book.specs.Counts.{entries_counted}
use Rattle.ap_book.proofs.counting.Answered.at_places.Given as goal

abbrev pub invariant-loop-place : goal.invariant-loop-place
invariant-loop-place l = l.count ≡ min (entries_counted l.path l.history (take l.place-index l.self.places.items)) (2 ^ 64 - 1)
