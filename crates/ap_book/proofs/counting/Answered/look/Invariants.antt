use Rattle.std.proofs.Common.{◌-◌, length}
use Rattle.ap_book.specs.Counts.{IsTallied}
use Rattle.ap_book.proofs.counting.Answered.look.Given as goal

abbrev pub invariant-loop-self : goal.invariant-loop-self
invariant-loop-self l = IsTallied l.history l.self.places.items l.self.seen

abbrev pub decreases-loop-self : goal.decreases-loop-self
decreases-loop-self l = length l.history - l.self.seen
