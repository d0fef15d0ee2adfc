use Rattle.std.proofs.Common.{◌≡◌, ◌-◌, ◌++◌, drop, length}
use Rattle.ap_paths.specs.History.{kids_of}
use Rattle.ap_play.proofs.workers.Worker.take_kids.Given as goal

abbrev pub invariant-loop-i : goal.invariant-loop-i
invariant-loop-i l = (l.self.hand.items ≡ kids_of l.path (drop (length l.kids - l.i) l.kids) ++ l.initial.self.hand.items) × (l.self.deque.items ≡ l.initial.self.deque.items)
