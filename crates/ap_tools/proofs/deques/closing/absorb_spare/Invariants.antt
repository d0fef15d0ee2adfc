use Rattle.std.proofs.Common.{◌≡◌, ◌+◌, length}
use Rattle.crossbeam_deque.specs.Handles.{worker_deque, worker_view}
use Rattle.ap_tools.specs.Ends.{AreSpare}
use Rattle.ap_tools.specs.Owners.{IsLifoOwner}
use Rattle.ap_tools.proofs.deques.closing.absorb_spare.Given as goal

abbrev pub invariant-loop-pass : goal.invariant-loop-pass
invariant-loop-pass g l =
    IsLifoOwner l.deque
    × (worker_deque l.deque ≡ worker_deque l.initial.deque)
    × AreSpare (worker_deque l.initial.deque) l.spare.items
    × ((worker_view l.deque).parts + length l.spare.items ≡ (worker_view l.initial.deque).parts + length l.initial.spare.items)
    × ((worker_view l.deque).pushed ≡ (worker_view l.initial.deque).pushed)
    × ((worker_view l.deque).popped ≡ (worker_view l.initial.deque).popped)
    × ((worker_view l.deque).stolen ≡ (worker_view l.initial.deque).stolen)

abbrev pub decreases-loop-pass : goal.decreases-loop-pass
decreases-loop-pass g l = goal.left-loop-pass g l
