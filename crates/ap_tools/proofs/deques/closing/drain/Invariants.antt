use Rattle.std.proofs.Common.{◌≡◌, ◌≤◌, ◌+◌, ◌-◌, ◌++◌, length, vec_capacity}
use Rattle.crossbeam_deque.specs.Handles.{worker_view}
use Rattle.ap_tools.specs.Rule.{hand}
use Rattle.ap_tools.specs.Owners.{IsLifoOwner}
use Rattle.ap_tools.proofs.deques.closing.drain.Given as goal

abbrev pub invariant-loop-path : goal.invariant-loop-path
invariant-loop-path g l =
    IsLifoOwner l.deque
    × (worker_view l.deque ≡ hand 1024 (worker_view l.initial.deque).pushed ((worker_view l.initial.deque).popped ++ l.left.items) (worker_view l.initial.deque).stolen)
    × (length (worker_view l.initial.deque).pushed ≤ length (worker_view l.initial.deque).popped + vec_capacity l.left)

abbrev pub decreases-loop-path : goal.decreases-loop-path
decreases-loop-path g l = length (worker_view l.deque).pushed - length (worker_view l.deque).popped
