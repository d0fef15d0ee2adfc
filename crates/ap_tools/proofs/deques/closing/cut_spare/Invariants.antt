use Rattle.std.proofs.Common.{◌≡◌, ◌-◌, ◌≤◌, [], vec_len, vec_capacity}
use Rattle.crossbeam_deque.specs.Handles.{worker_deque, worker_view, worker_capacity, worker_index}
use Rattle.ap_tools.specs.Rule.{hand}
use Rattle.ap_tools.specs.Ends.{AreSpare}
use Rattle.ap_tools.specs.Owners.{IsLifoOwner}
use Rattle.ap_tools.proofs.deques.closing.cut_spare.Given as goal

abbrev pub invariant-loop : goal.invariant-loop
invariant-loop g l =
    IsLifoOwner l.deque
    × (worker_deque l.deque ≡ worker_deque l.initial.deque)
    × (worker_capacity l.initial.deque ≤ worker_capacity l.deque)
    × (worker_index l.deque ≡ worker_index l.initial.deque)
    × (worker_view l.deque ≡ hand (1023 - l.counter) [] [] [])
    × AreSpare (worker_deque l.initial.deque) l.spare.items
    × (vec_len l.spare ≡ l.counter)
    × (1023 ≤ vec_capacity l.spare)
