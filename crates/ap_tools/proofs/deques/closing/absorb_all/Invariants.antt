use Rattle.std.proofs.Common.{◌≡◌, ℕ, ◌+◌, List}
use Rattle.crossbeam_deque.specs.Handles.{worker_deque, worker_view}
use Rattle.ap_paths.specs.Weights.{weigh}
use Rattle.ap_tools.specs.Owners.{IsLifoOwner, AreThievesOf, parts_of_thieves, stolen_of}
use Rattle.ap_tools.proofs.deques.closing.absorb_all.Given as goal

abbrev pub invariant-loop-thief : goal.invariant-loop-thief
invariant-loop-thief g l =
    IsLifoOwner l.deque
    × (worker_deque l.deque ≡ worker_deque l.initial.deque)
    × AreThievesOf (worker_deque l.initial.deque) l.thieves.items
    × ((worker_view l.deque).parts + parts_of_thieves l.thieves.items ≡ (worker_view l.initial.deque).parts + parts_of_thieves l.initial.thieves.items)
    × ((worker_view l.deque).pushed ≡ (worker_view l.initial.deque).pushed)
    × ((worker_view l.deque).popped ≡ (worker_view l.initial.deque).popped)
    × ((h : List ℕ → ℕ) → weigh h (worker_view l.deque).stolen + stolen_of h l.thieves.items ≡ weigh h (worker_view l.initial.deque).stolen + stolen_of h l.initial.thieves.items)

abbrev pub decreases-loop-thief : goal.decreases-loop-thief
decreases-loop-thief g l = goal.left-loop-thief g l
