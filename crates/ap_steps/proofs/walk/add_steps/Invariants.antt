-- With the steps of all that wait those so far are all.
use Rattle.std.proofs.Common.{◌≡◌, ◌++◌, map}
use Rattle.ap_steps.specs.Waits.{steps_left, waiting_nodes}
use Rattle.ap_steps.specs.Writers.{written_step, writing_of}
use Rattle.ap_steps.proofs.walk.add_steps.Given as goal

abbrev pub invariant-steps : goal.invariant-steps
invariant-steps l =
    map written_step l.steps.items ++ steps_left (writing_of l.writer) l.waiting.items
    ≡ map written_step l.fn.steps.items ++ steps_left (writing_of l.writer) l.fn.waiting.items

abbrev pub decreases-steps : goal.decreases-steps
decreases-steps l = waiting_nodes l.waiting.items
