use Rattle.std.proofs.Common.{◌≡◌, ◌+◌}
use Rattle.ap_defs.specs.Terms.{term_of}
use Rattle.ap_defs.specs.Walks.{term_in_frames, term_made, term_work, term_frames_work}
use Rattle.ap_machine.specs.Closed.{canonically_moved}
use Rattle.ap_machine.proofs.moving.moved_term.Given as goal

-- what is made of the part, within what stands round it, is all
abbrev pub invariant-moving : goal.invariant-moving
invariant-moving l = term_in_frames (canonically_moved l.swaps) l.frames.items (term_made (canonically_moved l.swaps) l.part) ≡ canonically_moved l.swaps (term_of l.fn.t)

abbrev pub decreases-moving : goal.decreases-moving
decreases-moving l = term_frames_work l.frames.items + term_work l.part
