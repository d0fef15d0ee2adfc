use Rattle.std.proofs.Common.{◌≡◌, ◌+◌}
use Rattle.ap_defs.specs.Terms.{term_of}
use Rattle.ap_defs.specs.Walks.{term_in_frames, term_made, term_work, term_frames_work}
use Rattle.ap_instance.specs.Tables.{settled_term}
use Rattle.ap_instance.proofs.stating.stated_term.Given as goal

-- what is made of the part, within what stands round it, is all
abbrev pub invariant-stating : goal.invariant-stating
invariant-stating l = term_in_frames (settled_term l.names l.picks) l.frames.items (term_made (settled_term l.names l.picks) l.part) ≡ settled_term l.names l.picks (term_of l.fn.term)

abbrev pub decreases-stating : goal.decreases-stating
decreases-stating l = term_frames_work l.frames.items + term_work l.part
