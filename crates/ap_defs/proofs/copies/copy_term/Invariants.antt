use Rattle.std.proofs.Common.{◌≡◌, ◌+◌}
use Rattle.ap_defs.specs.Terms.{term_of}
use Rattle.ap_defs.specs.Walks.{term_in_frames, term_made, term_work, term_frames_work}
use Rattle.ap_defs.proofs.copies.copy_term.Given as goal

-- what is made of the part, within what stands round it, is all
abbrev pub invariant-copying : goal.invariant-copying
invariant-copying l = term_in_frames (λ u. u) l.frames.items (term_made (λ u. u) l.part) ≡ term_of l.fn.t

abbrev pub decreases-copying : goal.decreases-copying
decreases-copying l = term_frames_work l.frames.items + term_work l.part
