-- What is written, the next part, and what waits, are the whole text.
use Rattle.std.proofs.Common.{◌≡◌, ◌+◌, ◌++◌}
use Rattle.ap_defs.specs.Printing.{term_at}
use Rattle.ap_defs.specs.Terms.{term_of}
use Rattle.ap_answers.specs.Places.{written_place}
use Rattle.ap_answers.specs.Spelled.{spelling_in}
use Rattle.ap_answers.specs.Writing.{next_work, text_left, waiting_work}
use Rattle.ap_answers.proofs.text.write_term.Given as goal

abbrev pub invariant-writing : goal.invariant-writing
invariant-writing l = text_left (spelling_in l.by) l.out.items l.waiting.items l.next ≡ l.fn.out.items ++ term_at (spelling_in l.fn.by) (term_of l.fn.term) (written_place l.fn.place)

abbrev pub decreases-writing : goal.decreases-writing
decreases-writing l = waiting_work l.waiting.items + next_work l.next
