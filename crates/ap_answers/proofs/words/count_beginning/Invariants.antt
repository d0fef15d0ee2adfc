-- No more are counted than were looked at.
use Rattle.std.proofs.Common.{◌≤◌}
use Rattle.ap_answers.proofs.words.count_beginning.Given as goal

abbrev pub invariant-loop-word : goal.invariant-loop-word
invariant-loop-word l = l.count ≤ l.word-index
