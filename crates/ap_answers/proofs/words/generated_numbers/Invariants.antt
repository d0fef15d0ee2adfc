-- The words of the numbers so far, and as many as are wanting of those that are left to try, are all.
use Rattle.std.proofs.Common.{◌≡◌, ◌-◌, ◌+◌, ◌≤◌, ◌++◌, length, take}
use Rattle.ap_defs.specs.Printing.{new_words}
use Rattle.ap_answers.specs.Words.{numbered_words}
use Rattle.ap_answers.proofs.WordLemmas.{rest_of_words}
use Rattle.ap_answers.proofs.words.generated_numbers.Given as goal

abbrev pub invariant-loop-i : goal.invariant-loop-i
invariant-loop-i l = record {
  all : numbered_words l.letter l.numbers.items ++ take (l.count - length l.numbers.items) (rest_of_words l.letter l.words (l.i + 1) (l.limit - l.i)) ≡ new_words l.letter l.words l.count;
  few : length l.numbers.items ≤ l.count;
}
