-- The numbers so far, and the free ones of those that are left to try, are all.
use Rattle.std.proofs.Common.{◌≡◌, ◌-◌, ◌+◌, ◌++◌}
use Rattle.ap_answers.specs.Words.{free_numbers}
use Rattle.ap_answers.proofs.words.free_numbers.Given as goal

abbrev pub invariant-loop-i : goal.invariant-loop-i
invariant-loop-i l = l.numbers.items ++ free_numbers l.letter l.words (l.i + 1) (l.tried - l.i) ≡ free_numbers l.letter l.words 1 l.tried
