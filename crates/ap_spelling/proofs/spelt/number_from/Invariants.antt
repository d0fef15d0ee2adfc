-- From the number so far on, with as many words left as turns, the same number is found.
use Rattle.std.proofs.Common.{◌≡◌, ◌-◌, length}
use Rattle.ap_spelling.specs.Words as spec
use Rattle.ap_spelling.proofs.spelt.number_from.Given as goal

abbrev pub invariant-loop-turn : goal.invariant-loop-turn
invariant-loop-turn l = spec.number_from l.words l.word l.number (length l.words - l._turn) ≡ spec.number_from l.words l.word l.first (length l.words)
